-- The truth of a comparison of two values.
use Rattle.std.specs.Prelude.{Bool, ◌==◌, List, [], ◌∷◌, if◌then◌else◌}
use Rattle.std.specs.declared.cmp.Ordering.{Ordering}
use Rattle.std.specs.Ordering.{eq_by_cmp, is_lt, is_le, is_gt, is_ge}
use Rattle.std.specs.Cmp.Lexicographic.{pointwise}
use Rattle.gc_base.specs.Ascending.{has, is_subset}
use Rattle.gc_base.specs.Literals.{kind_number, literal_order}
use Rattle.gc_base.specs.declared.literal.Literal.{Literal}
use Rattle.gc_expr.specs.declared.expr.Comparison.{Comparison}
use Rattle.gc_expr.specs.declared.expr.Comparison.TheVariants.{Equal, Unequal, Less, LessEqual, Greater, GreaterEqual, Member, Included}
use Rattle.gc_values.specs.declared.rank.Rank.{Rank}
use Rattle.gc_values.specs.declared.rank.Rank.TheVariants as rank
use Rattle.gc_values.specs.declared.val.Val.{Val}
use Rattle.gc_values.specs.declared.val.Val.TheVariants.{Set, Element, Undefined}
use Rattle.gc_values.specs.declared.truth3.Truth3.{Truth3}
use Rattle.gc_values.specs.declared.truth3.Truth3.TheVariants.{No, Unknown}
use Rattle.gc_values.specs.Kleene.{told, denied}

-- whether two sets have the same literals
abbrev pub same_set : List Literal → List Literal → Bool
same_set xs ys = pointwise (eq_by_cmp literal_order) xs ys

-- `=`: the same set or the same element; an element and a set differ
abbrev pub equal : Val → Val → Truth3
equal (Undefined why) b = Unknown
equal a (Undefined why) = Unknown
equal (Set xs) (Set ys) = told (same_set xs ys)
equal (Element a) (Element b) = told (a == b)
equal a b = No

-- `<` and its kin, by what the order has to be
module _ (test : Ordering → Bool) where
  -- two literals are ordered where they are of one kind
  abbrev pub ordered_literals : Literal → Literal → Truth3
  ordered_literals x y = if kind_number x == kind_number y then told (test (literal_order x y)) else Unknown

  -- false where a set is empty; unknown unless each is one literal
  abbrev pub ordered_sets : List Literal → List Literal → Truth3
  ordered_sets [] ys = No
  ordered_sets xs [] = No
  ordered_sets (x ∷ []) (y ∷ []) = ordered_literals x y
  ordered_sets xs ys = Unknown

  -- unknown where one is undefined, or no set
  abbrev pub ordered : Val → Val → Truth3
  ordered (Set xs) (Set ys) = ordered_sets xs ys
  ordered a b = Unknown

-- what the order has to be, by its name
abbrev pub test_of : Rank → Ordering → Bool
test_of rank.Less = is_lt
test_of rank.LessEqual = is_le
test_of rank.Greater = is_gt
test_of rank.GreaterEqual = is_ge

-- the literal of a set is a member of another: false where the set is empty, unknown where it has several
abbrev pub member_of : List Literal → List Literal → Truth3
member_of [] ys = No
member_of (x ∷ []) ys = told (has literal_order ys x)
member_of xs ys = Unknown

-- `IN`: unknown where one is undefined, or no set
abbrev pub member : Val → Val → Truth3
member (Set xs) (Set ys) = member_of xs ys
member a b = Unknown

-- `SUBSET`: unknown where one is undefined, or no set
abbrev pub included : Val → Val → Truth3
included (Set xs) (Set ys) = told (is_subset literal_order xs ys)
included a b = Unknown

-- the truth of each comparison
abbrev pub compared : Comparison → Val → Val → Truth3
compared Equal a b = equal a b
compared Unequal a b = denied (equal a b)
compared Less a b = ordered is_lt a b
compared LessEqual a b = ordered is_le a b
compared Greater a b = ordered is_gt a b
compared GreaterEqual a b = ordered is_ge a b
compared Member a b = member a b
compared Included a b = included a b
