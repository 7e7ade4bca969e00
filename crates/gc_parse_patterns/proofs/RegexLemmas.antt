-- Lists of parts of regular path expressions, and their reader where it has room.
use Rattle.std.proofs.Common.{◌≡◌, refl, ap, sym, ◌∙◌, List, [], ◌∷◌, ◌++◌, length, map, get_or}
use Rattle.std.specs.List.{flat_map}
use Rattle.gc_expr.specs.Views.{Names, name_of}
use Rattle.gc_regx.specs.Trees.{RegexTree, ARegex, ARow, row}
use Rattle.gc_regx.specs.Views.{regex_tree}
use Rattle.gc_ast.specs.PatternViews.{all_named_by}
use Rattle.gc_grammar.specs.Regexes.{chained, views_of}
use Rattle.gc_parse_patterns.specs.declared.regex_part.Part.{Part}
use Rattle.gc_parse_patterns.specs.RegexViews.{part_view, parts_view}
use native.Mathlib.Omega.{arith}

-- a list of one part is the part
pub chained_one : (make : RegexTree ARow → RegexTree ARegex) (names : Names) (parts : List Part) (d : Part) → length parts ≡ 1
    → part_view names (get_or parts 0 d) ≡ chained make (parts_view names parts)
chained_one make names [] d h = absurd (omega (arith, h))
chained_one make names (part ∷ []) d h = refl
chained_one make names (part ∷ other ∷ parts) d h = absurd (omega (arith, h))

trees_of : (names : Names) (parts : List Part) → map (λ part. part.tree) (parts_view names parts) ≡ map (λ part. regex_tree part.regex) parts
trees_of names [] = refl
trees_of names (part ∷ parts) = ap (λ trees. regex_tree part.regex ∷ trees) (trees_of names parts)

map_both : {A B : Type 0} (f : A → B) (xs ys : List A) → map f xs ++ map f ys ≡ map f (xs ++ ys)
map_both f [] ys = refl
map_both f (x ∷ xs) ys = ap (λ rest. f x ∷ rest) (map_both f xs ys)

views_in : (names : Names) (parts : List Part) → views_of (parts_view names parts) ≡ all_named_by (name_of names) (flat_map (λ part. part.views.items) parts)
views_in names [] = refl
views_in names (part ∷ parts) =
    ap (λ rest. all_named_by (name_of names) part.views.items ++ rest) (views_in names parts)
    ∙ map_both (λ x. record { name = name_of names x.sym; token = x.token }) part.views.items (flat_map (λ p. p.views.items) parts)

-- several parts, or none, are a list
pub chained_apart : (make : RegexTree ARow → RegexTree ARegex) (names : Names) (parts : List Part) → (length parts ≡ 1 → ⊥)
    → record { tree = make (row (map (λ part. regex_tree part.regex) parts)); views = all_named_by (name_of names) (flat_map (λ part. part.views.items) parts) }
    ≡ chained make (parts_view names parts)
chained_apart make names [] h = refl
chained_apart make names (part ∷ []) h = absurd (h refl)
chained_apart make names (part ∷ other ∷ parts) h = λ j. record {
  tree = make (row (sym (trees_of names (part ∷ other ∷ parts)) j));
  views = sym (views_in names (part ∷ other ∷ parts)) j;
}
