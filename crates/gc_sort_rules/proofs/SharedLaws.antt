-- A variable of a later OPTIONAL has its first place behind the mandatory ones and before this OPTIONAL just where an
-- earlier OPTIONAL has it and the mandatory patterns have not.
use Rattle.std.proofs.Common.{◌≡◌, ℕ, ◌+◌, ◌<◌, ◌≤◌, Bool, true, false, cond, not, ◌&&◌, ◌||◌, nat_lt}
use Rattle.std.proofs.Common.{List, [], ◌∷◌, ◌++◌, length, None, Some, is_some, refl, sym, ap, ◌∙◌, append_assoc, length-append, arith}
use Rattle.std.specs.List.{list_any, find, position, position_or_len}
use Rattle.std.proofs.lemmas.Bool.Decides.{nat_tests}
use Rattle.std.proofs.lemmas.List.{length-map, map-append}
use Rattle.gc_ast.specs.Names.{same_name}
use Rattle.gc_sorts.specs.Matches.{is_between}
use Rattle.gc_sorts.specs.Orders.{first_place}
use Rattle.gc_sorts.specs.Variables.{Use, use_names, has_use}

-- whether a name has a place is whether it is one of the names
pub has_name_of : (uses : List Use) (name : List ℕ) → has_use uses name ≡ list_any (same_name name) (use_names uses)
has_name_of [] name = refl
has_name_of (u ∷ uses) name = choose (same_name name u.name) (has_name_of uses name)
  where
    choose : (t : Bool) → has_use uses name ≡ list_any (same_name name) (use_names uses)
        → is_some (cond t (Some u) (find (λ (v : Use). same_name name v.name) uses)) ≡ (t || list_any (same_name name) (use_names uses))
    choose true e = refl
    choose false e = e

module _ {X : Type 0} (p : X → Bool) where
  -- where the first of two lists has what passes, it is there
  in_first : (xs ys : List X) → list_any p xs ≡ true → position_or_len p (xs ++ ys) < length xs
  in_first [] ys h = grind arith
  in_first (x ∷ xs) ys h = choose (p x) refl (in_first xs ys)
    where
      choose : (t : Bool) → p x ≡ t → (list_any p xs ≡ true → position_or_len p (xs ++ ys) < length xs)
          → position_or_len p (x ∷ xs ++ ys) < length (x ∷ xs)
      choose true e rest = rw (e) (omega arith)
      choose false e rest = rw (e) (let h' : list_any p xs ≡ true = rw (e) at h in let l = rest h' in omega arith)

  -- and else in the second
  in_second : (xs ys : List X) → list_any p xs ≡ false → position_or_len p (xs ++ ys) ≡ length xs + position_or_len p ys
  in_second [] ys h = omega arith
  in_second (x ∷ xs) ys h = choose (p x) refl (in_second xs ys)
    where
      choose : (t : Bool) → p x ≡ t → (list_any p xs ≡ false → position_or_len p (xs ++ ys) ≡ length xs + position_or_len p ys)
          → position_or_len p (x ∷ xs ++ ys) ≡ length (x ∷ xs) + position_or_len p ys
      choose true e rest = grind arith
      choose false e rest = rw (e) (let h' : list_any p xs ≡ false = rw (e) at h in let l = rest h' in omega arith)

-- whether a place is between two numbers
before_both : (k count from upto : ℕ) → k < from → is_between from upto (cond (nat_lt k count) (Some k) None) ≡ false
before_both k count from upto h = choose (nat_lt k count)
  where
    choose : (t : Bool) → is_between from upto (cond t (Some k) None) ≡ false
    choose true = grind (arith, nat_tests)
    choose false = refl

behind_both : (k count from upto : ℕ) → upto ≤ k → is_between from upto (cond (nat_lt k count) (Some k) None) ≡ false
behind_both k count from upto h = choose (nat_lt k count)
  where
    choose : (t : Bool) → is_between from upto (cond t (Some k) None) ≡ false
    choose true = grind (arith, nat_tests)
    choose false = refl

inside : (k count from upto : ℕ) → from ≤ k → k < upto → upto ≤ count → is_between from upto (cond (nat_lt k count) (Some k) None) ≡ true
inside k count from upto h l m = grind (arith, nat_tests)

-- the first of three lists may have what passes, the second may, or neither
between : {X : Type 0} (p : X → Bool) (xs ys zs : List X)
    → is_between (length xs) (length xs + length ys) (position p (xs ++ (ys ++ zs))) ≡ (list_any p ys && not (list_any p xs))
between p xs ys zs = first (list_any p xs) refl
  where
    n : ℕ
    n = position_or_len p (xs ++ (ys ++ zs))

    all : ℕ
    all = length (xs ++ (ys ++ zs))

    whole : all ≡ length xs + (length ys + length zs)
    whole = length-append xs (ys ++ zs) ∙ ap (λ m. length xs + m) (length-append ys zs)

    no : (t : Bool) → t && false ≡ false
    no true = refl
    no false = refl

    second : list_any p xs ≡ false → (t : Bool) → list_any p ys ≡ t
        → is_between (length xs) (length xs + length ys) (position p (xs ++ (ys ++ zs))) ≡ (t && true)
    second e true f =
        inside n all (length xs) (length xs + length ys) (omega (arith, in_second p xs (ys ++ zs) e))
        (omega (arith, in_second p xs (ys ++ zs) e, in_first p ys zs f)) (omega (arith, whole))
    second e false f = behind_both n all (length xs) (length xs + length ys) (omega (arith, in_second p xs (ys ++ zs) e, in_second p ys zs f))

    first : (t : Bool) → list_any p xs ≡ t
        → is_between (length xs) (length xs + length ys) (position p (xs ++ (ys ++ zs))) ≡ (list_any p ys && not t)
    first true e = before_both n all (length xs) (length xs + length ys) (in_first p xs (ys ++ zs) e) ∙ sym (no (list_any p ys))
    first false e = second e (list_any p ys) refl

pub shared_is : (mandatory earlier own : List Use) (name : List ℕ)
    → is_between (length mandatory) (length (mandatory ++ earlier)) (first_place (use_names ((mandatory ++ earlier) ++ own)) name)
    ≡ (has_use earlier name && not (has_use mandatory name))
shared_is mandatory earlier own name =
    ap (λ upto. is_between (length mandatory) upto (first_place (use_names ((mandatory ++ earlier) ++ own)) name)) lengths
    ∙ (ap (λ names. is_between (length mandatory) (length mandatory + length earlier) (first_place names name)) names_of
    ∙ (ap (λ m. is_between m (m + length earlier) (first_place whole name)) (sym (length-map mandatory _))
    ∙ (ap (λ m. is_between (length first) (length first + m) (first_place whole name)) (sym (length-map earlier _))
    ∙ (between (same_name name) first second (use_names own)
    ∙ (ap (λ t. t && not (list_any (same_name name) first)) (sym (has_name_of earlier name))
    ∙ ap (λ t. has_use earlier name && not t) (sym (has_name_of mandatory name)))))))
  where
    first : List (List ℕ)
    first = use_names mandatory

    second : List (List ℕ)
    second = use_names earlier

    whole : List (List ℕ)
    whole = first ++ (second ++ use_names own)

    lengths : length (mandatory ++ earlier) ≡ length mandatory + length earlier
    lengths = length-append mandatory earlier

    names_of : use_names ((mandatory ++ earlier) ++ own) ≡ use_names mandatory ++ (use_names earlier ++ use_names own)
    names_of =
        ap use_names (append_assoc mandatory earlier own)
        ∙ (map-append _ mandatory (earlier ++ own) ∙ ap (λ ns. use_names mandatory ++ ns) (map-append _ earlier own))
