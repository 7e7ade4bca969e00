-- Comparing the numbers of keys first changes no order.
use Rattle.std.proofs.Common.{◌≡◌, ℕ, ◌^◌, ◌<◌, nat_lt, Bool, true, false, cond, List, [], ◌∷◌, Option, None, Some, refl, sym, ap, ◌∙◌, subst, arith}
use Rattle.std.specs.declared.cmp.Ordering.{Ordering}
use Rattle.std.specs.declared.cmp.Ordering.TheVariants.{Less, Equal, Greater}
use Rattle.std.specs.Ordering.{nat_cmp, ordering_then, ordering_reverse}
use Rattle.std.specs.Option.{option_cmp}
use Rattle.std.specs.Cmp.{tied_itself}
use Rattle.std.specs.Cmp.Lexicographic.{lists_total, options_total, slice_cmp}
use Rattle.std.proofs.lemmas.Bool.Decides.{nat_tests}
use Rattle.gc_rows.specs.declared.datum.Datum.{Datum}
use Rattle.gc_rows.specs.declared.datum.Datum.TheVariants.{Node, Edge, Stored, Found, Span, Value, PastRange}
use Rattle.gc_rows.specs.Data.{datum_order}
use Rattle.gc_rows.specs.DataLaws.{datum_order_total}
use Rattle.gc_group.specs.Ranks.{part_rank, is_told, first_rank, second_rank}

less : (m n : ℕ) → m < n → nat_cmp m n ≡ Less
less m n h = grind (arith, nat_tests)

is_less : (m n : ℕ) → nat_cmp m n ≡ Less → m < n
is_less m n h = grind (arith, nat_tests)

is_greater : (m n : ℕ) → nat_cmp m n ≡ Greater → n < m
is_greater m n h = grind (arith, nat_tests)

is_equal : (m n : ℕ) → nat_cmp m n ≡ Equal → m ≡ n
is_equal m n h = grind (arith, nat_tests)

past : (d : Datum) → 2 ^ 63 < part_rank (Some d) → ⊥
past (Node j) h = omega arith
past (Edge j) h = omega arith
past (Stored j) h = omega arith
past (Found w) h = omega arith
past (Span a b) h = omega arith
past (Value w) h = omega arith
past PastRange h = omega arith

below : (j : ℕ) → nat_lt j (2 ^ 60) ≡ true → j < 2 ^ 60
below j h = grind (arith, nat_tests)

-- parts ascend with their numbers
parts_less : (c d : Option Datum) → part_rank c < part_rank d → option_cmp datum_order c d ≡ Less
parts_less None None h = absurd (omega arith)
parts_less None (Some d) h = refl
parts_less (Some (Node i)) None h = absurd (omega arith)
parts_less (Some (Edge i)) None h = absurd (omega arith)
parts_less (Some (Stored i)) None h = absurd (omega arith)
parts_less (Some (Found v)) None h = absurd (omega arith)
parts_less (Some (Span a b)) None h = absurd (omega arith)
parts_less (Some (Value v)) None h = absurd (omega arith)
parts_less (Some PastRange) None h = absurd (omega arith)
parts_less (Some (Node i)) (Some (Node j)) h = less i j (omega arith)
parts_less (Some (Node i)) (Some (Edge j)) h = refl
parts_less (Some (Node i)) (Some (Stored j)) h = refl
parts_less (Some (Node i)) (Some (Found w)) h = refl
parts_less (Some (Node i)) (Some (Span a b)) h = refl
parts_less (Some (Node i)) (Some (Value w)) h = refl
parts_less (Some (Node i)) (Some PastRange) h = refl
parts_less (Some (Edge i)) (Some (Node j)) h = absurd (omega arith)
parts_less (Some (Edge i)) (Some (Edge j)) h = less i j (omega arith)
parts_less (Some (Edge i)) (Some (Stored j)) h = refl
parts_less (Some (Edge i)) (Some (Found w)) h = refl
parts_less (Some (Edge i)) (Some (Span a b)) h = refl
parts_less (Some (Edge i)) (Some (Value w)) h = refl
parts_less (Some (Edge i)) (Some PastRange) h = refl
parts_less (Some (Stored i)) (Some (Node j)) h = absurd (omega arith)
parts_less (Some (Stored i)) (Some (Edge j)) h = absurd (omega arith)
parts_less (Some (Stored i)) (Some (Stored j)) h = less i j (omega arith)
parts_less (Some (Stored i)) (Some (Found w)) h = refl
parts_less (Some (Stored i)) (Some (Span a b)) h = refl
parts_less (Some (Stored i)) (Some (Value w)) h = refl
parts_less (Some (Stored i)) (Some PastRange) h = refl
parts_less (Some (Found v)) (Some d) h = absurd (past d h)
parts_less (Some (Span a b)) (Some d) h = absurd (past d h)
parts_less (Some (Value v)) (Some d) h = absurd (past d h)
parts_less (Some PastRange) (Some d) h = absurd (past d h)

-- a part that is told by its number is the only one that has it
told : (c d : Option Datum) → is_told d ≡ true → part_rank c ≡ part_rank d → c ≡ d
told c None t e = cc
told None (Some (Node j)) t e = absurd (omega (arith, e))
told None (Some (Edge j)) t e = absurd (omega (arith, e))
told None (Some (Stored j)) t e = absurd (omega (arith, e))
told c (Some (Found w)) t e = cc
told c (Some (Span a b)) t e = cc
told c (Some (Value w)) t e = cc
told c (Some PastRange) t e = cc
told (Some (Node i)) (Some (Node j)) t e = let l = below j t in let same : i ≡ j = omega (arith, e) in ap (λ k. Some (Node k)) same
told (Some (Edge i)) (Some (Edge j)) t e = let l = below j t in let same : i ≡ j = omega (arith, e) in ap (λ k. Some (Edge k)) same
told (Some (Stored i)) (Some (Stored j)) t e = let l = below j t in let same : i ≡ j = omega (arith, e) in ap (λ k. Some (Stored k)) same
told (Some (Node i)) (Some (Edge j)) t e = absurd (omega (arith, e))
told (Some (Node i)) (Some (Stored j)) t e = absurd (omega (arith, e))
told (Some (Edge i)) (Some (Node j)) t e = absurd (omega (arith, e))
told (Some (Edge i)) (Some (Stored j)) t e = absurd (omega (arith, e))
told (Some (Stored i)) (Some (Node j)) t e = absurd (omega (arith, e))
told (Some (Stored i)) (Some (Edge j)) t e = absurd (omega (arith, e))
told (Some (Found v)) (Some (Node j)) t e = absurd (omega (arith, e))
told (Some (Found v)) (Some (Edge j)) t e = absurd (omega (arith, e))
told (Some (Found v)) (Some (Stored j)) t e = absurd (omega (arith, e))
told (Some (Span a b)) (Some (Node j)) t e = absurd (omega (arith, e))
told (Some (Span a b)) (Some (Edge j)) t e = absurd (omega (arith, e))
told (Some (Span a b)) (Some (Stored j)) t e = absurd (omega (arith, e))
told (Some (Value v)) (Some (Node j)) t e = absurd (omega (arith, e))
told (Some (Value v)) (Some (Edge j)) t e = absurd (omega (arith, e))
told (Some (Value v)) (Some (Stored j)) t e = absurd (omega (arith, e))
told (Some PastRange) (Some (Node j)) t e = absurd (omega (arith, e))
told (Some PastRange) (Some (Edge j)) t e = absurd (omega (arith, e))
told (Some PastRange) (Some (Stored j)) t e = absurd (omega (arith, e))

abbrev parts_order : List (Option Datum) → List (Option Datum) → Ordering
parts_order = slice_cmp (option_cmp datum_order)

parts_turned : (a b : List (Option Datum)) → parts_order b a ≡ Less → parts_order a b ≡ Greater
parts_turned a b h = (lists_total (options_total datum_order_total)).antisymm a b ∙ ap ordering_reverse h

first_less : (a b : List (Option Datum)) → first_rank a < first_rank b → parts_order a b ≡ Less
first_less [] [] h = absurd (omega arith)
first_less [] (d ∷ ds) h = refl
first_less (c ∷ cs) [] h = absurd (omega arith)
first_less (c ∷ cs) (d ∷ ds) h = ap (λ o. ordering_then o (parts_order cs ds)) (parts_less c d h)

same_first : (c : Option Datum) (cs ds : List (Option Datum)) → parts_order (c ∷ cs) (c ∷ ds) ≡ parts_order cs ds
same_first c cs ds = ap (λ o. ordering_then o (parts_order cs ds)) (tied_itself (options_total datum_order_total) c)

second_less : (a b : List (Option Datum)) → first_rank a ≡ first_rank b → second_rank a < second_rank b → parts_order a b ≡ Less
second_less a [] e h = absurd (omega arith)
second_less a (d ∷ []) e h = absurd (omega arith)
second_less a (d ∷ n ∷ ds) e h = by (is_told d) refl
  where
    none : (a : List (Option Datum)) → 0 ≡ part_rank d → is_told d ≡ true → ⊥
    none a q t = let same : None ≡ d = told None d t q in let other : is_told None ≡ true = subst (λ p. is_told p ≡ true) (sym same) t in cc

    at_next : (a : List (Option Datum)) → is_told d ≡ true → first_rank a ≡ part_rank d → second_rank a < part_rank n → parts_order a (d ∷ n ∷ ds) ≡ Less
    at_next [] t q l = absurd (none [] q t)
    at_next (c ∷ []) t q l = let same : c ≡ d = told c d t q in subst (λ p. parts_order (p ∷ []) (d ∷ n ∷ ds) ≡ Less) (sym same) (same_first d [] (n ∷ ds))
    at_next (c ∷ m ∷ cs) t q l =
        let same : c ≡ d = told c d t q in
        let both : is_told c ≡ true = subst (λ p. is_told p ≡ true) (sym same) t in
        let lower : part_rank m < part_rank n = subst (λ k. k < part_rank n) (ap (λ b. cond b (part_rank m) 0) both) l in
        subst (λ p. parts_order (p ∷ m ∷ cs) (d ∷ n ∷ ds) ≡ Less) (sym same)
        (same_first d (m ∷ cs) (n ∷ ds) ∙ ap (λ o. ordering_then o (parts_order cs ds)) (parts_less m n lower))

    by : (t : Bool) → is_told d ≡ t → parts_order a (d ∷ n ∷ ds) ≡ Less
    by true t = at_next a t e (subst (λ k. second_rank a < k) (ap (λ b. cond b (part_rank n) 0) t) h)
    by false t = absurd (let z : second_rank a < 0 = subst (λ k. second_rank a < k) (ap (λ b. cond b (part_rank n) 0) t) h in omega arith)

then_second : (a b : List (Option Datum)) → first_rank a ≡ first_rank b → ordering_then (nat_cmp (second_rank a) (second_rank b)) (parts_order a b) ≡ parts_order a b
then_second a b q =
    elim (nat_cmp (second_rank a) (second_rank b)) as (λ o. nat_cmp (second_rank a) (second_rank b) ≡ o → ordering_then o (parts_order a b) ≡ parts_order a b) [
      | Less ↦ λ e. sym (second_less a b q (is_less _ _ e))
      | Equal ↦ λ e. refl
      | Greater ↦ λ e. sym (parts_turned a b (second_less b a (sym q) (is_greater _ _ e)))
    ] refl

pub ranks_first : (a b : List (Option Datum))
    → ordering_then (nat_cmp (first_rank a) (first_rank b)) (ordering_then (nat_cmp (second_rank a) (second_rank b)) (parts_order a b)) ≡ parts_order a b
ranks_first a b =
    elim (nat_cmp (first_rank a) (first_rank b)) as (λ o. nat_cmp (first_rank a) (first_rank b) ≡ o
    → ordering_then o (ordering_then (nat_cmp (second_rank a) (second_rank b)) (parts_order a b)) ≡ parts_order a b) [
      | Less ↦ λ e. sym (first_less a b (is_less _ _ e))
      | Equal ↦ λ e. then_second a b (is_equal _ _ e)
      | Greater ↦ λ e. sym (parts_turned a b (first_less b a (is_greater _ _ e)))
    ] refl
