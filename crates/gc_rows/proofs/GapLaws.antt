-- Where an item would stand in a list that is gone over.
use Rattle.std.proofs.Common.{◌≡◌, ℕ, ◌<◌, ◌≤◌, List, length, get_or, refl, subst, arith}
use Rattle.std.specs.declared.cmp.Ordering.{Ordering}
use Rattle.std.specs.declared.cmp.Ordering.TheVariants.{Less, Equal, Greater}
use Rattle.std.specs.Ordering.{ordering_index}
use Rattle.std.specs.List.{AllWithin, HoldsAt}
use Rattle.gc_base.specs.Places.{IsGapFor}
use Rattle.gc_base.proofs.Search.{Rises, gap_found, rises_in_order}

greatest : (o : Ordering) → ordering_index Greater ≤ ordering_index o → o ≡ Greater
greatest Less h = absurd (omega (arith, h))
greatest Equal h = absurd (omega (arith, h))
greatest Greater h = refl

-- where answers rise, all from one that is greater on are
greater_from : {X : Type 0} (answer : X → Ordering) (xs : List X) (i : ℕ) → Rises answer xs → HoldsAt (λ x. answer x ≡ Greater) xs i
    → AllWithin (λ x. answer x ≡ Greater) xs i (length xs)
greater_from answer xs i r h k d le lt =
    greatest (answer (get_or xs k d)) (subst (λ o. ordering_index o ≤ ordering_index (answer (get_or xs k d))) (h d) (rises_in_order answer xs r i k d le lt))

-- what is less stands before the first item that is greater
pub gap_before : {X : Type 0} (answer : X → Ordering) (xs : List X) (i : ℕ) → Rises answer xs → i < length xs
    → AllWithin (λ x. answer x ≡ Less) xs 0 i → HoldsAt (λ x. answer x ≡ Greater) xs i → IsGapFor answer xs i
gap_before answer xs i r lt below h = gap_found answer xs i r (omega (arith, lt)) (below, greater_from answer xs i r h)

-- all are less
pub gap_behind : {X : Type 0} (answer : X → Ordering) (xs : List X) → Rises answer xs → AllWithin (λ x. answer x ≡ Less) xs 0 (length xs)
    → IsGapFor answer xs (length xs)
gap_behind answer xs r below = gap_found answer xs (length xs) r (omega arith) (below, λ k d from to. absurd (omega (arith, from, to)))
