-- Spans sorted, each once.
use Rattle.std.proofs.Common.{◌≡◌, Bool, true, false, ◌&&◌, List, nat_eq, refl, sym, subst}
use Rattle.std.proofs.lemmas.Bool.{eqb-true}
use Rattle.std.proofs.lemmas.Cmp.{and_equiv, nat_eq_equiv, on_equiv}
use Rattle.std.proofs.lemmas.List.Kept.{Contains-dedup, Contains-from_dedup}
use Rattle.std.proofs.lemmas.List.Sorted.{Contains-permutation, IsPermutation-sym}
use Rattle.std.specs.Cmp.{IsEquivalence}
use Rattle.std.specs.List.{Contains, dedup}
use Rattle.std.specs.List.Sorted.{IsPermutation}
use Rattle.std.specs.Ordering.{eq_of_both, on}
use Rattle.gc_rows.specs.Tables.{HasExactly}
use Rattle.gc_build.specs.declared.spans.Span.{Span}

-- the equality of spans
abbrev pub same_span : Span → Span → Bool
same_span = eq_of_both (on (λ s. s.from) nat_eq) (on (λ s. s.to) nat_eq)

same_laws : IsEquivalence same_span
same_laws = and_equiv (on_equiv (λ s. s.from) nat_eq_equiv) (on_equiv (λ s. s.to) nat_eq_equiv)

left : (a b : Bool) → (a && b) ≡ true → a ≡ true
left true b h = refl
left false b h = cc

right : (a b : Bool) → (a && b) ≡ true → b ≡ true
right true b h = h
right false b h = cc

same_exact : (x y : Span) → same_span x y ≡ true → x ≡ y
same_exact x y h =
    let from = eqb-true x.from y.from (left (nat_eq x.from y.from) (nat_eq x.to y.to) h) in
    let to = eqb-true x.to y.to (right (nat_eq x.from y.from) (nat_eq x.to y.to) h) in
    λ i. record { from = from i; to = to i }

pub spans_once : (items sorted once : List Span) → IsPermutation items sorted → once ≡ dedup same_span sorted → HasExactly items once
spans_once items sorted once moved is = record {
  sound = λ x m. Contains-permutation sorted items x (IsPermutation-sym items sorted moved) (Contains-from_dedup same_span sorted x (subst (λ (xs : List Span). Contains xs x) is m));
  complete = λ x m. subst (λ (xs : List Span). Contains xs x) (sym is) (Contains-dedup same_laws same_exact sorted x (Contains-permutation items sorted x moved m));
}
