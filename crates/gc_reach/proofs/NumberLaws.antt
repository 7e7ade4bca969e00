-- Pairs with numbers: each its own.
use Rattle.std.proofs.Common.{◌≡◌, ℕ, zero, suc, ◌*◌, ◌<◌, Bool, true, false, ◌||◌, ◌==◌, List, [], ◌∷◌, length, get_or, refl, sym, ap, ◌∙◌, arith}
use Rattle.std.proofs.lemmas.Bool.Decides.{nat_tests}
use Rattle.gc_prod.specs.declared.moves.Pair.{Pair}
use Rattle.gc_spec.specs.PropertyGraph.{is_among}
use Rattle.gc_prod.specs.Places.{place_in}
use Rattle.gc_prod.proofs.PlaceLaws.{place_there}
use Rattle.gc_reach.specs.Numbering.{number_of, IsNumbered}
use Rattle.gc_reach.proofs.MarkLaws.{same_place}

eqb_same : (a b : ℕ) → a ≡ b → (a == b) ≡ true
eqb_same a b h = grind (arith, nat_tests)

-- what stands at a place is among the nodes
pub among_read : (nodes : List ℕ) (place : ℕ) → place < length nodes → is_among nodes (get_or nodes place 0) ≡ true
among_read [] place below = absurd (omega arith)
among_read (x ∷ nodes) zero below = ap (λ b. b || is_among nodes x) (eqb_same x x refl)
among_read (x ∷ nodes) (suc place) below =
    ap (λ b. (x == get_or nodes place 0) || b) (among_read nodes place (omega arith)) ∙ or_true (x == get_or nodes place 0)
  where
    or_true : (b : Bool) → (b || true) ≡ true
    or_true true = refl
    or_true false = refl

-- two pairs of one number are the same
pub one_number : (nodes : List ℕ) (width : ℕ) (p q : Pair) → IsNumbered nodes width p → IsNumbered nodes width q → number_of nodes width p ≡ number_of nodes width q → p ≡ q
one_number nodes width p q here there e =
    let place : place_in nodes p.node ≡ place_in nodes q.node = same_place width (place_in nodes p.node) p.state (place_in nodes q.node) q.state here.state there.state e in
    let node : p.node ≡ q.node = sym (place_there nodes p.node here.node).at ∙ (ap (λ n. get_or nodes n 0) place ∙ (place_there nodes q.node there.node).at) in
    let row : place_in nodes p.node * width ≡ place_in nodes q.node * width = ap (λ n. n * width) place in
    let state : p.state ≡ q.state = omega (arith, e, row) in
    λ j. record { node = node j; state = state j }
