use Rattle.std.proofs.Common.{◌≡◌, ◌==◌, ℕ, List, [], ◌∷◌, true, length, refl, sym, ap, ◌∙◌, arith}
use Rattle.std.proofs.lemmas.Bool.Decides.{nat_tests}
use Rattle.gc_spec.specs.PropertyGraph.{PropertyGraph}
use Rattle.gc_automata.specs.Moves.{Segment}
use Rattle.gc_prod.specs.Segments.{AreSegments}
use Rattle.gc_prod.specs.SymbolHops.{segment_steps}
use Rattle.gc_search.proofs.searching.is_plain.Goals as goal

nothing : (n : ℕ) → (n == 0) ≡ true → n ≡ 0
nothing n h = grind (arith, nat_tests)

none_first : (graph : PropertyGraph) (segments : List Segment) → AreSegments graph segments → length (segment_steps segments 0) ≡ 0 → segments ≡ []
none_first graph [] are none = refl
none_first graph (s ∷ segments) are none = let moves = are.0.moves in absurd (omega (arith, moves, none))

pub returns : goal.returns
returns c = λ empty.
    none_first c.args.p.now.network.graph c.args.p.now.network.segments c.requires
    (sym (ap length c.segment_steps.ensures) ∙ nothing (length c.segment_steps.result.now) (sym c.is_empty.ensures ∙ empty))
