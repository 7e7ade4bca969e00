use Rattle.std.proofs.Common.{map, subst}
use Rattle.gc_ppg.specs.FreeIds.{IsLeastAbove}
use Rattle.gc_ppg.proofs.FreeIds.{first_free_in_turn, first_free_most}
use Rattle.gc_ppg.proofs.graph.Graph.first_free.Goals as goal

pub returns-clause-free : goal.returns-clause-free
returns-clause-free c =
    first_free_in_turn c.args.self.now c.above-nodes.result c.above-edges.result c.above.result
    (subst (λ ns. IsLeastAbove 0 (map (λ n. n.id) ns) c.above-nodes.result) c.nodes.ensures.nodes c.above-nodes.ensures)
    (subst (λ es. IsLeastAbove c.above-nodes.result (map (λ e. e.id) es) c.above-edges.result) c.edges.ensures.edges c.above-edges.ensures)
    (subst (λ ps. IsLeastAbove c.above-edges.result (map (λ p. p.id) ps) c.above.result) c.paths.ensures.paths c.above.ensures)

pub returns-clause-most : goal.returns-clause-most
returns-clause-most c = first_free_most c.args.self.now c.above.result c.nodes.ensures.valid (returns-clause-free c)
