use Rattle.std.proofs.Common.{◌≡◌}
use Rattle.std.specs.List.{filter}
use Rattle.gc_spec.specs.PropertyGraph.{ids_of, edge_ids}
use Rattle.gc_sets.specs.Additions.{AreNew, with_edges}
use Rattle.gc_sets.specs.Elements.{stands}
use Rattle.gc_sets.proofs.additions.add_edges.Given as goal

-- the graph so far with the rest is the graph with all, and the rest are new
abbrev pub invariant-loop-edge : goal.invariant-loop-edge
invariant-loop-edge l =
    (with_edges l.builder (filter (stands l.builder.nodes) l.edge-iterator.rest.items) ≡ with_edges l.fn.builder (filter (stands l.fn.builder.nodes) l.fn.edges.items))
    × AreNew (ids_of l.builder) (edge_ids l.edge-iterator.rest.items)
