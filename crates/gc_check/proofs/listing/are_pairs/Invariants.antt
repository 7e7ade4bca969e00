use Rattle.std.proofs.Common.{◌≡◌, drop}
use Rattle.std.specs.List.{list_all}
use Rattle.gc_spec.specs.PropertyGraph.{node_ids}
use Rattle.gc_check.specs.Listings.{is_listed}
use Rattle.gc_check.proofs.listing.are_pairs.Given as goal

abbrev pub invariant-loop-known : goal.invariant-loop-known
invariant-loop-known g l =
    list_all (is_listed (node_ids l.graph.nodes) l.states) (drop l.known-index l.potentials)
    ≡ list_all (is_listed (node_ids l.graph.nodes) l.states) l.potentials
