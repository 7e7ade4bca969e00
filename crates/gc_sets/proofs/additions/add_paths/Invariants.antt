use Rattle.std.proofs.Common.{◌≡◌}
use Rattle.std.specs.List.{filter}
use Rattle.gc_spec.specs.PropertyGraph.{ids_of, path_ids, is_walk}
use Rattle.gc_sets.specs.Additions.{AreNew, with_paths}
use Rattle.gc_sets.proofs.additions.add_paths.Given as goal

-- the graph so far with the rest is the graph with all, and the rest are new
abbrev pub invariant-loop-path : goal.invariant-loop-path
invariant-loop-path l =
    (with_paths l.builder (filter (λ p. is_walk l.builder.nodes l.builder.edges p.walk) l.path-iterator.rest.items)
    ≡ with_paths l.fn.builder (filter (λ p. is_walk l.fn.builder.nodes l.fn.builder.edges p.walk) l.fn.paths.items))
    × AreNew (ids_of l.builder) (path_ids l.path-iterator.rest.items)
