use Rattle.std.proofs.Common.{◌≡◌, ◌++◌, drop}
use Rattle.gc_ppg.specs.KeyedPlaces.{ends_from}
use Rattle.gc_ppg.proofs.index.by_source.Given as goal
use Rattle.gc_ppg.specs.NodeSides.{far_of}
use Rattle.gc_ppg.specs.declared.node_edges.Side.TheVariants.{Leaving}

-- the places so far with the rest are those of all
abbrev pub invariant-loop-place : goal.invariant-loop-place
invariant-loop-place l = l.places.items ++ ends_from (λ e. e.from) (far_of Leaving) l.place (drop l.place l.edges) ≡ ends_from (λ e. e.from) (far_of Leaving) 0 l.edges
