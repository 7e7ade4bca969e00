use Rattle.std.proofs.Common.{◌≡◌, ◌++◌, drop}
use Rattle.gc_ppg.specs.KeyedPlaces.{ends_from}
use Rattle.gc_ppg.proofs.index.by_target.Given as goal
use Rattle.gc_ppg.specs.NodeSides.{far_of}
use Rattle.gc_ppg.specs.declared.node_edges.Side.TheVariants.{Coming}

-- the places so far with the rest are those of all
abbrev pub invariant-loop-place : goal.invariant-loop-place
invariant-loop-place l = l.places.items ++ ends_from (λ e. e.to) (far_of Coming) l.place (drop l.place l.edges) ≡ ends_from (λ e. e.to) (far_of Coming) 0 l.edges
