-- What a builder refuses. Want of memory is free.
use Rattle.std.specs.Prelude.{◌≡◌, true, false, Some, ⊤}
use Rattle.gc_spec.specs.PropertyGraph.{PropertyGraph, Node, Edge, Path, ids_of, is_among}
use Rattle.gc_ppg.specs.Built.{missing_end, bad_step}
use Rattle.gc_ppg.specs.declared.builder.BuildRefusal.{BuildRefusal}
use Rattle.gc_ppg.specs.declared.builder.BuildRefusal.TheVariants.{Taken, NoEnd, BadWalk, Memory}

-- a node is refused where its identity is taken
abbrev pub IsNodeRefusal : PropertyGraph → Node → BuildRefusal → Type 0
IsNodeRefusal g n (Taken id) = (id ≡ n.id) × (is_among (ids_of g) n.id ≡ true)
IsNodeRefusal g n (NoEnd id) = ⊥
IsNodeRefusal g n (BadWalk step) = ⊥
IsNodeRefusal g n Memory = ⊤

-- an edge is refused where its identity is taken, and then where an end is missing
abbrev pub IsEdgeRefusal : PropertyGraph → Edge → BuildRefusal → Type 0
IsEdgeRefusal g e (Taken id) = (id ≡ e.id) × (is_among (ids_of g) e.id ≡ true)
IsEdgeRefusal g e (NoEnd id) = (is_among (ids_of g) e.id ≡ false) × (missing_end g.nodes e ≡ Some id)
IsEdgeRefusal g e (BadWalk step) = ⊥
IsEdgeRefusal g e Memory = ⊤

-- a stored path is refused where its identity is taken, and then where its walk fails
abbrev pub IsPathRefusal : PropertyGraph → Path → BuildRefusal → Type 0
IsPathRefusal g p (Taken id) = (id ≡ p.id) × (is_among (ids_of g) p.id ≡ true)
IsPathRefusal g p (NoEnd id) = ⊥
IsPathRefusal g p (BadWalk step) = (is_among (ids_of g) p.id ≡ false) × (bad_step g.nodes g.edges p.walk ≡ Some step)
IsPathRefusal g p Memory = ⊤
