-- What is kept of the elements of a graph.
use Rattle.gc_spec.specs.PropertyGraph.{Edge, Path}
use Rattle.gc_ppg.specs.declared.coherence.EdgeEnds.{EdgeEnds}
use Rattle.gc_ppg.specs.declared.coherence.PathWalk.{PathWalk}

-- an edge without its labels and properties
abbrev pub ends_of : Edge → EdgeEnds
ends_of e = record { id = e.id; from = e.from; to = e.to }

-- a stored path without its labels and properties
abbrev pub walk_of : Path → PathWalk
walk_of p = record { id = p.id; walk = p.walk }
