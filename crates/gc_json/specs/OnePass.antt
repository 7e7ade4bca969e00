-- What one pass over a file keeps: the frame and the graph of the members so far.
use Rattle.std.specs.Prelude.{◌≡◌, ℕ, ◌+◌, ◌&&◌, Bool, List, [], ◌∷◌, ◌++◌, Option, Some, Ok}
use Rattle.gc_ppg.specs.declared.shape.Kind.{Kind}
use Rattle.gc_ppg.specs.declared.shape.Kind.TheVariants as kind
use Rattle.gc_spec.specs.PropertyGraph.{PropertyGraph}
use Rattle.json.specs.Token.{Token}
use Rattle.serde_json.specs.Data.{Data}
use Rattle.gc_json.specs.Entries.{Entries}
use Rattle.gc_json.specs.FileElements.{Seen}
use Rattle.gc_json.specs.Frames.{is_zero, frame_of, entry_lists}
use Rattle.gc_json.specs.GraphFiles.{graph_of_lists}
use Rattle.gc_json.specs.declared.frame.Frame.{Frame}
use Rattle.gc_json.specs.declared.frame.ListPlace.{ListPlace}

-- whether the list of a kind may come: neither it nor one whose elements are added after its own has items so far
abbrev pub may_come : Frame → Kind → Bool
may_come f kind.Node = is_zero f.nodes.len && is_zero f.edges.len && is_zero f.paths.len
may_come f kind.Edge = is_zero f.edges.len && is_zero f.paths.len
may_come f kind.Path = is_zero f.paths.len

-- a place after an array of n items at its key
abbrev pub place_with : ListPlace → ℕ → ListPlace
place_with place n = record { times = place.times + 1; len = Some n }

-- the frame after an array of n items at the key of a kind
abbrev pub frame_with : Frame → Kind → ℕ → Frame
frame_with f kind.Node n =
    record { nodes = place_with f.nodes n; edges = f.edges; paths = f.paths; is_version_1 = f.is_version_1; is_known = f.is_known }
frame_with f kind.Edge n =
    record { nodes = f.nodes; edges = place_with f.edges n; paths = f.paths; is_version_1 = f.is_version_1; is_known = f.is_known }
frame_with f kind.Path n =
    record { nodes = f.nodes; edges = f.edges; paths = place_with f.paths n; is_version_1 = f.is_version_1; is_known = f.is_known }

-- the frame and the graph of these entries
abbrev pub AreOf : Seen → Entries → Frame → PropertyGraph → Type 0
AreOf seen es f g = (f ≡ frame_of es) × (graph_of_lists seen (entry_lists es) ≡ Ok g)

-- a value was read at a key, and the frame and the graph are those of the entries with it
abbrev pub ReadsAt : Seen → Entries → List ℕ → Option (Data × List Token) → Frame → PropertyGraph → List Token → Type 0
ReadsAt seen es k o f g rest = (d : Data) × (o ≡ Some (d, rest)) × AreOf seen (es ++ (k, d) ∷ []) f g

-- the members up to the brace were read, and the frame and the graph are theirs
abbrev pub ReadsAll : Seen → Option (Entries × List Token) → Frame → PropertyGraph → List Token → Type 0
ReadsAll seen o f g rest = (es : Entries) × (o ≡ Some (es, rest)) × AreOf seen es f g
