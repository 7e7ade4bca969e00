-- The graph of a graph file, or its first refusal.
use Rattle.std.specs.Prelude.{◌≡◌, ℕ, ◌+◌, ◌&&◌, Bool, List, [], ◌∷◌, codes, nat_le, if◌then◌else◌, Result, Ok, Err, ⊤}
use Rattle.gc_spec.specs.PropertyGraph.{PropertyGraph, empty_graph}
use Rattle.gc_ppg.specs.declared.shape.Kind.{Kind}
use Rattle.gc_ppg.specs.declared.shape.Kind.TheVariants as kind
use Rattle.serde_json.specs.Data.{Data, Items, no_items, item}
use Rattle.serde_json.specs.Events.{items_len}
use Rattle.serde_json.specs.Find.{as_object}
use Rattle.serde_json.specs.Read.{read}
use Rattle.gc_json.specs.FileElements.{Seen, add_element_of}
use Rattle.gc_json.specs.JsonValues.{value_of, is_object_of, number_at, is_one, list_at}
use Rattle.gc_json.specs.Reading.{◌>>=◌, or_refused}
use Rattle.gc_json.specs.declared.fault.Fault.{Fault}
use Rattle.gc_json.specs.declared.fault.Fault.TheVariants as fault
use Rattle.gc_json.specs.declared.refusal.GraphRefusal.{GraphRefusal}
use Rattle.gc_json.specs.declared.refusal.GraphRefusal.TheVariants as refusal
use Rattle.gc_json.specs.declared.refusal.Part.{Part}
use Rattle.gc_json.specs.declared.refusal.Part.TheVariants.{Whole, Nodes, Edges, Paths}
use Rattle.gc_json.specs.declared.refusal.Spot.{Spot}

-- the spot of the file as a whole
abbrev pub whole : Spot
whole = record { part = Whole; index = 0 }

-- the list of a kind
abbrev pub part_of : Kind → Part
part_of kind.Node = Nodes
part_of kind.Edge = Edges
part_of kind.Path = Paths

-- the refusal of a fault at its spot
abbrev pub refusal_at : Spot → Fault → GraphRefusal
refusal_at spot fault.WrongShape = refusal.WrongShape spot
refusal_at spot fault.IdTooLarge = refusal.IdTooLarge spot
refusal_at spot fault.IdTwice = refusal.IdTwice spot
refusal_at spot fault.NoEnd = refusal.NoEnd spot
refusal_at spot fault.BadWalk = refusal.BadWalk spot
refusal_at spot fault.BadLabel = refusal.BadLabel spot
refusal_at spot fault.BadName = refusal.BadName spot
refusal_at spot fault.NotLiteral = refusal.NotLiteral spot
refusal_at spot (fault.Incoherent id) = refusal.Incoherent spot id

abbrev pub located : {A : Type 0} → Spot → Result A Fault → Result A GraphRefusal
located spot (Ok x) = Ok x
located spot (Err f) = Err (refusal_at spot f)

-- the lists of a file
pub record FileLists : Type 0 where
  pub nodes : Items
  pub edges : Items
  pub paths : Items

abbrev pub lists_at : Data → Result FileLists Fault
lists_at d =
    list_at (codes "nodes") d >>= λ nodes. list_at (codes "edges") d >>= λ edges. list_at (codes "paths") d
    >>= λ paths. Ok (record { nodes = nodes; edges = edges; paths = paths })

abbrev pub file_keys : List (List ℕ)
file_keys = codes "edges" ∷ codes "gcore" ∷ codes "nodes" ∷ codes "paths" ∷ []

-- whether a value is an object with no key but these, and the version is 1
abbrev pub is_file_object : Data → Bool
is_file_object d = is_object_of file_keys (as_object d) && is_one (number_at (codes "gcore") d)

abbrev pub lists_of : Data → Result FileLists Fault
lists_of d = if is_file_object d then lists_at d else Err fault.WrongShape

-- the most elements of a file
abbrev pub most_elements : ℕ
most_elements = 1000000

-- the graph with the elements of an array, the first of which has the index i
abbrev pub add_elements_of : Seen → Kind → ℕ → PropertyGraph → Items → Result PropertyGraph GraphRefusal
add_elements_of seen kind i g no_items = Ok g
add_elements_of seen kind i g (item d ds) =
    located (record { part = part_of kind; index = i }) (add_element_of seen kind g d) >>= λ more. add_elements_of seen kind (i + 1) more ds

-- the graph of the lists: nodes, then edges, then paths
abbrev pub graph_of_lists : Seen → FileLists → Result PropertyGraph GraphRefusal
graph_of_lists seen l =
    add_elements_of seen kind.Node 0 empty_graph l.nodes >>= λ nodes. add_elements_of seen kind.Edge 0 nodes l.edges
    >>= λ edges. add_elements_of seen kind.Path 0 edges l.paths

-- the lists may not be too long together
abbrev pub graph_of_few : Seen → FileLists → Result PropertyGraph GraphRefusal
graph_of_few seen l = if nat_le (items_len l.nodes + items_len l.edges + items_len l.paths) most_elements then graph_of_lists seen l else Err refusal.TooMany

-- the graph of a value
abbrev pub graph_of_data : Seen → Data → Result PropertyGraph GraphRefusal
graph_of_data seen d = located whole (lists_of d) >>= graph_of_few seen

-- the graph of a text
abbrev pub text_graph : Seen → List ℕ → Result PropertyGraph GraphRefusal
text_graph seen text = or_refused refusal.NotJson (read text) >>= graph_of_data seen

-- the graph of a file that stands beside the graphs of earlier files, or its first refusal
abbrev pub file_graph : Seen → List ℕ → Result PropertyGraph GraphRefusal
file_graph seen bytes = or_refused refusal.NotJson (value_of bytes) >>= graph_of_data seen

-- the refusal that is due; want of memory is free
abbrev pub IsFileRefusal : Result PropertyGraph GraphRefusal → GraphRefusal → Type 0
IsFileRefusal due refusal.Memory = ⊤
IsFileRefusal due r = due ≡ Err r

-- the graph that is due, or the refusal that is due
abbrev pub Loads : Result PropertyGraph GraphRefusal → Result PropertyGraph GraphRefusal → Type 0
Loads due (Ok g) = due ≡ Ok g
Loads due (Err r) = IsFileRefusal due r
