-- The elements of a graph file, each added to the graph of those before it.
use Rattle.std.specs.Prelude.{ℕ, List, if◌then◌else◌, Result, Ok, Err}
use Rattle.gc_spec.specs.Coherence.{ElementShape, NodeShape, EdgeShape, PathShape}
use Rattle.gc_spec.specs.PropertyGraph.{Node, Edge, Path, PropertyGraph}
use Rattle.gc_ppg.specs.Built.{with_node, with_edge, with_path}
use Rattle.gc_ppg.specs.Shapes.{agrees}
use Rattle.gc_ppg.specs.declared.shape.Kind.{Kind}
use Rattle.gc_ppg.specs.declared.shape.Kind.TheVariants as kind
use Rattle.serde_json.specs.Data.{Data, Items}
use Rattle.gc_json.specs.ElementParts.{ElementParts, parts_of, new_id, end_of, described}
use Rattle.gc_json.specs.ElementValues.{ElementValues, element_of}
use Rattle.gc_json.specs.JsonValues.{number_in}
use Rattle.gc_json.specs.WalkItems.{walk_items, walk_in}
use Rattle.gc_json.specs.Reading.{◌>>=◌, or_refused}
use Rattle.gc_json.specs.declared.fault.Fault.{Fault}
use Rattle.gc_json.specs.declared.fault.Fault.TheVariants.{WrongShape, Incoherent}

-- what each identity stands for in the graphs of earlier files
abbrev pub Seen : Type 0
Seen = List (List (ℕ × ElementShape))

-- a node of a graph so far: its shape, its identity, what describes it
abbrev pub node_of : PropertyGraph → ElementValues → Result Node Fault
node_of g e =
    parts_of e >>= λ parts. new_id g parts.id >>= λ id. described parts
    >>= λ about. Ok (record { id = id; labels = about.0; properties = about.1 })

-- the ends of an edge as they stand in the file
abbrev pub end_numbers : ElementValues → Result (ℕ × ℕ) Fault
end_numbers e = or_refused WrongShape (number_in e.from) >>= λ from. or_refused WrongShape (number_in e.to) >>= λ to. Ok (from, to)

-- the nodes at its ends
abbrev pub ends_of : PropertyGraph → ℕ × ℕ → Result (ℕ × ℕ) Fault
ends_of g ends = end_of g ends.0 >>= λ from. end_of g ends.1 >>= λ to. Ok (from, to)

-- an edge of a graph so far: its shape, its identity, its ends, what describes it
abbrev pub edge_from : PropertyGraph → ElementParts → ℕ × ℕ → Result Edge Fault
edge_from g parts numbers =
    new_id g parts.id >>= λ id. ends_of g numbers >>= λ ends. described parts
    >>= λ about. Ok (record { id = id; from = ends.0; to = ends.1; labels = about.0; properties = about.1 })

abbrev pub edge_of : PropertyGraph → ElementValues → Result Edge Fault
edge_of g e = parts_of e >>= λ parts. end_numbers e >>= λ numbers. edge_from g parts numbers

-- a stored path of a graph so far: its shape, its identity, its walk, what describes it
abbrev pub path_from : PropertyGraph → ElementParts → Items → Result Path Fault
path_from g parts items =
    new_id g parts.id >>= λ id. walk_in g items >>= λ walk. described parts
    >>= λ about. Ok (record { id = id; walk = walk; labels = about.0; properties = about.1 })

abbrev pub path_of : PropertyGraph → ElementValues → Result Path Fault
path_of g e = parts_of e >>= λ parts. walk_items e.walk >>= λ items. path_from g parts items

-- an element whose identity has the same shape in the earlier files that have it
abbrev pub agreeing : {X : Type 0} → Seen → ℕ → ElementShape → X → Result X Fault
agreeing seen id shape x = if agrees seen id shape then Ok x else Err (Incoherent id)

-- the graph with a new node, edge or path that agrees with the earlier files
abbrev pub add_node_of : Seen → PropertyGraph → ElementValues → Result PropertyGraph Fault
add_node_of seen g e = node_of g e >>= λ n. agreeing seen n.id NodeShape (with_node g n)

abbrev pub add_edge_of : Seen → PropertyGraph → ElementValues → Result PropertyGraph Fault
add_edge_of seen g e = edge_of g e >>= λ made. agreeing seen made.id (EdgeShape made.from made.to) (with_edge g made)

abbrev pub add_path_of : Seen → PropertyGraph → ElementValues → Result PropertyGraph Fault
add_path_of seen g e = path_of g e >>= λ p. agreeing seen p.id (PathShape p.walk) (with_path g p)

-- the graph with one more element of a kind
abbrev pub add_values_of : Seen → Kind → PropertyGraph → ElementValues → Result PropertyGraph Fault
add_values_of seen kind.Node g e = add_node_of seen g e
add_values_of seen kind.Edge g e = add_edge_of seen g e
add_values_of seen kind.Path g e = add_path_of seen g e

abbrev pub add_element_of : Seen → Kind → PropertyGraph → Data → Result PropertyGraph Fault
add_element_of seen kind g d = add_values_of seen kind g (element_of kind d)
