-- The labels and properties that are read of an element, and where.
use Rattle.std.specs.Prelude.{ℕ, Bool, false, List, [], Option, Some, None, Result, Ok, Err, unwrap_or}
use Rattle.std.specs.Option.{option_map, option_and_then}
use Rattle.gc_base.specs.Ascending.{has}
use Rattle.gc_base.specs.Literals.{text_order}
use Rattle.gc_base.specs.PropertyLists.{values_of}
use Rattle.gc_base.specs.declared.literal.Literal.{Literal}
use Rattle.gc_base.specs.declared.place.Sym.{Sym}
use Rattle.gc_base.specs.declared.properties.Property.{Property}
use Rattle.gc_expr.specs.Trees as tree
use Rattle.gc_expr.specs.Trees.{TreeOf, AnExpr, At}
use Rattle.gc_rows.specs.Rows.{datum_at}
use Rattle.gc_rows.specs.declared.datum.Datum.{Datum}
use Rattle.gc_rows.specs.declared.datum.Datum.TheVariants.{Node, Edge, Stored, PastRange}
use Rattle.gc_spec.specs.PropertyGraph.{PropertyGraph, node_at, edge_at, path_at}
use Rattle.gc_values.specs.Contexts.{Context, own_graph, walk_graph, made_of}
use Rattle.gc_values.specs.Kleene.{told}
use Rattle.gc_values.specs.declared.reads.Made.{Made}
use Rattle.gc_values.specs.declared.truth3.Truth3.{Truth3}
use Rattle.gc_values.specs.declared.truth3.Truth3.TheVariants.{Unknown}
use Rattle.gc_values.specs.declared.val.Val.{Val}
use Rattle.gc_values.specs.declared.val.Val.TheVariants.{Set, Element, Undefined}
use Rattle.gc_values.specs.declared.val.Why.{Why}
use Rattle.gc_values.specs.declared.val.Why.TheVariants.{Overflow}

-- labels and properties
pub record Description : Type 0 where
  pub labels : List (List ℕ)
  pub properties : List Property

-- what stands before a dot or a colon: undefined for a reason, or described, where it is an element that its graph has
abbrev pub Seen : Type 0
Seen = Result (Option Description) Why

-- an element of a graph, if there is a graph and it has it
abbrev pub node_description : Option PropertyGraph → ℕ → Option Description
node_description graph id = option_map (λ n. record { labels = n.labels; properties = n.properties }) (option_and_then (λ g. node_at g.nodes id) graph)

abbrev pub edge_description : Option PropertyGraph → ℕ → Option Description
edge_description graph id = option_map (λ e. record { labels = e.labels; properties = e.properties }) (option_and_then (λ g. edge_at g.edges id) graph)

abbrev pub path_description : Option PropertyGraph → ℕ → Option Description
path_description graph id = option_map (λ p. record { labels = p.labels; properties = p.properties }) (option_and_then (λ g. path_at g.paths id) graph)

-- what a variable stands for, in a graph
abbrev pub described_in : Option PropertyGraph → Option Datum → Seen
described_in graph None = Ok None
described_in graph (Some (Node id)) = Ok (node_description graph id)
described_in graph (Some (Edge id)) = Ok (edge_description graph id)
described_in graph (Some (Stored id)) = Ok (path_description graph id)
described_in graph (Some PastRange) = Err Overflow
described_in graph (Some d) = Ok None

-- a construct variable has the description that was made, where it stands for something
abbrev pub description_made : Made → Option Description
description_made m = option_map (λ d. record { labels = m.labels; properties = m.properties }) m.datum

abbrev pub described_made_or : Seen → Option Made → Seen
described_made_or in_graph None = in_graph
described_made_or in_graph (Some m) = Ok (description_made m)

-- a variable
abbrev pub variable_described : Context → Sym → Seen
variable_described ctx x = described_made_or (described_in (own_graph ctx x) (datum_at ctx.row x)) (made_of ctx x)

-- a value, where its elements are described so
abbrev pub value_described : (ℕ → Option Description) → Val → Seen
value_described look (Undefined why) = Err why
value_described look (Element id) = Ok (look id)
value_described look v = Ok None

-- an expression of this value: a variable, a node or an edge on a walk, or else something that has no labels and properties
abbrev pub expr_described : Context → TreeOf Sym AnExpr → Val → Seen
expr_described ctx (At token (tree.Var x)) v = variable_described ctx x
expr_described ctx (At token (tree.NodeAt p i)) v = value_described (node_description (walk_graph ctx p)) v
expr_described ctx (At token (tree.EdgeAt p i)) v = value_described (edge_description (walk_graph ctx p)) v
expr_described ctx e v = value_described (λ id. None) v

-- the values of a property, which are none where it is not there
abbrev pub values_seen : Option Description → List ℕ → List Literal
values_seen seen name = unwrap_or (option_and_then (λ d. values_of d.properties name) seen) []

abbrev pub property_of : Seen → List ℕ → Val
property_of (Err why) name = Undefined why
property_of (Ok seen) name = Set (values_seen seen name)

-- whether a label is there
abbrev pub has_label : Option Description → List ℕ → Bool
has_label None label = false
has_label (Some d) label = has text_order d.labels label

abbrev pub label_truth : Seen → List ℕ → Truth3
label_truth (Err why) label = Unknown
label_truth (Ok seen) label = told (has_label seen label)
