-- The walk of a path, its length, and its nodes and edges by number.
use Rattle.std.specs.Prelude.{ℕ, ℤ, pos, negsuc, List, [], ◌∷◌, length, Option, Some, None, Result, Ok, Err, slice_get}
use Rattle.std.specs.Option.{option_map, option_and_then}
use Rattle.gc_base.specs.declared.place.Sym.{Sym}
use Rattle.gc_base.specs.declared.walk.Walk.{Walk}
use Rattle.gc_rows.specs.Data.{nodes_of}
use Rattle.gc_rows.specs.declared.datum.Datum.{Datum}
use Rattle.gc_rows.specs.declared.datum.Datum.TheVariants.{Stored, Found}
use Rattle.gc_spec.specs.PropertyGraph.{PropertyGraph, path_at}
use Rattle.gc_values.specs.Arithmetic.{exact, number_value, operand_of}
use Rattle.gc_values.specs.Contexts.{Context, own_graph, datum_of}
use Rattle.gc_values.specs.declared.val.Val.{Val}
use Rattle.gc_values.specs.declared.val.Val.TheVariants.{Set, Element, Undefined}
use Rattle.gc_values.specs.declared.numbers.Operand.{Operand}
use Rattle.gc_values.specs.declared.numbers.Operand.TheVariants.{Missing, Empty, Number, Other}
use Rattle.gc_values.specs.declared.val.Why.{Why}
use Rattle.gc_values.specs.declared.val.Why.TheVariants.{WrongKind}

-- the walk of a stored path, if there is a graph and it has the path
abbrev pub stored_walk : Option PropertyGraph → ℕ → Option Walk
stored_walk graph id = option_map (λ p. p.walk) (option_and_then (λ g. path_at g.paths id) graph)

-- a found walk, or the walk of a stored path in the graph
abbrev pub walk_in : Option PropertyGraph → Option Datum → Option Walk
walk_in graph (Some (Found walk)) = Some walk
walk_in graph (Some (Stored id)) = stored_walk graph id
walk_in graph d = None

-- the walk of a variable
abbrev pub walk_of : Context → Sym → Option Walk
walk_of ctx p = walk_in (own_graph ctx p) (datum_of ctx p)

-- the number of edges of a walk; the empty set where there is none
abbrev pub length_of : Option Walk → Val
length_of None = Set []
length_of (Some walk) = number_value (exact (pos (length walk.steps)))

-- all nodes of a walk, its start first
abbrev pub nodes_along : Walk → List ℕ
nodes_along walk = walk.start ∷ nodes_of walk

-- the place of a number, from 0; a negative one has none
abbrev pub place_at : ℤ → Option ℕ
place_at (pos n) = Some n
place_at (negsuc n) = None

-- the place that an index names: a missing index gives its reason, an empty one no place; else it has to be one number
abbrev pub place_of : Operand → Result (Option ℕ) Why
place_of (Missing why) = Err why
place_of Empty = Ok None
place_of (Number n) = Ok (place_at n)
place_of Other = Err WrongKind

-- an element, or the empty set
abbrev pub element_or_none : Option ℕ → Val
element_or_none None = Set []
element_or_none (Some id) = Element id

-- the element at a place; the empty set where there is none
abbrev pub element_at : List ℕ → Result (Option ℕ) Why → Val
element_at ids (Err why) = Undefined why
element_at ids (Ok place) = element_or_none (option_and_then (slice_get ids) place)

-- a node or an edge of a walk by its index; the empty set, whatever the index, where there is no walk
abbrev pub part_at : (Walk → List ℕ) → Option Walk → Val → Val
part_at parts None i = Set []
part_at parts (Some walk) i = element_at (parts walk) (place_of (operand_of i))
