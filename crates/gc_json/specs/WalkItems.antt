-- The walk of a stored path in a graph file.
use Rattle.std.specs.Prelude.{ℕ, ◌&&◌, Bool, true, List, [], ◌∷◌, map, if◌then◌else◌, Option, option_and_then, Result, Ok, Err}
use Rattle.std.specs.Option.{is_some}
use Rattle.gc_base.specs.declared.walk.Step.{Step}
use Rattle.gc_base.specs.declared.walk.Walk.{Walk}
use Rattle.gc_spec.specs.PropertyGraph.{PropertyGraph, is_walk}
use Rattle.serde_json.specs.Data.{Data, Items, no_items, item}
use Rattle.serde_json.specs.Find.{as_number, as_u64, as_array}
use Rattle.gc_json.specs.Gathering.{all_or_first, data_of}
use Rattle.gc_json.specs.JsonValues.{id_of}
use Rattle.gc_json.specs.Reading.{◌>>=◌, or_refused}
use Rattle.gc_json.specs.declared.fault.Fault.{Fault}
use Rattle.gc_json.specs.declared.fault.Fault.TheVariants.{WrongShape, BadWalk}

-- the whole number that a value is
abbrev pub number_of : Data → Option ℕ
number_of d = option_and_then as_u64 (as_number d)

-- whether each item is a whole number
abbrev pub are_numbers : Items → Bool
are_numbers no_items = true
are_numbers (item d ds) = is_some (number_of d) && are_numbers ds

abbrev pub numbers_of : Items → Result Items Fault
numbers_of ds = if are_numbers ds then Ok ds else Err WrongShape

-- the array of numbers that is there
abbrev pub walk_items : Option Data → Result Items Fault
walk_items o = or_refused WrongShape (option_and_then as_array o) >>= numbers_of

-- an identity on a walk
abbrev pub id_on_walk : Data → Result ℕ Fault
id_on_walk d = or_refused BadWalk (option_and_then id_of (number_of d))

abbrev pub ids_on_walk : Items → Result (List ℕ) Fault
ids_on_walk ds = all_or_first (map id_on_walk (data_of ds))

-- an edge and a node
abbrev pub step_of : Data → Data → Result Step Fault
step_of d e = id_on_walk d >>= λ edge. id_on_walk e >>= λ node. Ok (record { edge = edge; node = node })

-- the steps of edges and nodes in turn
abbrev pub steps_from : List ℕ → Result (List Step) Fault
steps_from [] = Ok []
steps_from (edge ∷ []) = Err BadWalk
steps_from (edge ∷ node ∷ ids) = steps_from ids >>= λ steps. Ok (record { edge = edge; node = node } ∷ steps)

abbrev pub steps_among : Items → Result (List Step) Fault
steps_among ds = ids_on_walk ds >>= steps_from

-- a node, and then steps
abbrev pub walk_from : List ℕ → Result Walk Fault
walk_from [] = Err BadWalk
walk_from (start ∷ ids) = steps_from ids >>= λ steps. Ok (record { start = start; steps = steps })

abbrev pub walk_of : Items → Result Walk Fault
walk_of ds = ids_on_walk ds >>= walk_from

-- a walk of the graph
abbrev pub known_walk : PropertyGraph → Walk → Result Walk Fault
known_walk g walk = if is_walk g.nodes g.edges walk then Ok walk else Err BadWalk

abbrev pub walk_in : PropertyGraph → Items → Result Walk Fault
walk_in g ds = walk_of ds >>= known_walk g
