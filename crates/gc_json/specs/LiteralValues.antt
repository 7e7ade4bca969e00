-- The values of a property in a graph file.
use Rattle.std.specs.Prelude.{List, [], ◌∷◌, map, Option, Some, None, option_map, Result, Ok}
use Rattle.gc_base.specs.Literals.{literal_order}
use Rattle.gc_base.specs.declared.literal.Literal.{Literal}
use Rattle.gc_base.specs.declared.literal.Literal.TheVariants.{Truth, Number, Text}
use Rattle.serde_json.specs.Data.{Data, null, boolean, number, string, array, object, Items}
use Rattle.serde_json.specs.Find.{as_array, as_i64}
use Rattle.gc_json.specs.Gathering.{all_or_first, data_of, set_of}
use Rattle.gc_json.specs.Reading.{◌>>=◌, or_refused}
use Rattle.gc_json.specs.declared.fault.Fault.{Fault}
use Rattle.gc_json.specs.declared.fault.Fault.TheVariants.{NotLiteral}

-- a literal is a truth, a whole number that fits 64 bits with its sign, or a text
abbrev pub literal_of : Data → Option Literal
literal_of null = None
literal_of (boolean t) = Some (Truth t)
literal_of (number n) = option_map Number (as_i64 n)
literal_of (string s) = Some (Text s)
literal_of (array ds) = None
literal_of (object ms) = None

-- the values of a list of literals: in the order of literals, each once
abbrev pub values_among : List Data → Result (List Literal) Fault
values_among ds = all_or_first (map (λ d. or_refused NotLiteral (literal_of d)) ds) >>= λ values. Ok (set_of literal_order values)

-- the values of an array; another value is taken as an array of it alone
abbrev pub values_in : Data → Option Items → Result (List Literal) Fault
values_in d None = values_among (d ∷ [])
values_in d (Some ds) = values_among (data_of ds)

abbrev pub values_of : Data → Result (List Literal) Fault
values_of d = values_in d (as_array d)
