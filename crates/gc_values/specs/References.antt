-- What is seen of literals, sets and values where they lie.
use Rattle.std.specs.Prelude.{List, [], ◌∷◌, Bool}
use Rattle.std.specs.Ordering.{eq_by_cmp}
use Rattle.gc_base.specs.Literals.{literal_order}
use Rattle.gc_base.specs.declared.literal.Literal.{Literal}
use Rattle.gc_base.specs.declared.literal.Literal.TheVariants as literal
use Rattle.gc_values.specs.declared.literal_ref.LiteralRef.{LiteralRef}
use Rattle.gc_values.specs.declared.literal_ref.LiteralRef.TheVariants.{Truth, Number, Text}
use Rattle.gc_values.specs.declared.literals.Literals.{Literals}
use Rattle.gc_values.specs.declared.literals.Literals.TheVariants.{Empty, One, Many}
use Rattle.gc_values.specs.declared.val.Val.{Val}
use Rattle.gc_values.specs.declared.val.Val.TheVariants as val
use Rattle.gc_values.specs.declared.val_ref.ValRef.{ValRef}
use Rattle.gc_values.specs.declared.val_ref.ValRef.TheVariants.{Set, Element, Walked, Undefined}

-- whether two literals are the same
abbrev pub same_literal : Literal → Literal → Bool
same_literal = eq_by_cmp literal_order

-- a literal
abbrev pub literal_seen : LiteralRef → Literal
literal_seen (Truth t) = literal.Truth t
literal_seen (Number n) = literal.Number n
literal_seen (Text t) = literal.Text t.now

-- the literals of a set
abbrev pub literals_seen : Literals → List Literal
literals_seen Empty = []
literals_seen (One l) = literal_seen l ∷ []
literals_seen (Many values) = values.now

-- a value
abbrev pub value_seen : ValRef → Val
value_seen (Set values) = val.Set (literals_seen values)
value_seen (Element id) = val.Element id
value_seen Walked = val.Walked
value_seen (Undefined why) = val.Undefined why
