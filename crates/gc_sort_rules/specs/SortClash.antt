-- S4. A variable in a pattern stands first for another sort; or an expression or a name is of a sort that its place does
-- not take. A second place that breaks S5 does not break this rule, nor does a name that is unknown, nor an ALL path where
-- none may stand, which breaks S7.
-- `CONSTRUCT (n) MATCH (n) WHERE n.a` breaks it at `n.a`, which is a value where a condition is wanted;
-- `CONSTRUCT (n) MATCH (n)-[n]->(m)` breaks it at the second `n` of the MATCH, which is a node by its first place.
use Rattle.std.specs.Prelude.{Bool, true, false, not, ◌&&◌, Option, Some, None}
use Rattle.gc_sorts.specs.declared.form.Form.{Form}
use Rattle.gc_sorts.specs.declared.form.Form.TheVariants.{Unknown, Condition, Node, Edge, Stored, Found, Kept, All, Value}
use Rattle.gc_sorts.specs.declared.form.Takes.{Takes}
use Rattle.gc_sorts.specs.declared.form.Takes.TheVariants as takes
use Rattle.gc_sorts.specs.declared.sort.Role.{Role}
use Rattle.gc_sorts.specs.Constructs.{is_later}
use Rattle.gc_sorts.specs.Matches.{same_sort}
use Rattle.gc_sorts.specs.Variables.{Use, sort_of, first_use}
use Rattle.gc_sort_rules.specs.Places.{Occurrence, At, Binding, Operand, Projected}
use Rattle.gc_sort_rules.specs.TwiceBound.{stands_once}

-- two sides of `=` or `<>`, and two places of an element of a CONSTRUCT, are two values, nodes, edges or stored paths
abbrev pub is_comparable : Form → Form → Bool
is_comparable Value Value = true
is_comparable Node Node = true
is_comparable Edge Edge = true
is_comparable Stored Stored = true
is_comparable a b = false

-- a place takes anything; conditions, as WHERE; values, as `<`; what has labels and properties, before `.` and `:`; all but
-- conditions, as COUNT; paths with one walk, as `length`; or what is like another thing, where that is known
abbrev pub is_taken : Takes → Form → Bool
is_taken takes.Anything known = true
is_taken takes.Condition Condition = true
is_taken takes.Condition known = false
is_taken takes.Value Value = true
is_taken takes.Value known = false
is_taken takes.Described Node = true
is_taken takes.Described Edge = true
is_taken takes.Described Stored = true
is_taken takes.Described Kept = true
is_taken takes.Described known = false
is_taken takes.Counted Condition = false
is_taken takes.Counted known = true
is_taken takes.Walked Stored = true
is_taken takes.Walked Found = true
is_taken takes.Walked Kept = true
is_taken takes.Walked known = false
is_taken (takes.Like Unknown) known = true
is_taken (takes.Like other) known = is_comparable other known

-- whether a place does not take what stands there; of a name that is unknown nothing is asked, nor of an ALL path
abbrev pub clashes : Takes → Form → Bool
clashes place Unknown = false
clashes place All = false
clashes place known = not (is_taken place known)

-- whether a variable with this first place is of another sort than what stands here
abbrev pub is_other : Option Use → Role → Bool
is_other None role = false
is_other (Some first) role = not (same_sort (sort_of first.role) (sort_of role))

abbrev pub breaks : Occurrence → Bool
breaks (At token (Binding name role mandatory earlier) seen) =
    is_later (first_use seen.variables name) token
    && (not (stands_once seen.variables (first_use seen.variables name)) && is_other (first_use seen.variables name) role)
breaks (At token (Operand place known) seen) = clashes place known
breaks (At token (Projected known) seen) = clashes takes.Walked known
breaks occurrence = false
