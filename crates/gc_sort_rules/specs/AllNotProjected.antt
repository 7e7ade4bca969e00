-- S7. An ALL path stands elsewhere than in its pattern and in `-/p/->` of the CONSTRUCT. A target of SET or REMOVE that
-- the CONSTRUCT does not make breaks S3 instead.
-- `CONSTRUCT (n) MATCH (n)-/ALL p<_>/->(m) WHERE length(p) = 1` breaks it at the `p` of `length(p)`.
use Rattle.std.specs.Prelude.{Bool, true, false, ◌&&◌}
use Rattle.gc_sorts.specs.declared.form.Form.{Form}
use Rattle.gc_sorts.specs.declared.form.Form.TheVariants.{All}
use Rattle.gc_sort_rules.specs.Places.{Occurrence, At, Operand, Target}
use Rattle.gc_sort_rules.specs.UnknownName.{is_target}

abbrev pub is_all : Form → Bool
is_all All = true
is_all known = false

abbrev pub breaks : Occurrence → Bool
breaks (At token (Operand place known) seen) = is_all known
breaks (At token (Target name known made stored) seen) = is_target made stored name && is_all known
breaks occurrence = false
