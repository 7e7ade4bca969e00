use Rattle.std.proofs.Common.{◌≡◌, drop, map}
use Rattle.gc_expr.specs.Trees.{row}
use Rattle.gc_expr.specs.Views.{numbered_expr}
use Rattle.gc_values.specs.ExprTruths.{all_of, any_of}
use Rattle.gc_values.specs.Kleene.{both, either}
use Rattle.gc_values.proofs.truths.+truth.Given as goal

-- the truth so far and that of the rest make the whole
abbrev pub invariant-all_of-loop-part : goal.invariant-all_of-loop-part
invariant-all_of-loop-part g l =
    both l.all (all_of l.context l.answers (row (map numbered_expr (drop l.part-index l.part-items)))) ≡ all_of l.context l.answers (row (map numbered_expr l.part-items))

abbrev pub invariant-any_of-loop-part : goal.invariant-any_of-loop-part
invariant-any_of-loop-part g l =
    either l.any (any_of l.context l.answers (row (map numbered_expr (drop l.part-index l.part-items)))) ≡ any_of l.context l.answers (row (map numbered_expr l.part-items))
