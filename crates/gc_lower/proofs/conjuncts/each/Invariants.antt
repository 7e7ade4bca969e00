use Rattle.gc_expr.specs.Trees.{renamed}
use Rattle.gc_lower.specs.Namings.{variable_in}
use Rattle.std.proofs.Common.{◌≡◌, ◌++◌, drop, map}
use Rattle.gc_expr.specs.Views.{numbered_expr}
use Rattle.gc_alg.specs.Views.{conjunct_tree, exists_tree}
use Rattle.gc_lower.specs.Conditions.{dealt}
use Rattle.gc_lower.proofs.conjuncts.each.Given as goal

-- the conjuncts so far and those of the rest are all
abbrev pub invariant-loop-part : goal.invariant-loop-part
invariant-loop-part l =
    map conjunct_tree l.conjuncts.items ++ dealt l.before (map (λ e. renamed (variable_in l.naming) (numbered_expr e)) (drop l.part-index l.parts)) (map exists_tree l.left.items)
    ≡ dealt 0 (map (λ e. renamed (variable_in l.naming) (numbered_expr e)) l.parts) (map exists_tree l.initial.left.items)
