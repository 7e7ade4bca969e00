use Rattle.gc_expr.specs.Views.{name_of}
use Rattle.std.proofs.Common.{◌≡◌, take}
use Rattle.gc_ast.specs.PatternViews.{all_named_by}
use Rattle.gc_lower.specs.Chains.{view_uses}
use Rattle.gc_lower.specs.Namings.{names_of, scope}
use Rattle.gc_lower.proofs.paths.view_uses.Given as goal

-- the views so far
abbrev pub invariant-loop-name : goal.invariant-loop-name
invariant-loop-name l = l.uses.items ≡ view_uses (scope l.naming) (all_named_by (name_of (names_of l.naming)) (take l.name-index l.name-items))
