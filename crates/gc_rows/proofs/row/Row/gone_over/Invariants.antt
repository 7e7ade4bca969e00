use Rattle.std.proofs.Common.{◌≡◌}
use Rattle.std.specs.declared.cmp.Ordering.TheVariants.{Less}
use Rattle.std.specs.List.{AllWithin}
use Rattle.std.specs.Ordering.{nat_cmp}
use Rattle.gc_rows.proofs.row.Row.gone_over.Given as goal

-- the bindings that were gone over are of variables below
abbrev pub invariant-loop-place : goal.invariant-loop-place
invariant-loop-place l = AllWithin (λ b. nat_cmp b.var.0 l.var.0 ≡ Less) l.bindings 0 l.place
