use Rattle.std.proofs.Common.{◌≡◌, ◌||◌, drop}
use Rattle.gc_base.specs.declared.place.Sym.{Sym}
use Rattle.gc_rows.specs.Rows.{lists}
use Rattle.gc_build_reading.specs.Indexes.{has}
use Rattle.gc_build_reading.proofs.index.Vars.of.Given as goal

abbrev pub invariant-loop-var : goal.invariant-loop-var
invariant-loop-var l = (x : Sym) → (has l.set x || lists (drop l.var-index l.vars) x) ≡ lists l.vars x
