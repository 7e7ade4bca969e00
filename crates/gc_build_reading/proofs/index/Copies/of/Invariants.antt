use Rattle.std.proofs.Common.{◌≡◌, ◌≤◌, drop, length, nat_eq}
use Rattle.indexmap.specs.IndexMap.{get}
use Rattle.gc_base.specs.declared.place.Sym.{Sym}
use Rattle.gc_build_reading.specs.Variables.{copied_by}
use Rattle.gc_build_reading.proofs.index.Copies.of.Given as goal

abbrev pub invariant-loop-at : goal.invariant-loop-at
invariant-loop-at l = record {
  within : l.at ≤ length l.list;
  copied : (x : Sym) → get nat_eq l.copied x.0 ≡ copied_by (drop l.at l.list) x;
}

abbrev pub decreases-loop-at : goal.decreases-loop-at
decreases-loop-at l = l.at
