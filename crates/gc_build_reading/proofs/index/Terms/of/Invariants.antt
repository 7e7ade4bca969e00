use Rattle.std.proofs.Common.{◌≡◌, ◌++◌}
use Rattle.gc_base.specs.declared.place.Sym.{Sym}
use Rattle.gc_build_reading.specs.Indexes.{terms_in}
use Rattle.gc_build_reading.specs.Variables.{own_terms}
use Rattle.gc_build_reading.proofs.index.Terms.of.Given as goal

abbrev pub invariant-loop-one : goal.invariant-loop-one
invariant-loop-one l = (x : Sym) → terms_in l.terms x ++ own_terms (l.one-iterator.rest.items) x ≡ own_terms l.fn.list x
