-- The plan of a part is made of the steps that are printed for it.
use Rattle.std.proofs.Common.{ℕ, List, refl}
use Rattle.gc_base.specs.declared.place.Sym.{Sym}
use Rattle.gc_spec.specs.PropertyGraph.{PropertyGraph}
use Rattle.gc_alg.specs.Trees.{Tree, APart, PartOf}
use Rattle.gc_explain.specs.WholePlans.{whole_part}
use Rattle.gc_explain_query.specs.Printed.{IsPlannedAsPrinted}

pub planned_as_printed : (graphs : List PropertyGraph) (around : List Sym) (number : ℕ) (part : Tree APart) → IsPlannedAsPrinted graphs around number part
unfolding whole_part
planned_as_printed graphs around number (PartOf atoms conjuncts) = refl
