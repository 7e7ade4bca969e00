use Rattle.std.proofs.Common.{◌≡◌, [], drop, map}
use Rattle.gc_sorts.specs.FileBlocks.{around_by}
use Rattle.gc_lower.specs.Namings.{names_of, scope}
use Rattle.gc_lower.specs.Sights.{around_reads}
use Rattle.gc_lower.proofs.around.around_reads.Given as goal

-- what is seen so far, and then of the parts that are left, is what is seen of all
abbrev pub invariant-loop-part : goal.invariant-loop-part
invariant-loop-part l =
    around_reads (scope l.naming) l.reads.items (map (around_by (names_of l.naming)) (drop l.part-index l.part-items))
    ≡ around_reads (scope l.naming) [] (map (around_by (names_of l.naming)) l.part-items)
