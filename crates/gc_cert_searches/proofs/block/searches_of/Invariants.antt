use Rattle.std.proofs.Common.{[], take}
use Rattle.std.specs.List.{flat_map}
use Rattle.gc_alg.specs.declared.block.Block.{out-Block}
use Rattle.gc_cert_searches.specs.Found.{AreAdded}
use Rattle.gc_cert_searches.specs.Searches.{matched}
use Rattle.gc_cert_searches.proofs.InTurn.{patterns_in}
use Rattle.gc_cert_searches.proofs.block.searches_of.Given as goal

-- the documents of the parts so far
abbrev pub invariant-loop-part : goal.invariant-loop-part
invariant-loop-part g l = AreAdded (matched l.graphs l.segments l.table) (flat_map patterns_in (take l.part-index (out-Block l.block).parts.items)) [] l.docs.items
