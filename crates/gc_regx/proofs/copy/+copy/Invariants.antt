use Rattle.std.proofs.Common.{◌≡◌, take, map}
use Rattle.gc_regx.specs.Views.{regex_tree}
use Rattle.gc_regx.proofs.copy.+copy.Given as goal

abbrev pub invariant-copy_parts-loop-part : goal.invariant-copy_parts-loop-part
invariant-copy_parts-loop-part l = map regex_tree l.copied.items ≡ map regex_tree (take l.part-index l.part-items)
