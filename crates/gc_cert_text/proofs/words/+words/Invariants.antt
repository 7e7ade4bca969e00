use Rattle.std.proofs.Common.{map, drop}
use Rattle.gc_regx.specs.Trees.{row}
use Rattle.gc_regx.specs.Views.{regex_tree}
use Rattle.gc_cert_text.specs.WordTrees.{HasWords}
use Rattle.gc_cert_text.proofs.words.+words.Given as goal

-- all have words where the rest have
abbrev pub invariant-know_all-loop-part : goal.invariant-know_all-loop-part
invariant-know_all-loop-part l = HasWords (row (map regex_tree (drop l.part-index l.parts))) → HasWords (row (map regex_tree l.parts))
