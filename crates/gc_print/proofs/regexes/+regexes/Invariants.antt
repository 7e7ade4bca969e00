use Rattle.std.proofs.Common.{◌≡◌, ◌++◌, map, drop}
use Rattle.std.specs.List.{join_with_byte}
use Rattle.gc_regx.specs.Views.{regex_tree}
use Rattle.gc_print.specs.RegexTexts.{enclosed, part_of}
use Rattle.gc_print.proofs.PartTexts.{joined_from}
use Rattle.gc_print.proofs.regexes.+regexes.Given as goal

-- what is written and what is left make the whole
abbrev pub invariant-write_parts-loop-i : goal.invariant-write_parts-loop-i
invariant-write_parts-loop-i l =
    l.text.items ++ joined_from l.i l.between (map (λ part. enclosed l.most (part_of (regex_tree part))) (drop l.i l.parts.items))
    ≡ l.fn.text.items ++ join_with_byte l.between (map (λ part. enclosed l.most (part_of (regex_tree part))) l.parts.items)
