use Rattle.std.proofs.Common.{◌≡◌, ◌++◌, drop}
use Rattle.std.specs.List.{flat_map}
use Rattle.gc_print_query.specs.TokenTexts.{escaped}
use Rattle.gc_print_query.proofs.pieces.write_escaped.Given as goal

-- what is written and what is left make the whole
abbrev pub invariant-loop-byte : goal.invariant-loop-byte
invariant-loop-byte l = l.text.items ++ flat_map escaped (drop l.byte-index l.bytes) ≡ l.fn.text.items ++ flat_map escaped l.bytes
