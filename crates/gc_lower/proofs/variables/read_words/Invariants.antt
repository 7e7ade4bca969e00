use Rattle.std.proofs.Common.{◌≡◌, true, take}
use Rattle.std.specs.List.{list_all}
use Rattle.gc_base.specs.Words.{is_word}
use Rattle.gc_lower.proofs.variables.read_words.Given as goal

-- the names so far are words
abbrev pub invariant-loop-name : goal.invariant-loop-name
invariant-loop-name l = list_all is_word (take l.name-index l.name-items) ≡ true
