use Rattle.std.proofs.Common.{◌≡◌, ◌++◌, drop, map, string_bytes}
use Rattle.std.specs.Option.{option_map}
use Rattle.gcore.specs.Pairs.{pairs_of}
use Rattle.gcore.proofs.pair.pairs_of.Given as goal

-- the pairs so far, with those of the rest
abbrev pub invariant-loop-word : goal.invariant-loop-word
invariant-loop-word l = option_map (λ rest. l.pairs ++ rest) (pairs_of (map string_bytes (drop l.word-index l.words))) ≡ pairs_of (map string_bytes l.words)
