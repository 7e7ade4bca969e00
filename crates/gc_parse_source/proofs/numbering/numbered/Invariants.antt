use Rattle.std.proofs.Common.{◌≡◌, drop, fold, take}
use Rattle.gc_parse_source.specs.Sources.{AreNumbersOf, names_among, with_token}
use Rattle.gc_parse_source.proofs.numbering.numbered.Given as goal

-- the tokens so far have their numbers, and the table has their names
abbrev pub invariant-loop-token : goal.invariant-loop-token
invariant-loop-token l =
    AreNumbersOf l.names (take l.token-index l.tokens) l.syms.items × (fold with_token l.names (drop l.token-index l.tokens) ≡ names_among l.tokens)
