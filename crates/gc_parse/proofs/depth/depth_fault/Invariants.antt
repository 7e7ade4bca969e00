use Rattle.std.proofs.Common.{◌≡◌, ◌≤◌, length, take}
use Rattle.std.specs.List.{filter}
use Rattle.gc_parse.specs.Depths.{is_opening, is_closing}
use Rattle.gc_parse.proofs.Prefixes.{NoneTooDeep}
use Rattle.gc_parse.proofs.depth.depth_fault.Given as goal

-- the brackets so far are counted, and were never too deep
abbrev pub invariant-loop-number : goal.invariant-loop-number
invariant-loop-number l =
    (l.opened ≡ length (filter is_opening (take l.number l.tokens.tokens)))
    × (l.closed ≡ length (filter is_closing (take l.number l.tokens.tokens)))
    × (l.opened ≤ l.number)
    × (l.closed ≤ l.number)
    × NoneTooDeep l.tokens.tokens l.number
