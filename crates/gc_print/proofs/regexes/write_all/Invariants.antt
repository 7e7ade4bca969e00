use Rattle.std.proofs.Common.{◌≡◌, ◌++◌, drop}
use Rattle.std.specs.List.{flat_map}
use Rattle.gc_print.proofs.regexes.write_all.Given as goal

-- what is written and what is left make the whole
abbrev pub invariant-loop-piece : goal.invariant-loop-piece
invariant-loop-piece l =
    l.text.items ++ flat_map (λ piece. piece.now) (drop l.piece-index l.pieces) ≡ l.fn.text.items ++ flat_map (λ piece. piece.now) l.pieces
