use Rattle.std.proofs.Common.{◌≡◌, map, nat_eq, drop}
use Rattle.std.specs.List.{list_any}
use Rattle.std.specs.Cmp.Lexicographic.{pointwise}
use Rattle.gc_base.proofs.name.is_among.Given as goal

-- the word is among the rest just where it is among all
abbrev pub invariant-loop-other : goal.invariant-loop-other
invariant-loop-other l =
    list_any (pointwise nat_eq l.word) (map (λ w. w.now) (drop l.other-index l.words)) ≡ list_any (pointwise nat_eq l.word) (map (λ w. w.now) l.words)
