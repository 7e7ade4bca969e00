use Rattle.std.proofs.Common.{◌≡◌, drop, fold, map}
use Rattle.gc_build_descriptions.specs.Givens.{with_given}
use Rattle.gc_build_descriptions.proofs.changes.give.Given as goal

-- the changes so far and those of the rest make the whole
abbrev pub invariant-loop-given : goal.invariant-loop-given
invariant-loop-given l =
    fold (with_given l.place) l.description (map (λ x. x.now) (drop l.given-index l.given-items)) ≡ fold (with_given l.place) l.initial.description (map (λ x. x.now) l.given-items)
