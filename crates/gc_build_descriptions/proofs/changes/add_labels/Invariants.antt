use Rattle.std.proofs.Common.{◌≡◌, drop, fold, map}
use Rattle.gc_build_descriptions.specs.Described.{with_label}
use Rattle.gc_build_descriptions.proofs.changes.add_labels.Given as goal

-- the changes so far and those of the rest make the whole
abbrev pub invariant-loop-label : goal.invariant-loop-label
invariant-loop-label l =
    fold with_label l.description (map (λ x. x.now) (drop l.label-index l.label-items)) ≡ fold with_label l.initial.description (map (λ x. x.now) l.label-items)
