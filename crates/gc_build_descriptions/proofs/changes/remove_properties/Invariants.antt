use Rattle.std.proofs.Common.{◌≡◌, drop, fold, map}
use Rattle.gc_build_descriptions.specs.Described.{without_property}
use Rattle.gc_build_descriptions.proofs.changes.remove_properties.Given as goal

-- the changes so far and those of the rest make the whole
abbrev pub invariant-loop-property : goal.invariant-loop-property
invariant-loop-property l =
    fold without_property l.description (map (λ x. x.now) (drop l.property-index l.property-items)) ≡ fold without_property l.initial.description (map (λ x. x.now) l.property-items)
