use Rattle.std.proofs.Common.{◌≡◌, drop}
use Rattle.std.specs.List.{flat_map}
use Rattle.gc_alg.specs.Trees.{atoms_of}
use Rattle.gc_alg.specs.Views.{part_tree}
use Rattle.gc_build.specs.AllPaths.{first_all}
use Rattle.gc_build.proofs.patterns.all_in_parts.Given as goal

-- none is among those so far
abbrev pub invariant-loop-part : goal.invariant-loop-part
invariant-loop-part l =
    first_all l.path (flat_map (λ p. atoms_of (part_tree p)) (drop l.part-index l.parts)) ≡ first_all l.path (flat_map (λ p. atoms_of (part_tree p)) l.parts)
