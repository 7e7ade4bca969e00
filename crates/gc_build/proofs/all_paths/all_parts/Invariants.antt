use Rattle.std.proofs.Common.{◌≡◌, map, take}
use Rattle.std.specs.List.{AllByRecursion}
use Rattle.gc_build.specs.AllPaths.{AreParts}
use Rattle.gc_build.specs.Patterns.{plain}
use Rattle.gc_build.proofs.all_paths.all_parts.Given as goal

-- the paths so far
abbrev pub invariant-loop-path : goal.invariant-loop-path
invariant-loop-path g l =
    (map (λ parts. parts.path) l.all.items ≡ take l.path-index l.paths) × AllByRecursion (AreParts (plain l.patterns) l.making l.kept) l.all.items
