use Rattle.std.proofs.Common.{◌≡◌, drop, fold}
use Rattle.std.specs.List.{flat_map}
use Rattle.gc_build.specs.Walks.{with_path}
use Rattle.gc_build.proofs.claiming.add_projected.Given as goal

-- with those of the rest they are all
abbrev pub invariant-loop-one : goal.invariant-loop-one
invariant-loop-one l = fold with_path l.paths.items (flat_map (λ k. k.projected) (drop l.one-index l.kept)) ≡ fold with_path l.initial.paths.items (flat_map (λ k. k.projected) l.kept)
