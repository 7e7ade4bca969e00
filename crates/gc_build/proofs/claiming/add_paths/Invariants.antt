use Rattle.std.proofs.Common.{◌≡◌, drop, fold}
use Rattle.gc_build.specs.Walks.{with_path}
use Rattle.gc_build.proofs.claiming.add_paths.Given as goal

-- with the rest they are all
abbrev pub invariant-loop-path : goal.invariant-loop-path
invariant-loop-path l = fold with_path l.paths.items (drop l.path-index l.more) ≡ fold with_path l.initial.paths.items l.more
