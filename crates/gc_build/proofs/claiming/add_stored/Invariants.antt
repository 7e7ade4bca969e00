use Rattle.std.proofs.Common.{◌≡◌, drop, fold, map}
use Rattle.std.specs.List.{filter}
use Rattle.gc_build.specs.Walks.{is_path, with_path}
use Rattle.gc_build.proofs.claiming.add_stored.Given as goal

-- with those of the rest they are all
abbrev pub invariant-loop-variable : goal.invariant-loop-variable
invariant-loop-variable l =
    fold with_path l.paths.items (map (λ v. v.var) (filter (λ v. is_path v.kind) (drop l.variable-index l.variables)))
    ≡ fold with_path l.initial.paths.items (map (λ v. v.var) (filter (λ v. is_path v.kind) l.variables))
