use Rattle.std.proofs.Common.{◌≡◌, ◌++◌, drop}
use Rattle.std.specs.List.{flat_map}
use Rattle.gc_build.specs.Walks.{walks_from, walks_of}
use Rattle.gc_build.proofs.walks.ids_on_walks.Given as goal

-- those of the rows so far, before those of the rest
abbrev pub invariant-loop-place : goal.invariant-loop-place
invariant-loop-place g l =
    l.ids.items ++ flat_map g.T.OnWalk.on (walks_from l.making l.kept l.path l.place (drop l.place l.table.rows))
    ≡ flat_map g.T.OnWalk.on (walks_of l.making l.kept l.path)
