use Rattle.std.proofs.Common.{◌≡◌, ◌++◌, drop}
use Rattle.std.specs.List.{flat_map}
use Rattle.gc_build.specs.Walks.{along_graph, of_ids, walks_of}
use Rattle.gc_build.proofs.claiming.add_all_walks.Given as goal

-- what stands on the walks so far, before that of the rest
abbrev pub invariant-loop-one : goal.invariant-loop-one
invariant-loop-one g l =
    l.claimed.items
    ++ flat_map (λ a. of_ids g.T.Part.id_of g.T.Part.all (flat_map g.T.OnWalk.on (walks_of l.making l.kept a.path) ++ g.T.OnWalk.among a) (along_graph l.making.setting a.path)) (drop l.one-index l.parts)
    ≡ l.initial.claimed.items
    ++ flat_map (λ a. of_ids g.T.Part.id_of g.T.Part.all (flat_map g.T.OnWalk.on (walks_of l.making l.kept a.path) ++ g.T.OnWalk.among a) (along_graph l.making.setting a.path)) l.parts
