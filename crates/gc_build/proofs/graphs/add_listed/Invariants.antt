use Rattle.std.proofs.Common.{◌≡◌, ◌++◌, drop}
use Rattle.std.specs.List.{filter}
use Rattle.gc_spec.specs.PropertyGraph.{is_among}
use Rattle.gc_build.proofs.graphs.add_listed.Given as goal

-- those so far, before those of the rest
abbrev pub invariant-loop-i : goal.invariant-loop-i
invariant-loop-i g l =
    l.claimed.items ++ filter (λ x. is_among l.ids (g.T.Part.id_of x)) (drop l.i (g.T.Part.all l.graph))
    ≡ l.initial.claimed.items ++ filter (λ x. is_among l.ids (g.T.Part.id_of x)) (g.T.Part.all l.graph)
