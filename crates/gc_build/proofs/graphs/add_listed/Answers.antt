use Rattle.std.proofs.Common.{◌++◌}
use Rattle.std.specs.List.{filter}
use Rattle.gc_spec.specs.PropertyGraph.{is_among}
use Rattle.gc_sets.proofs.Turns.{turn}
use Rattle.gc_build.proofs.Filters.{filter_by_element}
use Rattle.gc_build.proofs.graphs.add_listed.Goals as goal

pub loop-i-preserved : goal.loop-i-preserved
loop-i-preserved g c =
    let xs = g.T.Part.all c.args.graph.now in
    turn (filter (λ x. is_among c.args.ids.now (g.T.Part.id_of x))) (filter_by_element (λ x. is_among c.args.ids.now (g.T.Part.id_of x))) xs c.loop-i.i c.at.result.now c.loop-i.claimed.items c.add_if_listed.new.claimed.items (c.args.claimed.now.items ++ filter (λ x. is_among c.args.ids.now (g.T.Part.id_of x)) xs) c.at.ensures
    c.in_ok-add_if_listed.ensures c.loop-i.invariant
