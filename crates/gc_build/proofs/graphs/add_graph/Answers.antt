use Rattle.std.proofs.Common.{◌++◌, refl}
use Rattle.gc_sets.proofs.Turns.{turn}
use Rattle.gc_build.proofs.graphs.add_graph.Goals as goal

pub loop-i-preserved : goal.loop-i-preserved
loop-i-preserved g c =
    let xs = g.T.Part.all c.args.graph.now in
    turn (λ zs. zs) (λ z zs. refl) xs c.loop-i.i c.at.result.now c.loop-i.claimed.items c.add_copy.new.claimed.items (c.args.claimed.now.items ++ xs) c.at.ensures c.in_ok-add_copy.ensures c.loop-i.invariant
