use Rattle.std.proofs.Common.{◌++◌}
use Rattle.gc_sets.specs.Elements.{others}
use Rattle.gc_sets.proofs.Turns.{turn, others-by_element}
use Rattle.gc_sets.proofs.lists.push_others.Goals as goal

pub loop-i-preserved : goal.loop-i-preserved
loop-i-preserved g c =
    let xs = g.T.Part.all c.args.a.now in
    let ys = g.T.Part.all c.args.b.now in
    turn (λ zs. others g.T.Part.id_of zs ys) (others-by_element g.T.Part.id_of ys) xs c.loop-i.i c.at.result.now c.loop-i.kept.items c.push_other.new.kept.items (c.args.kept.now.items ++ others g.T.Part.id_of xs ys) c.at.ensures
    c.in_ok-push_other.ensures c.loop-i.invariant
