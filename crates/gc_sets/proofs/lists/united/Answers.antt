use Rattle.std.proofs.Common.{◌++◌, ◌∷◌, [], ap, ◌∙◌, refl}
use Rattle.gc_sets.specs.Unions.{united}
use Rattle.gc_sets.proofs.Turns.{turn}
use Rattle.gc_sets.proofs.lists.united.Goals as goal

pub loop-i-preserved : goal.loop-i-preserved
loop-i-preserved g c =
    let xs = g.T.Part.all c.args.a.now in
    let ys = g.T.Part.all c.args.b.now in
    turn (λ zs. united g.T.Part.united g.T.Part.id_of zs ys) (λ z zs. refl) xs c.loop-i.i c.at.result.now c.loop-i.all.items c.push.new.self.items (united g.T.Part.united g.T.Part.id_of xs ys) c.at.ensures
    (c.in_ok-push.ensures.items ∙ ap (λ z. c.loop-i.all.items ++ z ∷ []) c.in_ok-beside.ensures) c.loop-i.invariant
