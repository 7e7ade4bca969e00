use Rattle.std.proofs.Common.{◌++◌, ap, sym, ◌∙◌, append-nil}
use Rattle.gc_sets.specs.Intersections.{in_common, shared_with}
use Rattle.gc_sets.proofs.IntersectionLaws.{in_common-by_element}
use Rattle.gc_sets.proofs.Finds.{found}
use Rattle.gc_sets.proofs.Turns.{turn}
use Rattle.gc_sets.proofs.lists.in_common.Goals as goal

pub loop-i-preserved : goal.loop-i-preserved
loop-i-preserved g c =
    let key = g.T.Part.id_of in
    let xs = g.T.Part.all c.args.a.now in
    let ys = g.T.Part.all c.args.b.now in
    let x = c.at.result.now in
    let alone = sym (append-nil (shared_with g.T.Part.common x (found key ys (key x)))) in
    turn (λ zs. in_common g.T.Part.common key zs ys) (in_common-by_element key g.T.Part.common ys) xs c.loop-i.i x c.loop-i.kept.items c.push_common.new.kept.items (in_common g.T.Part.common key xs ys) c.at.ensures
    (c.in_ok-push_common.ensures ∙ ap (λ zs. c.loop-i.kept.items ++ zs) alone) c.loop-i.invariant
