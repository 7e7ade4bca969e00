use Rattle.std.proofs.Common.{arith}
use Rattle.std.proofs.lemmas.Result.{IfOk-weaker}
use Rattle.gc_ppg.proofs.EndPlaces.{ends_kept}
use Rattle.gc_ppg.proofs.index.by_target.Goals as goal
use Rattle.gc_ppg.specs.NodeSides.{far_of}
use Rattle.gc_ppg.specs.declared.node_edges.Side.TheVariants.{Coming}

pub returns : goal.returns
returns c =
    IfOk-weaker c.of.result _ _ (λ places same. ends_kept (λ e. e.to) (far_of Coming) c.args.edges.now c.loop-place.places.items places c.loop-place.place (omega arith) c.loop-place.invariant same) c.of.ensures
