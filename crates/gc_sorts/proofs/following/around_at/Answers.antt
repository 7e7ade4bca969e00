use Rattle.std.proofs.Common.{map, sym, ap, ◌∙◌, arith}
use Rattle.std.specs.Option.{option_map}
use Rattle.gc_sorts.specs.FileBlocks.{around_by, node_by}
use Rattle.gc_sorts.proofs.FollowLaws.{around_none, step_at, step_of}
use Rattle.gc_sorts.proofs.following.around_at.Goals as goal

pub returns-in-None : goal.returns-in-None
returns-in-None c = λ names there.
    absurd (around_none (map (around_by names) c.loop-step.parts.items) (node_by names c.loop-step.at) c.args.way.now c.loop-step.step-index (step_of c.args.way.now c.loop-step.step-index) _ (step_at c.args.way.now c.loop-step.step-index (omega (arith, c.loop-step-test.true)))
    (sym (c.next.ensures names) ∙ ap (option_map (node_by names)) c.in-None.is) (c.loop-step.invariant names) there)
