use Rattle.std.proofs.Common.{[], drop, Some, sym, ap, ◌∙◌, arith}
use Rattle.std.specs.Option.{option_map}
use Rattle.std.proofs.lemmas.List.{drop_all}
use Rattle.gc_sorts.specs.Blocks.{block_in}
use Rattle.gc_sorts.specs.FileBlocks.{node_by}
use Rattle.gc_sorts.specs.Ways.{arrived}
use Rattle.gc_sorts.proofs.FollowLaws.{block_here, block_none, block_on, step_at, step_of}
use Rattle.gc_sorts.proofs.following.block_at.Goals as goal

pub returns-in-None : goal.returns-in-None
returns-in-None c = λ names.
    block_none (node_by names c.loop-step.at) c.args.way.now c.loop-step.step-index (step_of c.args.way.now c.loop-step.step-index) _ (step_at c.args.way.now c.loop-step.step-index (omega (arith, c.loop-step-test.true)))
    (sym (c.next.ensures names) ∙ ap (option_map (node_by names)) c.in-None.is) (c.loop-step.invariant names)

pub loop-step-preserved : goal.loop-step-preserved
loop-step-preserved c = λ names.
    block_on (node_by names c.loop-step.at) (node_by names c.in-Some.to) c.args.way.now c.loop-step.step-index (step_of c.args.way.now c.loop-step.step-index) _ (step_at c.args.way.now c.loop-step.step-index (omega (arith, c.loop-step-test.true)))
    (sym (c.next.ensures names) ∙ ap (option_map (node_by names)) c.in-Some.is) (c.loop-step.invariant names)

pub returns-in-Block : goal.returns-in-Block
returns-in-Block c = λ names.
    ap (λ at. block_in (arrived [] (Some (node_by names at)))) (sym c.in-Block.is)
    ∙ block_here (node_by names c.loop-step.at) (drop c.loop-step.step-index c.args.way.now) _ (drop_all c.loop-step.step-index c.args.way.now (omega (arith, c.loop-step-test.false))) (c.loop-step.invariant names)

pub returns-in-Statements : goal.returns-in-Statements
returns-in-Statements c = λ names.
    ap (λ at. block_in (arrived [] (Some (node_by names at)))) (sym c.in-Statements.is)
    ∙ block_here (node_by names c.loop-step.at) (drop c.loop-step.step-index c.args.way.now) _ (drop_all c.loop-step.step-index c.args.way.now (omega (arith, c.loop-step-test.false))) (c.loop-step.invariant names)

pub returns-in-Query : goal.returns-in-Query
returns-in-Query c = λ names.
    ap (λ at. block_in (arrived [] (Some (node_by names at)))) (sym c.in-Query.is)
    ∙ block_here (node_by names c.loop-step.at) (drop c.loop-step.step-index c.args.way.now) _ (drop_all c.loop-step.step-index c.args.way.now (omega (arith, c.loop-step-test.false))) (c.loop-step.invariant names)
