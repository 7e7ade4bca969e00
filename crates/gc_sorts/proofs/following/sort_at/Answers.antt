use Rattle.std.proofs.Common.{◌+◌, drop, sym, ap, ◌∙◌, arith}
use Rattle.std.specs.Option.{option_map}
use Rattle.std.proofs.lemmas.List.{drop_all}
use Rattle.gc_expr.specs.Views.{name_of}
use Rattle.gc_sorts.specs.FileBlocks.{node_by}
use Rattle.gc_sorts.specs.Ways.{part_left, with_part}
use Rattle.gc_sorts.proofs.FollowLaws.{around_none, leads_on, none_so_far, sort_found, sort_here, step_at, step_of}
use Rattle.gc_sorts.proofs.following.sort_at.Goals as goal

pub returns-in-Some : goal.returns-in-Some
returns-in-Some c =
    let inv = c.loop-step.invariant in
    sort_found inv.around (node_by c.args.sought.names.now c.loop-step.at) (step_of c.args.way.now c.loop-step.step-index) _ _ _ _ c.in-Some.sort (step_at c.args.way.now c.loop-step.step-index (omega (arith, c.loop-step-test.true)))
    inv.leads c.requires inv.none c.in-Some.ensures

pub returns-in-None : goal.returns-in-None
returns-in-None c =
    let inv = c.loop-step.invariant in
    absurd (around_none inv.around (node_by c.args.sought.names.now c.loop-step.at) c.args.way.now c.loop-step.step-index (step_of c.args.way.now c.loop-step.step-index) _ (step_at c.args.way.now c.loop-step.step-index (omega (arith, c.loop-step-test.true)))
    (sym (c.next.ensures c.args.sought.names.now) ∙ ap (option_map (node_by c.args.sought.names.now)) c.in-None.is) inv.leads c.requires)

pub loop-step-preserved : goal.loop-step-preserved
loop-step-preserved c =
    let inv = c.loop-step.invariant in
    let node = node_by c.args.sought.names.now c.loop-step.at in
    let s = step_of c.args.way.now c.loop-step.step-index in
    record {
      around = with_part inv.around (part_left node s);
      leads = leads_on inv.around node (node_by c.args.sought.names.now c.in-Some-next.to) s (drop c.loop-step.step-index c.args.way.now) (drop (c.loop-step.step-index + 1) c.args.way.now) _ (step_at c.args.way.now c.loop-step.step-index (omega (arith, c.loop-step-test.true)))
          (sym (c.next.ensures c.args.sought.names.now) ∙ ap (option_map (node_by c.args.sought.names.now)) c.in-Some-next.is) inv.leads;
      none = none_so_far inv.around (part_left node s) (name_of c.args.sought.names.now c.args.sought.name) inv.none c.in_default.ensures;
    }

pub returns : goal.returns
returns c =
    let inv = c.loop-step.invariant in
    c.sort_in.ensures
    ∙ sort_here inv.around (node_by c.args.sought.names.now c.loop-step.at) (drop c.loop-step.step-index c.args.way.now) _ (name_of c.args.sought.names.now c.args.sought.name) (drop_all c.loop-step.step-index c.args.way.now (omega (arith, c.loop-step-test.false)))
    inv.leads c.requires inv.none
