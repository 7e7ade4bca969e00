use Rattle.std.proofs.Common.{◌≡◌, ◌+◌, ◌*◌, ◌≤◌, ◌∙◌, ap, sym, subst, take, length, arith, List, Some, None}
use Rattle.std.specs.List.{AllByRecursion, slice_get}
use Rattle.gc_prod.specs.declared.moves.Pair.{Pair}
use Rattle.gc_prod.specs.Leading.{pair}
use Rattle.gc_reach.specs.Exploring.{targets, AreFound, IsClosed, work}
use Rattle.gc_reach.specs.Marking.{Marking, pair_at, visit_all}
use Rattle.gc_reach.proofs.FoundLaws.{targets_there, found_more, closed_more, work_more, few_taken, few_more}
use Rattle.gc_reach.proofs.VisitLaws.{visit_all_grows, one_more, all_taken}
use Rattle.gc_reach.proofs.exploring.settle.Goals as goal

pub returns-in_err-expand-clause-few : goal.returns-in_err-expand-clause-few
returns-in_err-expand-clause-few g c =
    let inv = c.loop-at.invariant in
    let pairs = c.loop-at.marks.pairs in
    omega (arith, inv.few, c.expand.ensures.few, few_more c.args.p.now (pair_at c.loop-at.marks.nodes c.in-Some.at) pairs c.loop-at.i inv.found.apart (sym c.in-Some.ensures.exact))

pub overflow_add-i : goal.overflow_add-i
overflow_add-i g c =
    omega (arith, c.at.ensures.few, (one_more c.loop-at.marks.pairs c.loop-at.i (pair_at c.loop-at.marks.nodes c.in-Some.at) (sym c.in-Some.ensures.exact)).0)

pub loop-at-smaller : goal.loop-at-smaller
loop-at-smaller g c =
    let grown = c.in_ok-expand.ensures.marks in
    omega (
      arith,
      c.at.ensures.within,
      (one_more c.loop-at.marks.pairs c.loop-at.i (pair_at c.loop-at.marks.nodes c.in-Some.at) (sym c.in-Some.ensures.exact)).0,
      ap (λ (m : Marking). length m.nodes * m.width) grown,
    )

pub loop-at-preserved : goal.loop-at-preserved
loop-at-preserved g c =
    let setting = c.args.p.now in
    let inv = c.loop-at.invariant in
    let nodes = c.loop-at.marks.nodes in
    let pairs = c.loop-at.marks.pairs in
    let i = c.loop-at.i in
    let at = pair_at nodes c.in-Some.at in
    let from = pair c.args.source 0 in
    let here : slice_get pairs i ≡ Some at = sym c.in-Some.ensures.exact in
    let grown = c.in_ok-expand.ensures.marks in
    let after = visit_all pairs (targets setting at) in
    let counted : c.expand.new.steps ≤ c.args.steps.now + work setting (take (i + 1) after) =
    omega (arith, inv.few, c.expand.ensures.few, work_more setting pairs after i at (visit_all_grows pairs (targets setting at)) here) in
    record {
      nodes = ap (λ (m : Marking). m.nodes) grown ∙ inv.nodes;
      width = ap (λ (m : Marking). m.width) grown ∙ inv.width;
      found = subst (λ (m : Marking). AreFound (targets setting) m.nodes from m.pairs) (sym grown)
          (found_more (targets setting) nodes from at pairs i (targets_there setting nodes at c.requires.network (inv.nodes ∙ c.requires.nodes)) here inv.found);
      closed = subst (λ (m : Marking). AllByRecursion (IsClosed (targets setting) m.pairs) (take (i + 1) m.pairs)) (sym grown) (closed_more (targets setting) pairs i at here inv.closed);
      few = subst (λ (m : Marking). c.expand.new.steps ≤ c.args.steps.now + work setting (take (i + 1) m.pairs)) (sym grown) counted;
    }

pub returns-clause-all : goal.returns-clause-all
returns-clause-all g c =
    let pairs = c.loop-at.marks.pairs in
    let past : slice_get pairs c.loop-at.i ≡ None = sym c.in_default.ensures.exact in
    record {
      found = c.loop-at.invariant.found;
      closed = subst (λ (l : List Pair). AllByRecursion (IsClosed (targets c.args.p.now) pairs) l) (all_taken pairs c.loop-at.i past) c.loop-at.invariant.closed;
    }

pub returns-clause-few : goal.returns-clause-few
returns-clause-few g c =
    omega (arith, c.loop-at.invariant.few, few_taken c.args.p.now c.loop-at.marks.pairs c.loop-at.i c.loop-at.invariant.found.apart)
