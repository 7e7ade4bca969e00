use Rattle.std.proofs.Common.{◌≡◌, ℕ, ◌+◌, ◌*◌, ◌<◌, ◌∙◌, ap, sym, subst, take, map, length, List, Some, None, true, arith}
use Rattle.std.specs.List.{AllByRecursion, slice_get}
use Rattle.gc_spec.specs.PropertyGraph.{is_among}
use Rattle.gc_prod.specs.Groups.{row_of}
use Rattle.gc_prod.specs.declared.moves.Pair.{Pair}
use Rattle.gc_prod.specs.Leading.{pair}
use Rattle.gc_reach.specs.declared.turning.Turn.{Turn}
use Rattle.gc_reach.specs.Exploring.{AreFound, IsClosed}
use Rattle.gc_reach.specs.Marking.{Marking, pair_at, visit_all}
use Rattle.gc_reach.specs.Turning.{before}
use Rattle.gc_reach.proofs.FoundLaws.{found_more, closed_more}
use Rattle.gc_reach.proofs.TurnLaws.{back_there}
use Rattle.gc_reach.proofs.VisitLaws.{all_taken, one_more}
use Rattle.gc_reach.proofs.turning.settle_back.Goals as goal

pub go_back-requires-clause-nodes : goal.go_back-requires-clause-nodes
go_back-requires-clause-nodes c =
    let same : c.loop-at.marks.nodes ≡ c.args.marks.now.nodes = c.loop-at.invariant.nodes ∙ ap (λ (m : Marking). m.nodes) c.in_ok-mark.ensures in
    subst (λ (l : List Turn). AllByRecursion (λ t. is_among c.loop-at.marks.nodes t.from.node ≡ true) l) (sym c.at-in-Some.ensures)
    (subst (λ (ids : List ℕ). AllByRecursion (λ (t : Turn). is_among ids t.from.node ≡ true) (row_of c.args.kept.now c.number_at-number.result)) (sym same)
    (c.requires.nodes c.number_at-number.result))

pub go_back-requires-clause-states : goal.go_back-requires-clause-states
go_back-requires-clause-states c =
    let same : c.loop-at.marks.width ≡ c.args.marks.now.width = c.loop-at.invariant.width ∙ ap (λ (m : Marking). m.width) c.in_ok-mark.ensures in
    subst (λ (l : List Turn). AllByRecursion (λ t. t.from.state < c.loop-at.marks.width) l) (sym c.at-in-Some.ensures)
    (subst (λ n. AllByRecursion (λ (t : Turn). t.from.state < n) (row_of c.args.kept.now c.number_at-number.result)) (sym same) (c.requires.states c.number_at-number.result))

pub overflow_add-i : goal.overflow_add-i
overflow_add-i c =
    let pairs = c.loop-at.marks.pairs in
    omega (arith, c.at.ensures.few, (one_more pairs c.loop-at.i (pair_at c.loop-at.marks.nodes c.in-Some.at) (sym c.in-Some.ensures.exact)).0)

pub loop-at-smaller : goal.loop-at-smaller
loop-at-smaller c =
    let pairs = c.loop-at.marks.pairs in
    omega (
      arith,
      c.at.ensures.within,
      (one_more pairs c.loop-at.i (pair_at c.loop-at.marks.nodes c.in-Some.at) (sym c.in-Some.ensures.exact)).0,
      ap (λ (m : Marking). length m.nodes * m.width) c.in_ok-go_back.ensures,
    )

pub loop-at-preserved : goal.loop-at-preserved
loop-at-preserved c =
    let inv = c.loop-at.invariant in
    let nodes = c.loop-at.marks.nodes in
    let width = c.loop-at.marks.width in
    let pairs = c.loop-at.marks.pairs in
    let i = c.loop-at.i in
    let at = pair_at nodes c.in-Some.at in
    let kept = c.args.kept.now in
    let behind = before nodes width kept in
    let from = pair c.args.node c.args.state in
    let here : slice_get pairs i ≡ Some at = sym c.in-Some.ensures.exact in
    let same : nodes ≡ c.args.marks.now.nodes = inv.nodes ∙ ap (λ (m : Marking). m.nodes) c.in_ok-mark.ensures in
    let led : map (λ t. t.from) c.at-in-Some.result.now ≡ behind at =
    ap (map (λ (t : Turn). t.from)) (c.at-in-Some.ensures ∙ ap (row_of kept) c.number_at-number.ensures) in
    let after : Marking = record { nodes = nodes; width = width; pairs = visit_all pairs (behind at) } in
    let grown : c.go_back.new.marks ≡ after =
    c.in_ok-go_back.ensures ∙ ap (λ (l : List Pair). let m : Marking = record { nodes = nodes; width = width; pairs = visit_all pairs l } in m) led in
    record {
      nodes = ap (λ (m : Marking). m.nodes) grown ∙ inv.nodes;
      width = ap (λ (m : Marking). m.width) grown ∙ inv.width;
      found = subst (λ (m : Marking). AreFound (before m.nodes m.width kept) m.nodes from m.pairs) (sym grown)
          (found_more behind nodes from at pairs i (back_there nodes c.args.marks.now.nodes width kept at same c.requires.nodes) here inv.found);
      closed = subst (λ (m : Marking). AllByRecursion (IsClosed (before m.nodes m.width kept) m.pairs) (take (i + 1) m.pairs)) (sym grown)
          (closed_more behind pairs i at here inv.closed);
    }

pub returns-clause-all : goal.returns-clause-all
returns-clause-all c =
    let marks = c.loop-at.marks in
    let past : slice_get marks.pairs c.loop-at.i ≡ None = sym c.in_default.ensures.exact in
    record {
      found = c.loop-at.invariant.found;
      closed = subst (λ (l : List Pair). AllByRecursion (IsClosed (before marks.nodes marks.width c.args.kept.now) marks.pairs) l) (all_taken marks.pairs c.loop-at.i past)
          c.loop-at.invariant.closed;
    }
