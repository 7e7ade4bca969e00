use Rattle.std.proofs.Common.{◌-◌}
use Rattle.gc_base.specs.Walks.{end_of}
use Rattle.gc_prod.specs.Leading.{pair}
use Rattle.gc_check.proofs.Following.{left_goes, left_on, left_back, left_moves}
use Rattle.gc_check.proofs.Tested.{read_at}
use Rattle.gc_check.proofs.replaying.follows.Goals as goal

pub returns-in_default : goal.returns-in_default
returns-in_default g c = λ h.
    let l = c.loop-wanted in
    let at = read_at c.args.run.now l.wanted-index c.wanted-item.result c.loop-wanted-test.true c.wanted-item.is in
    let went = left_goes c.args.p.now (pair l.node l.state) (pair (end_of c.args.walk.now) (c.args.p.now.machine.states - 1))
    c.args.run.now l.wanted-index c.wanted-item.result at
    l.left.now (l.invariant.back h) in
    c.in_default.ensures went.0 went.1 went.2

pub returns-then-not-has_move : goal.returns-then-not-has_move
returns-then-not-has_move g c = λ h.
    let l = c.loop-wanted in
    let at = read_at c.args.run.now l.wanted-index c.wanted-item.result c.loop-wanted-test.true c.wanted-item.is in
    left_moves c.args.p.now (pair l.node l.state) (pair (end_of c.args.walk.now) (c.args.p.now.machine.states - 1))
    c.args.run.now l.wanted-index c.wanted-item.result at
    l.left.now c.in-Some.next.node c.in-Some.next.left.now c.in-Some.ensures c.if-not-has_move.ensures (l.invariant.back h)

pub loop-wanted-preserved : goal.loop-wanted-preserved
loop-wanted-preserved g c =
    let l = c.loop-wanted in
    let at = read_at c.args.run.now l.wanted-index c.wanted-item.result c.loop-wanted-test.true c.wanted-item.is in
    record {
      on = λ h. l.invariant.on
          (left_on c.args.p.now (pair l.node l.state) (pair (end_of c.args.walk.now) (c.args.p.now.machine.states - 1))
          c.args.run.now l.wanted-index c.wanted-item.result at
          l.left.now c.in-Some.next.node c.in-Some.next.left.now c.in-Some.ensures c.if-not-has_move.ensures h);
      back = λ h.
          left_back c.args.p.now (pair l.node l.state) (pair (end_of c.args.walk.now) (c.args.p.now.machine.states - 1))
          c.args.run.now l.wanted-index c.wanted-item.result at
          l.left.now c.in-Some.next.node c.in-Some.next.left.now c.in-Some.ensures (l.invariant.back h);
    }
