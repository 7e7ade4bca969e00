use Rattle.std.proofs.Common.{◌-◌, drop}
use Rattle.gc_base.specs.Walks.{end_of}
use Rattle.gc_cert.specs.Runs.{Follows}
use Rattle.gc_prod.specs.Leading.{pair}
use Rattle.gc_check.proofs.replaying.follows.Given as goal

abbrev pub invariant-loop-wanted : goal.invariant-loop-wanted
invariant-loop-wanted g l = record {
  on : Follows l.p (pair l.node l.state) (drop l.wanted-index l.run) (pair (end_of l.walk) (l.p.machine.states - 1)) l.left
      → Follows l.p (pair l.walk.start 0) l.run (pair (end_of l.walk) (l.p.machine.states - 1)) l.walk.steps;
  back : Follows l.p (pair l.walk.start 0) l.run (pair (end_of l.walk) (l.p.machine.states - 1)) l.walk.steps
      → Follows l.p (pair l.node l.state) (drop l.wanted-index l.run) (pair (end_of l.walk) (l.p.machine.states - 1)) l.left;
}
