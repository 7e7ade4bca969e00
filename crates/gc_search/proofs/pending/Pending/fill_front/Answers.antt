use Rattle.gc_search.specs.Places.{tree_of}
use Rattle.gc_search.specs.Waiting.{links_of}
use Rattle.gc_search.proofs.FrontLaws.{sifted_none, sifted_more}
use Rattle.gc_search.proofs.pending.Pending.fill_front.Goals as goal

pub groups-init : goal.groups-init
groups-init c = record { sifted = sifted_none (tree_of c.args.settled.now) c.args.k (links_of c.args.self.now); queue = c.requires }

pub groups-preserved : goal.groups-preserved
groups-preserved c = record {
  sifted = sifted_more (tree_of c.args.settled.now) c.args.k (links_of c.args.self.now) (links_of c.groups.self) (links_of c.take_group.new.self)
      c.groups.invariant.sifted c.in_ok-take_group.ensures.sifted;
  queue = c.in_ok-take_group.ensures.queue;
}

pub take_group-requires-clause-none : goal.take_group-requires-clause-none
take_group-requires-clause-none c = c.has_none_in_front.ensures.front c.groups-test.true

pub take_group-requires-clause-some : goal.take_group-requires-clause-some
take_group-requires-clause-some c = c.has_none_in_front.ensures.some c.groups-test.true

pub returns : goal.returns
returns c = record {
  sifted = c.groups.invariant.sifted;
  queue = c.groups.invariant.queue;
  some = c.has_none_in_front.ensures.none c.groups-test.false;
}
