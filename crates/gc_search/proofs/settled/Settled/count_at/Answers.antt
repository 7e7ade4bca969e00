use Rattle.std.proofs.Common.{length, ap, ◌∙◌}
use Rattle.gc_search.proofs.PlaceLaws.{places_count}
use Rattle.gc_search.proofs.settled.Settled.count_at.Goals as goal

pub returns-clause-exact : goal.returns-clause-exact
returns-clause-exact c = ap length c.places_at.ensures ∙ places_count 0 c.args.self.now.walks c.args.at.now
