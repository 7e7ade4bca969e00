use Rattle.std.proofs.Common.{◌∙◌}
use Rattle.gc_base.proofs.SetLaws.{is_ok-search}
use Rattle.gc_base.proofs.ascending.Ascending.contains.Goals as goal

pub returns : goal.returns
returns g c = c.is_ok.ensures.value ∙ is_ok-search (λ y. g.T.Ord.cmp y c.args.item.now) c.args.self.now c.search.result c.search.ensures
