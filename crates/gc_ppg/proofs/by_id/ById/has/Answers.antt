use Rattle.std.proofs.Common.{◌∙◌}
use Rattle.std.specs.Option.{option_copied}
use Rattle.gc_ppg.proofs.Collecting.{copied_some, found-has}
use Rattle.gc_ppg.proofs.by_id.ById.has.Goals as goal

pub returns : goal.returns
returns g c =
    c.is_some.ensures ∙ (copied_some c.get.result ∙ found-has g.T.Element.id_of (option_copied c.get.result) c.args.self.now c.args.id c.get.ensures.element)
