use Rattle.std.proofs.Common.{rules, ◌≡◌, ◌∙◌}
use Rattle.gc_ppg.proofs.Collecting.{sorted_values}
use Rattle.gc_ppg.proofs.by_id.sorted.Goals as goal

pub returns : goal.returns
returns g c =
    let sorted =
    sorted_values g.T.Element.id_of c.args.collected.entries c.sort_unstable_keys.new.self.entries c.requires c.sort_unstable_keys.ensures.reordered.0
    c.in_ok-sort_unstable_keys.ensures.sorted c.sort_unstable_keys.ensures.unique c.sort_unstable_keys.ensures.reordered.2 in
    let all : c.loop-element.all.items ≡ c.into_values-element-items.result = search rules in
    all ∙ (c.into_values-element-items.ensures.rest ∙ sorted)
