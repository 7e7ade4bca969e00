use Rattle.std.proofs.Common.{◌≡◌, ap, ◌∙◌, rules}
use Rattle.serde_json.specs.View.{members_view}
use Rattle.gc_json.proofs.GatheredProperties.{properties_with, properties_gathered}
use Rattle.gc_json.proofs.properties.properties_in.Goals as goal

pub loop-key-init : goal.loop-key-init
loop-key-init c =
    let same : c.into_iter-key-iterator.result ≡ c.args.members.now.entries = search rules in
    ap (λ es. properties_with c.empty-properties.result (members_view es)) same ∙ properties_gathered c.empty-properties.result c.args.members.now.entries c.empty-properties.ensures c.iter-key-items.ensures.ordered
