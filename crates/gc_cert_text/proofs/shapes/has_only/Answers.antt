use Rattle.std.proofs.Common.{map, string_bytes, rules, tests, ◌∙◌}
use Rattle.std.proofs.lemmas.Iterator.Consumers.{YieldsList-from_rest}
use Rattle.std.proofs.lemmas.Iterator.Search.{all_from_yields_List}
use Rattle.gc_json.specs.JsonValues.{is_key_among}
use Rattle.gc_cert_text.proofs.Keys.{has_only-members_view}
use Rattle.gc_cert_text.proofs.shapes.has_only.Goals as goal

pub returns : goal.returns
returns c =
    let keys = map (λ k. k.now) c.args.keys.now in
    all_from_yields_List (λ k. is_key_among keys (string_bytes k)) _ _ c.all.result c.all.ensures.ran (YieldsList-from_rest _ c.keys.ensures.rest)
    (λ x b q k. search (rules, tests))
    ∙ has_only-members_view keys c.args.members.now.entries
