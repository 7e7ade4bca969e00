use Rattle.std.proofs.Common.{string_bytes, rules, tests, ◌∙◌}
use Rattle.std.proofs.lemmas.Iterator.Consumers.{YieldsList-from_rest}
use Rattle.std.proofs.lemmas.Iterator.Search.{all_from_yields_List}
use Rattle.gc_base.specs.Words.{is_word}
use Rattle.gc_json.proofs.Keys.{are_names-members_view}
use Rattle.gc_json.proofs.properties.are_names.Goals as goal

pub returns : goal.returns
returns c =
    all_from_yields_List (λ k. is_word (string_bytes k)) _ _ c.all.result c.all.ensures.ran (YieldsList-from_rest _ c.keys.ensures.rest)
    (λ x b q k. search (rules, tests))
    ∙ are_names-members_view c.args.members.now.entries
