use Rattle.std.proofs.Common.{◌∙◌, rules}
use Rattle.std.proofs.lemmas.Fn.{always_returns_same}
use Rattle.gc_base.specs.LiteralLaws.{literal_order_total}
use Rattle.gc_base.specs.Literals.{literal_order}
use Rattle.gc_base.proofs.Search.{searched}
use Rattle.gc_base.proofs.SetLaws.{is_ok-search}
use Rattle.gc_values.specs.References.{literal_seen}
use Rattle.gc_values.proofs.literals.is_among.Goals as goal

pub returns : goal.returns
returns c =
    let literal = literal_seen c.args.literal.now in
    let values = c.args.values.now in
    let found = c.binary_search_by.ensures in
    c.is_ok.ensures.value
    ∙ is_ok-search (λ x. literal_order x literal) values c.binary_search_by.result
    (searched (λ x. x) literal_order literal_order_total values literal c.binary_search_by.result c.requires found.bound
    (found.position (λ x. literal_order x literal) (always_returns_same _ _ _ (λ a r f called. search rules))))
