use Rattle.std.proofs.Common.{◌∙◌, sym, ap}
use Rattle.gc_ast.specs.QueryViews.{optional_tree}
use Rattle.gc_sorts.specs.Breaches.{first_among}
use Rattle.gc_sorts.specs.Sizes.{broken_at_if}
use Rattle.gc_sorts.proofs.OptionalTokens.{token_at}
use Rattle.gc_sorts.proofs.basics.too_many_optionals.Goals as goal

pub returns-in-None : goal.returns-in-None
returns-in-None c names =
    sym (ap (λ o. first_among c.args.found (broken_at_if o))
    (sym (token_at (optional_tree names) c.args.optionals.now.items 100) ∙ sym (c.optional_at.ensures names) ∙ c.in-None.is))

pub returns-in-Some : goal.returns-in-Some
returns-in-Some c names =
    c.noted.ensures
    ∙ sym (ap (λ o. first_among c.args.found (broken_at_if o))
    (sym (token_at (optional_tree names) c.args.optionals.now.items 100) ∙ sym (c.optional_at.ensures names) ∙ c.in-Some.is))
