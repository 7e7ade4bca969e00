use Rattle.std.proofs.Common.{◌∙◌, ap, map, not}
use Rattle.gc_ast.specs.PatternViews.{pattern_tree}
use Rattle.gc_ast.specs.Trees.{rows}
use Rattle.gc_sorts.specs.declared.breach.SortRule.TheVariants.{ViewNeedsEdge}
use Rattle.gc_sorts.specs.Breaches.{first_among, broken_if}
use Rattle.gc_sorts.specs.Patterns.{pattern_breaches, each}
use Rattle.gc_sorts.specs.Sizes.{too_many, pattern_tokens}
use Rattle.gc_sorts.specs.Uses.{all_of}
use Rattle.gc_sorts.proofs.patterns.view_chains.Goals as goal

pub returns : goal.returns
returns c =
    let names = c.args.views.now.names in
    let chains = rows (map (λ chain. map (pattern_tree names) chain.parts) c.args.chains.now) in
    c.too_many.ensures
    ∙ ap (λ t. first_among c.all_chains-found.result (too_many t)) (c.deref.ensures.value ∙ c.in_ok-tokens.ensures names)
    ∙ ap (λ f. first_among f (too_many (all_of (all_of pattern_tokens) chains)))
    (c.all_chains-found.ensures
    ∙ ap (λ f. first_among f (each (each (pattern_breaches c.args.views.now.order)) chains))
    (c.noted_if-found.ensures ∙ ap (λ b. first_among c.args.found (broken_if (not b) ViewNeedsEdge c.args.name.token)) (c.begins_with_edge-has_edge.ensures names)))
