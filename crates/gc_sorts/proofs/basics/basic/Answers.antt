use Rattle.std.proofs.Common.{◌≡◌, ◌∙◌, ap, subst, map, IfOk}
use Rattle.gc_ast.specs.QueryViews.{block_tree, optional_tree, item_tree}
use Rattle.gc_ast.specs.Trees.{row}
use Rattle.gc_sorts.specs.Breaches.{first_among}
use Rattle.gc_sorts.specs.Graphs.{known}
use Rattle.gc_sorts.specs.Links.{link_by}
use Rattle.gc_sorts.specs.SortRules.{match_links, items_breaches, construct_breaches}
use Rattle.gc_sorts.proofs.basics.basic.Goals as goal

pub returns-clause-found : goal.returns-clause-found
returns-clause-found c =
    let names = c.args.variables.now.names in
    let seen = c.args.variables.now.uses in
    let main = block_tree names c.args.main.now in
    let optionals = row (map (optional_tree names) c.args.optionals.now.items) in
    let graphs = known c.args.graphs.now in
    let v = c.add_match.new.variables in
    let links = c.add_match.new.links.items in
    subst (λ t. IfOk c.construct.result (λ first. first ≡ t))
    (ap (λ n. first_among c.in_ok-found.found (items_breaches graphs v.uses (map (link_by n) c.deref.result.now) (row (map (item_tree n) c.args.all.now.items)))) c.add_match.ensures.names
    ∙ ap (λ l. first_among c.in_ok-found.found (items_breaches graphs v.uses l (row (map (item_tree names) c.args.all.now.items)))) (ap (map (link_by names)) c.deref.ensures.value ∙ c.in_ok-found.ensures.links)
    ∙ ap (λ u. first_among c.in_ok-found.found (items_breaches graphs u (match_links seen main optionals) (row (map (item_tree names) c.args.all.now.items)))) c.in_ok-found.ensures.uses
    ∙ ap (λ f. first_among f (construct_breaches graphs seen (row (map (item_tree names) c.args.all.now.items)) main optionals)) c.in_ok-found.ensures.found)
    c.construct.ensures.found
