use Rattle.std.proofs.Common.{◌≡◌, ◌∙◌, ap, map}
use Rattle.gc_ast.specs.QueryViews.{item_tree}
use Rattle.gc_ast.specs.Trees.{row}
use Rattle.gc_sorts.specs.Breaches.{first_among}
use Rattle.gc_sorts.specs.Constructs.{making, nothing_made, with_items, item_breaches}
use Rattle.gc_sorts.specs.Graphs.{known}
use Rattle.gc_sorts.specs.Holders.{HeldLinks}
use Rattle.gc_sorts.specs.Links.{link_by, loose_item}
use Rattle.gc_sorts.specs.Patterns.{each}
use Rattle.gc_sorts.specs.SortRules.{made_by}
use Rattle.gc_sorts.proofs.basics.construct.Goals as goal

pub returns-clause-found : goal.returns-clause-found
returns-clause-found c =
    let v = c.args.variables.now in
    let all = row (map (item_tree v.names) c.args.all.now.items) in
    let links = map (link_by v.names) c.args.links.now in
    let made : c.add_items.new.self.all ≡ made_by all =
    c.in_ok-add_items.ensures.ok
    ∙ ap (λ m. with_items m (row (map (item_tree c.args.makes.now.names) c.args.all.now.items))) c.requires.nothing
    ∙ ap (λ n. with_items nothing_made (row (map (item_tree n) c.args.all.now.items))) c.requires.makes in
    c.loose_items.ensures
    ∙ ap (λ (held : HeldLinks). first_among c.items-found.result (each (loose_item held.uses held.links) (row (map (item_tree held.names) c.args.all.now.items)))) c.in_ok-links.ensures
    ∙ ap (λ f. first_among f (each (loose_item v.uses links) all))
    (c.items-found.ensures ∙ ap (λ m. first_among c.args.found (each (item_breaches (known c.args.graphs.now) (making v.uses m)) all)) made)
