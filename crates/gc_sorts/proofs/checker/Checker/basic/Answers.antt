use Rattle.std.proofs.Common.{◌≡◌, subst, map}
use Rattle.gc_ast.specs.QueryViews.{block_tree, optional_tree, item_tree}
use Rattle.gc_ast.specs.Trees.{row}
use Rattle.gc_sorts.specs.Breaches.{both, first_among}
use Rattle.gc_sorts.specs.SortRules.{graphs_in, match_breaches, construct_breaches}
use Rattle.gc_sorts.proofs.checker.Checker.basic.Goals as goal

pub returns-in-Ok-clause-found : goal.returns-in-Ok-clause-found
returns-in-Ok-clause-found c =
    subst
    (λ v. c.in-Ok.first ≡ first_among c.args.found
    (both (match_breaches v.at.uses (block_tree v.names c.args.main.now) (row (map (optional_tree v.names) c.args.optionals.now.items)))
    (construct_breaches (graphs_in v.at) v.at.uses (row (map (item_tree v.names) c.args.items.now.items)) (block_tree v.names c.args.main.now) (row (map (optional_tree v.names) c.args.optionals.now.items)))))
    c.self.view_is c.in-Ok.ensures.found
