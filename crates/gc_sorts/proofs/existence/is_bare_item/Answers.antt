use Rattle.std.proofs.Common.{◌∙◌, sym, ap}
use Rattle.gc_ast.proofs.ItemTrees.{chain_tree}
use Rattle.gc_expr.specs.Views.{name_of}
use Rattle.gc_ast.specs.QueryViews.{item_tree}
use Rattle.gc_sorts.specs.SortRules.{is_bare_item}
use Rattle.gc_sorts.proofs.existence.is_bare_item.Goals as goal

pub returns-in-Chain : goal.returns-in-Chain
returns-in-Chain c =
    let names = c.args.checker.now.names in
    c.is_bare_chain.ensures
    ∙ sym (ap is_bare_item (ap (item_tree names) c.in-Chain.is ∙ chain_tree (name_of names) c.in-Chain.parts c.in-Chain.changes c.in-Chain.when))
