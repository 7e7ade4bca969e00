use Rattle.std.proofs.Common.{◌≡◌, ◌∙◌, sym, ap, subst}
use Rattle.std.specs.Prelude.{OnOk}
use Rattle.gc_ast.proofs.ItemTrees.{chain_tree}
use Rattle.gc_expr.specs.Views.{name_of}
use Rattle.gc_ast.specs.QueryViews.{item_tree}
use Rattle.gc_sorts.specs.Collected.{collect}
use Rattle.gc_sorts.specs.Occurrences.{in_item}
use Rattle.gc_sorts.proofs.occurring.item.Goals as goal

pub returns-in-Chain : goal.returns-in-Chain
returns-in-Chain c =
    let names = c.args.sight.now.names in
    subst (λ t. OnOk c.parts.result (c.parts.new.found ≡ collect c.args.found.now (in_item c.args.sight.now.at t)))
    (sym (ap (item_tree names) c.in-Chain.is ∙ chain_tree (name_of names) c.in-Chain.chain c.in-Chain.changes c.in-Chain.when))
    (c.parts.ensures names)
