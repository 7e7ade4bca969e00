use Rattle.std.proofs.Common.{◌∙◌, sym, ap, false, map}
use Rattle.std.specs.Option.{option_map}
use Rattle.gc_ast.proofs.ItemTrees.{chain_tree}
use Rattle.gc_expr.specs.Views.{name_of}
use Rattle.gc_ast.specs.QueryViews.{item_tree, change_tree, formula_tree}
use Rattle.gc_ast.specs.Trees.{row, maybe}
use Rattle.gc_sorts.specs.declared.form.Takes.TheVariants as takes
use Rattle.gc_sorts.specs.Breaches.{first_among}
use Rattle.gc_sorts.specs.Constructs.{item_breaches, change_breaches, formula_breaches, when_}
use Rattle.gc_sorts.specs.Graphs.{known}
use Rattle.gc_sorts.specs.Patterns.{each}
use Rattle.gc_sorts.proofs.constructs.item.Goals as goal

pub returns-in-Chain : goal.returns-in-Chain
returns-in-Chain c =
    let m = c.args.making.now.all in
    let when_part = each (formula_breaches (when_ m) false takes.Condition) (maybe (option_map (formula_tree c.args.making.now.names) c.in-Chain.when)) in
    let change_part = each (change_breaches m) (row (map (change_tree c.args.making.now.names) c.in-Chain.all.items)) in
    c.condition.ensures
    ∙ ap (λ f. first_among f when_part) (c.changes-found.ensures ∙ ap (λ f. first_among f change_part) c.parts-found.ensures)
    ∙ sym (ap (λ t. first_among c.args.found (item_breaches (known c.args.graphs.now) m t))
    (ap (item_tree c.args.making.now.names) c.in-Chain.is ∙ chain_tree (name_of c.args.making.now.names) c.in-Chain.chain c.in-Chain.all c.in-Chain.when))
