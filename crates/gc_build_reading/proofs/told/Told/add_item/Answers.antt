use Rattle.std.proofs.Common.{◌≡◌, ◌∙◌, sym, ap, subst, map, OnOk}
use Rattle.std.specs.Option.{option_map}
use Rattle.gc_ast.proofs.ItemTrees.{chain_tree}
use Rattle.gc_expr.specs.Views.{name_of}
use Rattle.gc_ast.specs.QueryViews.{change_tree, formula_tree, item_tree, part_tree}
use Rattle.gc_ast.specs.Trees.{maybe, row}
use Rattle.gc_build_reading.specs.Namings.{names_of, scope}
use Rattle.gc_build_reading.specs.ToldLists.{with_item}
use Rattle.gc_build_reading.proofs.ToldLaws.{chain_said}
use Rattle.gc_build_reading.proofs.told.Told.add_item.Goals as goal

pub returns-in-Chain : goal.returns-in-Chain
returns-in-Chain c =
    let names = names_of c.args.naming.now in
    let s = scope c.args.naming.now in
    let chain = c.in-Chain in
    subst (λ told. OnOk c.add_chain.result (c.add_chain.new.self ≡ told))
    (chain_said s c.args.self.now (row (map (part_tree names) chain.parts.items)) (row (map (change_tree names) chain.changes.items)) (maybe (option_map (formula_tree names) chain.when))
    ∙ sym (ap (with_item s c.args.self.now) (ap (item_tree names) chain.is ∙ chain_tree (name_of names) chain.parts chain.changes chain.when)))
    c.add_chain.ensures
