use Rattle.std.proofs.Common.{◌≡◌, ◌++◌, ◌∙◌, sym, ap, subst, OnOk}
use Rattle.gc_ast.proofs.ItemTrees.{chain_tree}
use Rattle.gc_expr.specs.Views.{name_of}
use Rattle.gc_ast.specs.QueryViews.{item_tree}
use Rattle.gc_build_reading.specs.Items.{item_chains}
use Rattle.gc_build_reading.specs.Namings.{names_of, scope}
use Rattle.gc_build_reading.proofs.instances.add_chain.Goals as goal

pub returns-in-Chain : goal.returns-in-Chain
returns-in-Chain c =
    let names = names_of c.args.naming.now in
    let chain = c.in-Chain in
    subst (λ added. OnOk c.push_chain.result (c.push_chain.new.chains.items ≡ c.args.chains.now.items ++ added))
    (sym (ap (item_chains (scope c.args.naming.now)) (ap (item_tree names) chain.is ∙ chain_tree (name_of names) chain.parts chain.changes chain.when)))
    c.push_chain.ensures
