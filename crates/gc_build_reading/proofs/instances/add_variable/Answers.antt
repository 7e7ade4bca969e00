use Rattle.std.proofs.Common.{◌≡◌, ◌++◌, ◌∙◌, sym, ap, subst, OnOk}
use Rattle.gc_ast.proofs.ItemTrees.{stored_tree}
use Rattle.gc_expr.specs.Views.{name_of}
use Rattle.gc_ast.specs.QueryViews.{part_tree}
use Rattle.gc_build_reading.specs.Items.{part_variables}
use Rattle.gc_build_reading.specs.Namings.{names_of, scope}
use Rattle.gc_build_reading.proofs.instances.add_variable.Goals as goal

pub returns-in-Stored : goal.returns-in-Stored
returns-in-Stored c =
    let names = names_of c.args.naming.now in
    let path = c.in-Stored in
    subst (λ added. OnOk c.add_named.result (c.add_named.new.vars ≡ c.args.vars.now ++ added))
    (sym (ap (part_variables (scope c.args.naming.now)) (ap (part_tree names) path.is ∙ stored_tree (name_of names) path.token path.name path.labels path.assigns)))
    c.add_named.ensures
