use Rattle.std.proofs.Common.{◌≡◌, ◌++◌, ◌∙◌, sym, ap, subst, OnOk}
use Rattle.gc_ast.proofs.ItemTrees.{stored_tree}
use Rattle.gc_expr.specs.Views.{name_of}
use Rattle.gc_ast.specs.QueryViews.{part_tree}
use Rattle.gc_build_reading.specs.Namings.{names_of, scope}
use Rattle.gc_build_reading.specs.Places.{part_places}
use Rattle.gc_build_reading.proofs.placing.add_part.Goals as goal

pub returns-in-Stored : goal.returns-in-Stored
returns-in-Stored c =
    let names = names_of c.args.naming.now in
    let path = c.in-Stored in
    subst (λ added. OnOk c.add_path.result (c.add_path.new.places.items ≡ c.args.places.now.items ++ added))
    (sym (ap (part_places (scope c.args.naming.now) c.args.beside.left c.args.beside.right) (ap (part_tree names) path.is ∙ stored_tree (name_of names) path.token path.name path.labels path.assigns)))
    c.add_path.ensures
