use Rattle.std.proofs.Common.{◌∙◌, sym, ap}
use Rattle.gc_ast.proofs.ItemTrees.{stored_tree}
use Rattle.gc_expr.specs.Views.{name_of}
use Rattle.gc_ast.specs.QueryViews.{part_tree}
use Rattle.gc_sorts.specs.Breaches.{first_among}
use Rattle.gc_sorts.specs.Constructs.{part_breaches}
use Rattle.gc_sorts.proofs.constructs.part.Goals as goal

pub returns-in-Stored : goal.returns-in-Stored
returns-in-Stored c =
    let m = c.args.making.now.all in
    c.stored.ensures
    ∙ sym (ap (λ t. first_among c.args.found (part_breaches m t))
    (ap (part_tree c.args.making.now.names) c.in-Stored.is ∙ stored_tree (name_of c.args.making.now.names) c.in-Stored.token c.in-Stored.name c.in-Stored.labels c.in-Stored.given))
