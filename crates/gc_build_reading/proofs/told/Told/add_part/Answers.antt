use Rattle.std.proofs.Common.{◌≡◌, ◌∙◌, sym, ap, subst, map, OnOk}
use Rattle.gc_ast.proofs.ItemTrees.{stored_tree}
use Rattle.gc_expr.specs.Views.{name_of}
use Rattle.gc_ast.specs.PatternViews.{named}
use Rattle.gc_ast.specs.QueryViews.{assign_tree, part_tree}
use Rattle.gc_ast.specs.Trees.{row}
use Rattle.gc_build_reading.specs.Namings.{names_of, scope}
use Rattle.gc_build_reading.specs.ToldLists.{with_part, with_stored}
use Rattle.gc_build_reading.proofs.ToldLaws.{stored_said}
use Rattle.gc_build_reading.proofs.told.Told.add_part.Goals as goal

pub returns-in-Stored : goal.returns-in-Stored
returns-in-Stored c =
    let names = names_of c.args.naming.now in
    let s = scope c.args.naming.now in
    let made = c.in-Stored in
    subst (λ told. OnOk c.add_stored.result (c.add_stored.new.self ≡ told))
    (ap (λ x. with_stored s c.args.self.now x made.labels (row (map (assign_tree names) made.assigns.items))) c.named.ensures
    ∙ stored_said s c.args.self.now made.token (named names made.name) made.labels (row (map (assign_tree names) made.assigns.items))
    ∙ sym (ap (with_part s c.args.self.now) (ap (part_tree names) made.is ∙ stored_tree (name_of names) made.token made.name made.labels made.assigns)))
    c.add_stored.ensures
