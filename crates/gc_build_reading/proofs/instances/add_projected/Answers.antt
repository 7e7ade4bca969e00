use Rattle.std.proofs.Common.{◌≡◌, ◌++◌, sym, ap, subst, OnOk, rules}
use Rattle.gc_ast.specs.declared.construct.Change.{the_lemmas}
use Rattle.gc_ast.specs.PatternViews.{named}
use Rattle.gc_ast.specs.QueryViews.{part_by, part_tree}
use Rattle.gc_ast.specs.Trees as tree
use Rattle.gc_build_reading.specs.Items.{part_projected}
use Rattle.gc_build_reading.specs.Namings.{names_of, scope}
use Rattle.gc_build_reading.proofs.instances.add_projected.Goals as goal

pub returns-in-Projected : goal.returns-in-Projected
unfolding part_by
returns-in-Projected c =
    let names = names_of c.args.naming.now in
    let path = c.in-Projected in
    let is : part_tree names c.args.part.now ≡ tree.Projected path.token (named names path.name) = rw path.is (search (rules, the_lemmas)) in
    subst (λ added. OnOk c.add_named.result (c.add_named.new.vars ≡ c.args.vars.now ++ added))
    (sym (ap (part_projected (scope c.args.naming.now)) is))
    c.add_named.ensures
