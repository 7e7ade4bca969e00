use Rattle.gc_ast.specs.PatternViews.{group_term_tree}
use Rattle.gc_sorts.proofs.Rows.{all_of_step}
use Rattle.gc_build_reading.specs.Items.{grouped}
use Rattle.gc_build_reading.specs.Namings.{names_of, scope}
use Rattle.gc_build_reading.proofs.told.add_terms.Goals as goal

pub loop-one-preserved : goal.loop-one-preserved
loop-one-preserved c =
    all_of_step (grouped (scope c.args.naming.now) c.args.var) (group_term_tree (names_of c.args.naming.now))
    c.as_slice-one-items.result.now c.loop-one.one-index c.one-item.result c.loop-one-test.true c.one-item.is
    c.loop-one.list c.add_term.new.list _ c.in_ok-add_term.ensures c.loop-one.invariant
