use Rattle.gc_ast.specs.PatternViews.{located_tree}
use Rattle.gc_sorts.specs.Graphs.{known}
use Rattle.gc_sorts.specs.Patterns.{located_breaches}
use Rattle.gc_sorts.proofs.Rows.{each_step}
use Rattle.gc_sorts.proofs.patterns.all_located.Goals as goal

pub loop-pattern-preserved : goal.loop-pattern-preserved
loop-pattern-preserved c =
    each_step (located_breaches (known c.args.graphs.now) c.args.views.now.order) (located_tree c.args.views.now.names)
    c.as_slice-pattern-items.result.now c.loop-pattern.pattern-index c.pattern-item.result c.loop-pattern-test.true c.pattern-item.is
    c.loop-pattern.found c.located-found.result _ c.located-found.ensures c.loop-pattern.invariant
