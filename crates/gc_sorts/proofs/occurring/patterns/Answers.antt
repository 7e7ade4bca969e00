use Rattle.gc_ast.specs.PatternViews.{located_tree}
use Rattle.gc_sorts.specs.Occurrences.{in_located}
use Rattle.gc_sorts.proofs.Readings.{collect_step}
use Rattle.gc_sorts.proofs.occurring.patterns.Goals as goal

pub loop-one-preserved : goal.loop-one-preserved
loop-one-preserved c =
    collect_step (in_located c.args.sight.now.at) (located_tree c.args.sight.now.names)
    c.as_slice-one-items.result.now c.loop-one.one-index c.one-item.result c.loop-one-test.true c.one-item.is
    c.loop-one.found c.located.new.found _ c.in_ok-located.ensures c.loop-one.invariant
