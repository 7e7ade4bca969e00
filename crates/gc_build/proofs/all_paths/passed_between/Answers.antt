use Rattle.gc_build.proofs.Passing.{next_span}
use Rattle.gc_build.proofs.all_paths.passed_between.Goals as goal

pub loop-span-preserved : goal.loop-span-preserved
loop-span-preserved g c = λ tree formed is.
    let before = c.loop-span.passed in
    let parts = c.in_ok-parts.parts in
    next_span c.args.product.now.network tree c.args.spans.now c.loop-span.span-index c.span-item.result c.loop-span-test.true c.span-item.is
    before.nodes.items before.edges.items parts.nodes parts.edges c.as_slice.result.now c.as_slice-in-loop-span.result.now
    c.extend_from_slice.new.self.items c.extend_from_slice-in-loop-span.new.self.items c.as_slice.ensures c.as_slice-in-loop-span.ensures
    c.in_ok-extend_from_slice.ensures.items c.in_ok-extend_from_slice-2.ensures.items (c.loop-span.invariant tree formed is) (c.in_ok-parts.ensures tree formed is)
