use Rattle.std.proofs.Common.{sym, ◌∙◌}
use Rattle.std.specs.Ordering.{nat_cmp}
use Rattle.std.specs.Cmp.Lexicographic.{slice_cmp}
use Rattle.gc_search.specs.Tails.{tail_edges}
use Rattle.gc_search.proofs.TailLaws.{order_met, then_equal}
use Rattle.gc_search.proofs.comparing.level_order.Goals as goal

pub returns : goal.returns
returns c =
    let setting = c.args.tree.now.setting in
    let walks = c.args.tree.now.walks in
    sym (order_met setting walks c.loop-compared.compared c.loop-compared-test.ensures)
    ∙ (c.loop-compared.invariant.order ∙ sym (then_equal (slice_cmp nat_cmp (tail_edges setting walks c.args.one) (tail_edges setting walks c.args.other))))
