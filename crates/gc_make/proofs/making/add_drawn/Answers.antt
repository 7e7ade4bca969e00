use Rattle.std.proofs.Common.{◌≡◌, ◌+◌, ◌*◌, ◌<◌, ℕ, suc, ap, sym, subst, ◌∙◌, false, None, refl, arith}
use Rattle.gc_make.proofs.Stages.{edge_fresh, edge_more, ends_there}
use Rattle.gc_make.specs.Draws.{draw, drawn_node, next_draw}
use Rattle.gc_make.specs.MadeGraphs.{made_edge, random_edge}
use Rattle.gc_ppg.specs.Built.{missing_end, with_edge}
use Rattle.gc_spec.specs.PropertyGraph.{Edge, ids_of, is_among}
use Rattle.gc_make.proofs.making.add_drawn.Goals as goal

-- two numbers that are drawn one after another
drawn_first : (start j drawn source : ℕ) → drawn ≡ draw start (2 * j) → source ≡ next_draw drawn → source ≡ draw start (2 * j + 1)
drawn_first start j drawn source was next =
    let step : suc (2 * j) ≡ 2 * j + 1 = omega arith in
    next ∙ (ap next_draw was ∙ ap (draw start) step)

drawn_second : (start j source target : ℕ) → source ≡ draw start (2 * j + 1) → target ≡ next_draw source → target ≡ draw start (2 * j + 2)
drawn_second start j source target was next =
    let step : suc (2 * j + 1) ≡ 2 * j + 2 = omega arith in
    next ∙ (ap next_draw was ∙ ap (draw start) step)

pub loop-j-init : goal.loop-j-init
loop-j-init c = (c.requires.nodes, refl, c.requires.below)

pub add_edge-requires-clause-fresh : goal.add_edge-requires-clause-fresh
add_edge-requires-clause-fresh c =
    let n = c.args.size in
    let j = c.loop-j.j in
    subst (λ g. is_among (ids_of g) (n + j) ≡ false) (sym c.loop-j.invariant.0) (edge_fresh n (random_edge n c.args.start) (λ i. refl) j)

pub add_edge-requires-clause-ends : goal.add_edge-requires-clause-ends
add_edge-requires-clause-ends c =
    let n = c.args.size in
    let id = n + c.loop-j.j in
    let from = c.drawn_node.result in
    let to = c.drawn_node-in-loop-j.result in
    subst (λ g. missing_end g.nodes (made_edge id from to) ≡ None) (sym c.loop-j.invariant.0) (ends_there n id from to c.drawn_node.ensures.below c.drawn_node-in-loop-j.ensures.below)

pub loop-j-preserved : goal.loop-j-preserved
loop-j-preserved c =
    let n = c.args.size in
    let j = c.loop-j.j in
    let start = c.args.start in
    let source = c.next_draw-source.result in
    let target = c.next_draw-target.result in
    let first : source ≡ draw start (2 * j + 1) = drawn_first start j c.loop-j.drawn source c.loop-j.invariant.1 c.next_draw-source.ensures.next in
    let second : target ≡ draw start (2 * j + 2) = drawn_second start j source target first c.next_draw-target.ensures.next in
    let later : 2 * j + 2 ≡ 2 * (j + 1) = omega arith in
    let from : c.drawn_node.result ≡ drawn_node n (draw start (2 * j + 1)) = c.drawn_node.ensures.node ∙ ap (drawn_node n) first in
    let to : c.drawn_node-in-loop-j.result ≡ drawn_node n (draw start (2 * j + 2)) = c.drawn_node-in-loop-j.ensures.node ∙ ap (drawn_node n) second in
    let same : made_edge (n + j) c.drawn_node.result c.drawn_node-in-loop-j.result ≡ random_edge n start j = λ i. made_edge (n + j) (from i) (to i) in (
      c.in_ok-add_edge.ensures ∙ (ap (λ (e : Edge). with_edge c.loop-j.builder e) same
          ∙ (ap (λ g. with_edge g (random_edge n start j)) c.loop-j.invariant.0 ∙ edge_more n (random_edge n start) (λ i. refl) j)),
      second ∙ ap (draw start) later,
      c.next_draw-target.ensures.below,
    )
