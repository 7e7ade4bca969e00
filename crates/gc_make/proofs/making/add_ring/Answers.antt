use Rattle.std.proofs.Common.{◌≡◌, ◌+◌, ◌<◌, ◌%◌, ℕ, ap, sym, subst, ◌∙◌, false, None, refl, arith}
use Rattle.std.proofs.Math.Nat.{mod-lt}
use Rattle.gc_make.proofs.Stages.{edge_fresh, edge_more, ends_there}
use Rattle.gc_make.specs.MadeGraphs.{made_edge, ring_edge}
use Rattle.gc_ppg.specs.Built.{missing_end, with_edge}
use Rattle.gc_spec.specs.PropertyGraph.{ids_of, is_among}
use Rattle.gc_make.proofs.making.add_ring.Goals as goal

pub add_edge-requires-clause-fresh : goal.add_edge-requires-clause-fresh
add_edge-requires-clause-fresh c =
    let n = c.args.size in
    let j = c.loop-j.j in
    subst (λ g. is_among (ids_of g) (n + j) ≡ false) (sym c.loop-j.invariant) (edge_fresh n (ring_edge n) (λ i. refl) j)

pub add_edge-requires-clause-ends : goal.add_edge-requires-clause-ends
add_edge-requires-clause-ends c =
    let n : ℕ = c.args.size in
    let j : ℕ = c.loop-j.j in
    let within : j < n = c.loop-j-test.true in
    let some : 0 < n = omega (arith, within) in
    subst (λ g. missing_end g.nodes (made_edge (n + j) j ((j + 1) % n)) ≡ None) (sym c.loop-j.invariant)
    (ends_there n (n + j) j ((j + 1) % n) within (mod-lt (j + 1) some))

pub loop-j-preserved : goal.loop-j-preserved
loop-j-preserved c =
    let n = c.args.size in
    let j = c.loop-j.j in
    c.in_ok-add_edge.ensures ∙ (ap (λ g. with_edge g (ring_edge n j)) c.loop-j.invariant ∙ edge_more n (ring_edge n) (λ i. refl) j)
