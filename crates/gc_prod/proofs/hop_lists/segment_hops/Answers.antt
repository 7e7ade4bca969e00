use Rattle.std.proofs.Common.{◌≡◌, ◌+◌, ◌∷◌, [], ◌++◌, ◌∙◌, ap, sym, drop, arith, List, Vec, Global}
use Rattle.gc_prod.specs.declared.moves.Hop.{Hop}
use Rattle.gc_prod.specs.SymbolHops.{by_segment, by_segments}
use Rattle.gc_prod.proofs.HopLists.{one_segment, no_segment}
use Rattle.gc_prod.proofs.hop_lists.segment_hops.Goals as goal
use Rattle.gc_prod.proofs.hop_lists.segment_hops.Goals.{then-is_of+in_ok-push, else-is_of}

pub loop-i-preserved : goal.loop-i-preserved
loop-i-preserved g c =
    let all = c.args.segments.now in
    let view = c.args.view.now in
    let here = c.at-segment.result.now in
    let i = c.loop-i.i in
    let before = c.loop-i.found.items in
    elim c.if-is_of.branch [
      | then-is_of+in_ok-push w ↦ record {
        exact =
            let grown : c.if-is_of.found.items ≡ before ++ by_segment i here ∷ [] = ap (λ (v : Vec Hop Global). v.items) w.found-is ∙ (w.in_ok-push.ensures.items ∙ ap (λ (h : Hop). before ++ h ∷ []) w.segment_hop.ensures) in
            ap (λ (items : List Hop). items ++ by_segments view (i + 1) (drop (i + 1) all)) grown
            ∙ one_segment view before all i here (by_segments view 0 all) c.at-segment.ensures (sym c.is_of.ensures ∙ w.if-is_of.true) c.loop-i.invariant.exact;
        few = omega arith;
      }
      | else-is_of w ↦ record {
        exact =
            ap (λ (items : List Hop). items ++ by_segments view (i + 1) (drop (i + 1) all)) (ap (λ (v : Vec Hop Global). v.items) w.found-is)
            ∙ no_segment view before all i here (by_segments view 0 all) c.at-segment.ensures (sym c.is_of.ensures ∙ w.if-is_of.false) c.loop-i.invariant.exact;
        few = omega arith;
      }
    ]
