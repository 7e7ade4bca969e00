use Rattle.std.proofs.Common.{◌≡◌, ◌+◌, ◌∷◌, [], ◌++◌, ◌∙◌, ap, sym, drop, arith, List, ℕ, Option, Some, Vec, Global}
use Rattle.gc_prod.specs.declared.moves.Hop.{Hop}
use Rattle.gc_prod.specs.SymbolHops.{along_edge, fits, along_edges}
use Rattle.gc_prod.proofs.HopLists.{one_more, none_more}
use Rattle.gc_prod.proofs.hop_lists.edge_hops.Goals as goal
use Rattle.gc_prod.proofs.hop_lists.edge_hops.Goals.{then-edge_fits+in_ok-push, else-edge_fits}

pub loop-i-preserved : goal.loop-i-preserved
loop-i-preserved g c =
    let all = c.args.graph.now.edges in
    let label : Option (List ℕ) = Some c.args.label.now in
    let here = c.edge-edge.result.now in
    let before = c.loop-i.found.items in
    elim c.if-edge_fits.branch [
      | then-edge_fits+in_ok-push w ↦ record {
        exact =
            let grown : c.if-edge_fits.found.items ≡ before ++ (along_edge c.args.way) here ∷ [] = ap (λ (v : Vec Hop Global). v.items) w.found-is ∙ (w.in_ok-push.ensures.items ∙ ap (λ (h : Hop). before ++ h ∷ []) w.edge_hop.ensures) in
            ap (λ (items : List Hop). items ++ along_edges c.args.way (Some c.args.label.now) (drop (c.loop-i.i + 1) all)) grown
            ∙ one_more (along_edge c.args.way) (λ x. fits label x.labels) before all c.loop-i.i here (along_edges c.args.way (Some c.args.label.now) all) c.edge-edge.ensures.edge
            (sym c.edge_fits.ensures ∙ w.if-edge_fits.true) c.loop-i.invariant.exact;
        few = omega arith;
      }
      | else-edge_fits w ↦ record {
        exact =
            ap (λ (items : List Hop). items ++ along_edges c.args.way (Some c.args.label.now) (drop (c.loop-i.i + 1) all)) (ap (λ (v : Vec Hop Global). v.items) w.found-is)
            ∙ none_more (along_edge c.args.way) (λ x. fits label x.labels) before all c.loop-i.i here (along_edges c.args.way (Some c.args.label.now) all) c.edge-edge.ensures.edge
            (sym c.edge_fits.ensures ∙ w.if-edge_fits.false) c.loop-i.invariant.exact;
        few = omega arith;
      }
    ]
