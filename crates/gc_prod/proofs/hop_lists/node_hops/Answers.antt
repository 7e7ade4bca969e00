use Rattle.std.proofs.Common.{◌≡◌, ◌+◌, ◌∷◌, [], ◌++◌, ◌∙◌, ap, sym, drop, arith, List, Vec, Global}
use Rattle.std.specs.Option.{option_copied}
use Rattle.gc_prod.specs.declared.moves.Hop.{Hop}
use Rattle.gc_prod.specs.SymbolHops.{still, fits, at_nodes}
use Rattle.gc_prod.proofs.HopLists.{one_more, none_more}
use Rattle.gc_prod.proofs.hop_lists.node_hops.Goals as goal
use Rattle.gc_prod.proofs.hop_lists.node_hops.Goals.{then-node_fits+in_ok-push, else-node_fits}

pub loop-i-preserved : goal.loop-i-preserved
loop-i-preserved g c =
    let all = c.args.graph.now.nodes in
    let label = option_copied c.args.label in
    let here = c.node-node.result.now in
    let before = c.loop-i.found.items in
    elim c.if-node_fits.branch [
      | then-node_fits+in_ok-push w ↦ record {
        exact =
            let grown : c.if-node_fits.found.items ≡ before ++ still here ∷ [] = ap (λ (v : Vec Hop Global). v.items) w.found-is ∙ (w.in_ok-push.ensures.items ∙ ap (λ (h : Hop). before ++ h ∷ []) w.stay_at.ensures) in
            ap (λ (items : List Hop). items ++ at_nodes (option_copied c.args.label) (drop (c.loop-i.i + 1) all)) grown
            ∙ one_more still (λ x. fits label x.labels) before all c.loop-i.i here (at_nodes (option_copied c.args.label) all) c.node-node.ensures.node
            (sym c.node_fits.ensures ∙ w.if-node_fits.true) c.loop-i.invariant.exact;
        few = omega arith;
      }
      | else-node_fits w ↦ record {
        exact =
            ap (λ (items : List Hop). items ++ at_nodes (option_copied c.args.label) (drop (c.loop-i.i + 1) all)) (ap (λ (v : Vec Hop Global). v.items) w.found-is)
            ∙ none_more still (λ x. fits label x.labels) before all c.loop-i.i here (at_nodes (option_copied c.args.label) all) c.node-node.ensures.node
            (sym c.node_fits.ensures ∙ w.if-node_fits.false) c.loop-i.invariant.exact;
        few = omega arith;
      }
    ]
