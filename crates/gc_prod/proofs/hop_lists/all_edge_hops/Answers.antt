use Rattle.std.proofs.Common.{◌≡◌, ◌+◌, ◌∷◌, [], ◌++◌, ◌∙◌, ap, refl, List, None, drop, arith}
use Rattle.gc_prod.specs.declared.moves.Hop.{Hop}
use Rattle.gc_prod.specs.SymbolHops.{along_edge, along_edges, fits}
use Rattle.gc_prod.proofs.HopLists.{one_more}
use Rattle.gc_prod.proofs.hop_lists.all_edge_hops.Goals as goal

pub loop-i-preserved : goal.loop-i-preserved
loop-i-preserved g c =
    let all = c.args.graph.now.edges in
    let f = along_edge c.args.way in
    let here = c.edge.result.now in
    let before = c.loop-i.found.items in
    let grown : c.push.new.self.items ≡ before ++ f here ∷ [] = c.in_ok-push.ensures.items ∙ ap (λ (h : Hop). before ++ h ∷ []) c.edge_hop.ensures in
    record {
      exact =
          ap (λ (items : List Hop). items ++ along_edges c.args.way None (drop (c.loop-i.i + 1) all)) grown
          ∙ one_more f (λ x. fits None x.labels) before all c.loop-i.i here (along_edges c.args.way None all) c.edge.ensures.edge refl c.loop-i.invariant.exact;
      few = omega arith;
    }
