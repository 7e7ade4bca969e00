use Rattle.std.proofs.Common.{◌≡◌, ◌+◌, ◌∷◌, [], ◌++◌, ◌∙◌, ap, List, ℕ, drop}
use Rattle.gc_spec.specs.PropertyGraph.{Node, node_ids}
use Rattle.gc_prod.proofs.HopLists.{mapped_more}
use Rattle.gc_prod.proofs.product.node_list.Goals as goal

pub loop-i-preserved : goal.loop-i-preserved
loop-i-preserved g c =
    let all = c.args.graph.now.nodes in
    let here = c.node.result.now in
    let before = c.loop-i.nodes.items in
    let grown : c.push.new.self.items ≡ before ++ here.id ∷ [] = c.in_ok-push.ensures.items ∙ ap (λ id. before ++ id ∷ []) c.id_of.ensures in
    ap (λ (ids : List ℕ). ids ++ node_ids (drop (c.loop-i.i + 1) all)) grown
    ∙ mapped_more (λ (n : Node). n.id) before all c.loop-i.i here (node_ids all) c.node.ensures.node c.loop-i.invariant
