use Rattle.std.proofs.Common.{◌∙◌, ap, subst}
use Rattle.std.specs.Ordering.{nat_cmp}
use Rattle.gc_base.specs.Ascending.{Ascends}
use Rattle.gc_spec.specs.PropertyGraph.{IsGraph, node_ids}
use Rattle.gc_automata.specs.Moves.{IsNetwork, Network}
use Rattle.gc_prod.specs.Products.{Setting}
use Rattle.gc_prod.proofs.Networks.{network_is, ids_ascend}
use Rattle.gc_prod.proofs.product.Product.nodes.Goals as goal

pub returns : goal.returns
returns c =
    let inv = c.self.invariant in
    let network : Network = record { graph = c.self.inside.graph.now; segments = c.self.inside.segments.now } in
    record {
      nodes = c.deref.ensures.value ∙ (inv.ids ∙ ap (λ (s : Setting). node_ids s.network.graph.nodes) c.self.view_is);
      ascend = subst (λ (s : Setting). Ascends nat_cmp (node_ids s.network.graph.nodes)) c.self.view_is (ids_ascend network.graph.nodes inv.graph.nodes_ascend);
      graph = subst (λ (s : Setting). IsGraph s.network.graph) c.self.view_is inv.graph;
      network = subst (λ (s : Setting). IsNetwork s.network) c.self.view_is (network_is network inv.graph inv.segments);
    }
