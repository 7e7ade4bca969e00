use Rattle.std.proofs.Common.{length, ap, arith}
use Rattle.gc_search.specs.Links.{Walks}
use Rattle.gc_search.proofs.TreeLaws.{tree_length}
use Rattle.gc_search.proofs.tree.WalkTree.count.Goals as goal

pub returns-clause-exact : goal.returns-clause-exact
returns-clause-exact c =
    omega (arith, c.len.ensures, c.self.inside.links.ok, tree_length c.self.inside.product.now c.self.inside.links.items, ap (λ (t : Walks). length t.walks) c.self.view_is)
