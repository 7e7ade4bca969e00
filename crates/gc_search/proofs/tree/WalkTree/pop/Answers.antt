use Rattle.std.proofs.Common.{ap, ◌∙◌, arith}
use Rattle.gc_search.specs.Links.{Walks}
use Rattle.gc_search.proofs.RankLaws.{popped_ranked}
use Rattle.gc_search.proofs.TreeLaws.{popped_walks}
use Rattle.gc_search.proofs.tree.WalkTree.pop.Goals as goal

pub invariant_of-self : goal.invariant_of-self
invariant_of-self c =
    popped_ranked c.self.inside.product.now _ _ _ _ c.self.inside.links.items c.pop.new.self.items c.pop.result c.self.inside.ranks.items c.pop-2.new.self.items c.pop-2.result c.pop.ensures.items
    c.pop-2.ensures.items c.pop.ensures.cases (λ h. omega (arith, h.0, c.self.inside.links.ok)) c.pop-2.ensures.cases (λ h. omega (arith, h.0, c.self.inside.ranks.ok)) c.self.invariant

pub returns-clause-walks : goal.returns-clause-walks
returns-clause-walks c = λ walks a is.
    popped_walks c.self.inside.product.now _ _ c.self.inside.links.items c.pop.new.self.items c.pop.result c.pop.ensures.items c.pop.ensures.cases (λ h. omega (arith, h.0, c.self.inside.links.ok)) walks a
    (ap (λ (t : Walks). t.walks) c.self.view_is ∙ is)
