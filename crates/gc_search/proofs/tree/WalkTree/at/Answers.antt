use Rattle.std.proofs.Common.{◌<◌, length, ap, subst, arith}
use Rattle.gc_search.specs.Links.{Walks, told}
use Rattle.gc_search.proofs.TreeLaws.{StandsAt, stands_at, tree_length}
use Rattle.gc_search.proofs.tree.WalkTree.at.Goals as goal

pub index-requires : goal.index-requires
index-requires c =
    omega (arith, tree_length c.self.inside.product.now c.self.inside.links.items, c.requires, ap (λ (t : Walks). length t.walks) c.self.view_is, c.self.inside.links.ok)

stands : (c : goal.After-index) → StandsAt c.args.self.now.setting c.args.self.now.walks c.args.place c.index.result.now
stands c =
    let links = c.self.inside.links.items in
    let setting = c.self.inside.product.now in
    let within : c.args.place < length (told setting links) = omega (arith, c.requires, ap (λ (t : Walks). length t.walks) c.self.view_is) in
    subst (λ (t : Walks). StandsAt t.setting t.walks c.args.place c.index.result.now) c.self.view_is
    (stands_at setting links c.args.place c.index.result.now c.self.invariant.tree (omega (arith, tree_length setting links, within)) c.index.ensures)

pub returns-clause-exact : goal.returns-clause-exact
returns-clause-exact c = (stands c).walk

pub returns-clause-told : goal.returns-clause-told
returns-clause-told c = (stands c).told

pub returns-clause-earlier : goal.returns-clause-earlier
returns-clause-earlier c = (stands c).earlier
