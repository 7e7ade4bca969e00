use Rattle.std.proofs.Common.{◌≡◌, length, ap, subst, arith, ◌∙◌}
use Rattle.gc_search.specs.Links.{Walks, Link}
use Rattle.gc_search.specs.Tails.{edges_by, edges_told}
use Rattle.gc_search.proofs.TailLaws.{edges_none, edges_whole}
use Rattle.gc_search.proofs.tree.WalkTree.tail.Goals as goal

all : (c : goal.After-edge_count) → c.edge_count.result ≡ length (edges_by c.args.self.now.setting c.link.inside.by)
all c = subst (λ (t : Walks). c.edge_count.result ≡ length (edges_by t.setting c.link.inside.by)) c.self.view_is c.edge_count.ensures.exact

pub returns-then-has-clause-edges : goal.returns-then-has-clause-edges
returns-then-has-clause-edges c =
    let setting = c.args.self.now.setting in
    let walks = c.args.self.now.walks in
    let l : Link = record { at = c.link.inside.at; cost = c.link.inside.cost; edges = c.link.inside.edges; before = c.link.inside.before; by = c.link.inside.by } in
    edges_whole setting walks l c.edge_count.result c.if-has.ensures.0 c.if-has.ensures.1 (all c) ∙ ap (edges_told setting walks) c.link.view_is

pub returns-then-has-clause-is : goal.returns-then-has-clause-is
returns-then-has-clause-is c = record { before = c.if-has.ensures.1; left = omega (arith, all c) }

pub returns-else-has-clause-edges : goal.returns-else-has-clause-edges
returns-else-has-clause-edges c =
    let setting = c.args.self.now.setting in
    let walks = c.args.self.now.walks in
    let l : Link = record { at = c.link.inside.at; cost = c.link.inside.cost; edges = c.link.inside.edges; before = c.link.inside.before; by = c.link.inside.by } in
    edges_none setting walks l c.if-has.ensures ∙ ap (edges_told setting walks) c.link.view_is
