use Rattle.std.proofs.Common.{sym, ap, ◌∙◌}
use Rattle.gc_search.specs.Links.{walk_of}
use Rattle.gc_search.specs.Tails.{edges_if}
use Rattle.gc_search.proofs.TreeLaws.{numbered_at}
use Rattle.gc_search.proofs.tree.WalkTree.opened.Goals as goal

pub returns-clause-edges : goal.returns-clause-edges
returns-clause-edges c =
    let tree = c.args.self.now in
    c.tail.ensures.edges ∙ sym (ap edges_if (numbered_at tree.walks c.args.number (walk_of tree.setting tree.walks c.at.result.now) c.requires.0 c.at.ensures.exact))
