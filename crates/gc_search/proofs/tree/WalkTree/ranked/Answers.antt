use Rattle.std.proofs.Common.{◌≡◌, ◌<◌, ◌≤◌, ◌-◌, length, slice_get, ◌∙◌, ap, sym, subst, arith, List, ℕ, Some}
use Rattle.std.specs.Ordering.{nat_cmp}
use Rattle.std.specs.Cmp.Lexicographic.{slice_cmp}
use Rattle.gc_prod.specs.Products.{Setting}
use Rattle.gc_search.specs.Links.{Link, Walks, numbered, walk_of, told}
use Rattle.gc_search.specs.Ranks.{IsRankedTree}
use Rattle.gc_search.specs.Tails.{edges_if}
use Rattle.gc_search.proofs.RankLaws.{ranked_numbers}
use Rattle.gc_search.proofs.TreeLaws.{tree_length, got}
use Rattle.gc_search.proofs.tree.WalkTree.ranked.Goals as goal

within : (setting : Setting) (links : List Link) (ranks : List ℕ) → IsRankedTree setting links ranks → (n : ℕ) → 0 < n → n ≤ length (told setting links) → n - 1 < length ranks
within setting links ranks tree n some h = omega (arith, some, h, tree.size, tree_length setting links)

pub index-requires : goal.index-requires
index-requires c =
    let setting = c.self.inside.product.now in
    let h = subst (λ (t : Walks). c.args.one ≤ length t.walks) (sym c.self.view_is) c.requires.first.1 in
    let l = within setting c.self.inside.links.items c.self.inside.ranks.items c.self.invariant c.args.one c.requires.first.0 h in
    omega (arith, l, c.self.inside.ranks.ok)

pub index-requires-then-at : goal.index-requires-then-at
index-requires-then-at c =
    let setting = c.self.inside.product.now in
    let h = subst (λ (t : Walks). c.args.other ≤ length t.walks) (sym c.self.view_is) c.requires.second.1 in
    let l = within setting c.self.inside.links.items c.self.inside.ranks.items c.self.invariant c.args.other c.requires.second.0 h in
    omega (arith, l, c.self.inside.ranks.ok)

pub returns-then-at : goal.returns-then-at
returns-then-at c =
    let setting = c.self.inside.product.now in
    let links = c.self.inside.links.items in
    let ranks = c.self.inside.ranks.items in
    let m = c.args.one in
    let n = c.args.other in
    let r = c.index.result.now in
    let s = c.index-then-at.result.now in
    let walks = c.args.self.now.walks in
    let first = subst (λ (t : Walks). m ≤ length t.walks) (sym c.self.view_is) c.requires.first.1 in
    let second = subst (λ (t : Walks). n ≤ length t.walks) (sym c.self.view_is) c.requires.second.1 in
    let a = walk_of c.args.self.now.setting walks c.at.result.now in
    let b = walk_of c.args.self.now.setting walks c.at-2.result.now in
    let there = subst (λ (t : Walks). slice_get t.walks (m - 1) ≡ Some a) (sym c.self.view_is) c.at.ensures.exact in
    let other = subst (λ (t : Walks). slice_get t.walks (n - 1) ≡ Some b) (sym c.self.view_is) c.at-2.ensures.exact in
    let rank = got ranks (m - 1) r (within setting links ranks c.self.invariant m c.requires.first.0 first) c.index.ensures in
    let its = got ranks (n - 1) s (within setting links ranks c.self.invariant n c.requires.second.0 second) c.index-then-at.ensures in
    let cost : a.cost ≡ b.cost = ap (λ (l : Link). l.cost) (sym c.behind-self.view_is) ∙ (c.if-at.true ∙ ap (λ (l : Link). l.cost) c.behind-self-2.view_is) in
    let level = subst (λ (t : Walks). length (edges_if (numbered t.walks m)) ≡ length (edges_if (numbered t.walks n))) (sym c.self.view_is) c.requires.level in
    c.cmp.ensures
    ∙ subst (λ (t : Walks). nat_cmp r s ≡ slice_cmp nat_cmp (edges_if (numbered t.walks m)) (edges_if (numbered t.walks n))) c.self.view_is
    (ranked_numbers setting links ranks c.self.invariant m n a b r s c.requires.first.0 c.requires.second.0 there other rank its cost level)
