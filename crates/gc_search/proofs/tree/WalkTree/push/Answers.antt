use Rattle.std.proofs.Common.{◌≡◌, ◌<◌, ◌-◌, ℕ, List, [], ◌∷◌, ◌++◌, length, slice_index_or, sym, ap, subst, ◌∙◌, arith}
use Rattle.gc_search.specs.Arrivals.{FoundWalk, IsRepeated}
use Rattle.gc_search.specs.Links.{Link, Walks, walk_of, told, IsTold}
use Rattle.gc_search.specs.Ranks.{AreNoLater, IsRankedTree}
use Rattle.gc_search.proofs.RankLaws.{got_within, pushed_own, pushed_shared}
use Rattle.gc_search.proofs.TreeLaws.{got, told_push, tree_length}
use Rattle.gc_search.proofs.tree.WalkTree.push.Goals as goal
use Rattle.gc_search.proofs.tree.WalkTree.push.Goals.{then-repeats_last, else-repeats_last}

pub invariant_of-self-in-Ok : goal.invariant_of-self-in-Ok
invariant_of-self-in-Ok c =
    let setting = c.self.inside.product.now in
    let links = c.self.inside.links.items in
    let ranks = c.self.inside.ranks.items in
    let next = c.args.next in
    let is = subst (λ (t : Walks). IsTold t.setting t.walks next) (sym c.self.view_is) c.requires.told in
    let later = subst (λ (t : Walks). AreNoLater t.walks (walk_of t.setting t.walks next)) (sym c.self.view_is) c.requires.later in
    let ranked : IsRankedTree setting (links ++ next ∷ []) (ranks ++ c.if-repeats_last.rank ∷ []) = elim c.if-repeats_last.branch [
      | then-repeats_last w ↦
          let one = subst (λ (t : Walks). IsRepeated t.walks (walk_of t.setting t.walks next)) (sym c.self.view_is) w.if-repeats_last.ensures in
          let some = got_within (told setting links) (length (told setting links) - 1) one.0 one.1 in
          let within : length ranks - 1 < length ranks = omega (arith, some, tree_length setting links, c.self.invariant.size) in
          let place : w.len.result - 1 ≡ length ranks - 1 = omega (arith, w.len.ensures, c.self.inside.ranks.ok) in
          let rank = got ranks (length ranks - 1) w.index.result.now within (subst (λ n. w.index.result.now ≡ slice_index_or ranks n w.index.result.now) place w.index.ensures) in
          subst (λ r. IsRankedTree setting (links ++ next ∷ []) (ranks ++ r ∷ [])) (sym w.rank-is) (pushed_shared setting links ranks c.self.invariant next is later one.0 w.index.result.now one.1 one.2 rank)
      | else-repeats_last w ↦
          let other = subst (λ (t : Walks). IsRepeated t.walks (walk_of t.setting t.walks next) → ⊥) (sym c.self.view_is) w.if-repeats_last.ensures in
          let own : length ranks ≡ c.if-repeats_last.rank = omega (arith, w.rank-is, w.len-rank.ensures, c.self.inside.ranks.ok) in
          subst (λ r. IsRankedTree setting (links ++ next ∷ []) (ranks ++ r ∷ [])) own (pushed_own setting links ranks c.self.invariant next is later (λ y at same. other (y, at, same)))
    ] in
    subst (λ (l : List Link). IsRankedTree setting l c.push-2.new.self.items) (sym c.in_ok-push.ensures.items)
    (subst (λ (r : List ℕ). IsRankedTree setting (links ++ next ∷ []) r) (sym c.in-Ok.ensures.items) ranked)

pub returns-in-Ok-clause-ok : goal.returns-in-Ok-clause-ok
returns-in-Ok-clause-ok c =
    let setting = c.self.inside.product.now in
    let links = c.self.inside.links.items in
    let next = c.args.next in
    let seen : List FoundWalk → Walks = λ w. record { setting = setting; walks = w } in
    subst (λ (t : Walks). seen (told setting c.push.new.self.items) ≡ record { setting = t.setting; walks = t.walks ++ walk_of t.setting t.walks next ∷ [] }) c.self.view_is
    (ap seen (ap (told setting) c.in_ok-push.ensures.items ∙ told_push setting [] links next))
