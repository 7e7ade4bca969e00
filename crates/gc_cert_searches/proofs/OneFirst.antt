-- Where one walk is the first, it is told by its ends.
use Rattle.std.proofs.Common.{◌≡◌, ⊎_elim, [], ◌∷◌, length, sym, ap, ◌∙◌}
use Rattle.std.specs.declared.cmp.Ordering.TheVariants.{Less, Greater}
use Rattle.std.specs.Ordering.{ordering_reverse}
use Rattle.std.specs.Cmp.{IsTotalOrder, nat_cmp_total, on_total, then_total}
use Rattle.std.specs.Cmp.Lexicographic.{nat_list_cmp_total}
use Rattle.std.specs.List.{Contains}
use Rattle.gc_automata.proofs.Inclusion.{among_more, among_none}
use Rattle.gc_base.specs.Walks.{edges_of}
use Rattle.gc_rows.proofs.Members.{contains_here}
use Rattle.gc_alg.specs.FirstWalks.{AreFirst, CostedWalk, Search, costed_order}

costed_order_total : IsTotalOrder costed_order
costed_order_total =
    then_total (on_total (λ (w : CostedWalk). w.cost) nat_cmp_total)
    (then_total (on_total (λ (w : CostedWalk). length w.walk.steps) nat_cmp_total) (on_total (λ (w : CostedWalk). edges_of w.walk) nat_list_cmp_total))

only : (v w : CostedWalk) → Contains (v ∷ []) w → v ≡ w
only v w h = ⊎_elim (λ e. e) (λ k. absurd (among_none w k)) (among_more v [] w h)

module _ (s : Search) (v w : CostedWalk) (ours : AreFirst s 1 (v ∷ [])) (theirs : AreFirst s 1 (w ∷ [])) where
  pub one_first : v ≡ w
  one_first =
      ⊎_elim (λ there. only v w there)
      (λ behind. ⊎_elim (λ here. sym (only w v here)) (λ before. absurd (circle (behind.1 v (contains_here v [])) (before.1 w (contains_here w []))))
      (theirs.complete v (ours.sound v (contains_here v []))))
      (ours.complete w (theirs.sound w (contains_here w [])))
    where
      circle : costed_order v w ≡ Less → costed_order w v ≡ Less → ⊥
      circle a b = let back : costed_order v w ≡ Greater = costed_order_total.antisymm v w ∙ ap ordering_reverse b in cc
