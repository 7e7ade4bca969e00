use Rattle.std.proofs.Common.{◌≡◌, ◌⊎◌, ◌<◌, ◌≤◌, ℕ, Bool, true, false, length, inr, refl, ap, arith}
use Rattle.std.proofs.Math.Dec.{leb}
use Rattle.std.proofs.lemmas.Bool.Decides.{nat_tests}
use Rattle.gc_search.specs.Arrivals.{Told}
use Rattle.gc_search.specs.Links.{Walks}
use Rattle.gc_search.proofs.TreeLaws.{tree_length}
use Rattle.gc_search.proofs.tree.WalkTree.has.Goals as goal

told : (n len m : ℕ) → 0 < n → len ≡ m → Told (leb n len) ((0 < n) × (n ≤ m)) ((n ≡ 0) ⊎ (m < n))
told n len m some e = by (leb n len) refl
  where
    by : (b : Bool) → leb n len ≡ b → Told b ((0 < n) × (n ≤ m)) ((n ≡ 0) ⊎ (m < n))
    by true h = (some, grind (arith, nat_tests))
    by false h = inr (grind (arith, nat_tests))

pub returns-then-number-gt0 : goal.returns-then-number-gt0
returns-then-number-gt0 c =
    told c.args.number c.len.result (length c.args.self.now.walks) c.if-number-gt0.true
    (omega (arith, c.len.ensures, c.self.inside.links.ok, tree_length c.self.inside.product.now c.self.inside.links.items, ap (λ (t : Walks). length t.walks) c.self.view_is))
