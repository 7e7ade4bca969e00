-- The first group is taken to the front.
use Rattle.std.proofs.Common.{◌≡◌, ℕ, ◌<◌, List, [], ◌∷◌, length, sym, subst, arith, length-append, Vec}
use Rattle.std.specs.BTreeMap.Range.{IsLtBy}
use Rattle.std.specs.List.{All, filter}
use Rattle.std.specs.List.Sorted.{IsPermutation, IsSorted}
use Rattle.std.specs.Map.{keys_of}
use Rattle.std.proofs.lemmas.List.Sorted.{IsPermutation-refl}
use Rattle.gc_search.specs.Groups.{all_of, key_order, AreGroups, Groups}
use Rattle.gc_search.specs.Links.{Link, Walks}
use Rattle.gc_search.specs.Waiting.{Queue, links_of, IsQueue, IsSifted}
use Rattle.gc_search.proofs.FrontLaws.{front_order, group_queue, group_sifted, has_room, room_sifted}
use Rattle.gc_search.proofs.GroupLaws.{first_group, some_there}
use Rattle.gc_search.proofs.WaitingLaws.{queue}

pub record TakesGroup (tree : Walks) (k : ℕ) (before after : Queue) : Type 0 where
  pub sifted : IsSifted tree k (links_of before) (links_of after)
  pub queue : IsQueue tree after
  pub fewer : length after.later < length before.later

module _ {A : Type 0} (tree : Walks) (k : ℕ) (first : (ℕ × ℕ) × Vec Link A) (rest : Groups A) (some front : List Link) (left : some ≡ filter (has_room tree.walks k) first.1.items)
    (p : IsPermutation some front) (sorted : IsSorted (front_order tree.setting tree.walks) front) where
  first_taken : IsQueue tree (queue [] (all_of (first ∷ rest))) → AreGroups (first ∷ rest) → All (IsLtBy key_order first.0) (keys_of rest)
      → TakesGroup tree k (queue [] (all_of (first ∷ rest))) (queue front (all_of rest))
  first_taken q groups above =
      let before = queue [] (all_of (first ∷ rest)) in
      let middle = queue first.1.items (all_of rest) in
      let same : IsPermutation (links_of before) (links_of middle) = IsPermutation-refl (links_of middle) in
      let sifted : IsSifted tree k middle.front some = subst (IsSifted tree k middle.front) (sym left) (room_sifted tree k middle.front) in
      let are = first_group first rest groups above in
      record {
        sifted = group_sifted tree k before middle some front q same are sifted p sorted;
        queue = group_queue tree k before middle some front q same are sifted p sorted;
        fewer = omega (arith, length-append first.1.items (all_of rest), some_there first.1.items (groups.0).some);
      }

  pub group_taken : (entries : Groups A) → entries ≡ first ∷ rest → IsQueue tree (queue [] (all_of entries)) → AreGroups entries → All (IsLtBy key_order first.0) (keys_of rest)
      → TakesGroup tree k (queue [] (all_of entries)) (queue front (all_of rest))
  group_taken entries is q groups above =
      subst (λ (es : Groups A). TakesGroup tree k (queue [] (all_of es)) (queue front (all_of rest))) (sym is)
      (first_taken (subst (λ (es : Groups A). IsQueue tree (queue [] (all_of es))) is q) (subst AreGroups is groups) above)
