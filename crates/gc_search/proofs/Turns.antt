-- The turns of the search: one that settles the least walk that is pending, and two that drop it.
use Rattle.std.proofs.Common.{◌≡◌, ℕ, ◌+◌, ◌-◌, ◌*◌, ◌^◌, ◌<◌, ◌≤◌, List, [], ◌∷◌, ◌++◌, ◌⊎◌, inl, inr, length, map, Option, None, Some, Bool, true, false, nat_lt, refl, sym, ap, ◌∙◌, subst, arith, length-append}
use Rattle.std.specs.List.{AllByRecursion, slice_get}
use Rattle.std.specs.List.Sorted.{IsPermutation}
use Rattle.std.proofs.lemmas.List.{map-append}
use Rattle.std.proofs.lemmas.List.Sorted.{IsPermutation-sym}
use Rattle.gc_base.proofs.SetLaws.{AllByRecursion-append}
use Rattle.gc_prod.specs.declared.moves.Pair.{Pair}
use Rattle.gc_prod.specs.Leading.{pair, target_of}
use Rattle.gc_prod.specs.Products.{Setting, moves}
use Rattle.gc_search.specs.Arrivals.{FoundWalk, entry_of, arrivals_at, settled_at, passages, stays_at, extended, extensions, open_moves, TakesLeast, NoLater, same_pair, IsNew, IsOld, IsSeen, IsUnknown, IsAsked, IsDone}
use Rattle.gc_search.specs.Entries.{Entry, AtMost, Strictly, Same}
use Rattle.gc_search.specs.Finding.{IsFollowed}
use Rattle.gc_search.specs.Passages.{Has, Passage, IsOnward, IsCounted, Reach, IsFirstK}
use Rattle.gc_search.specs.Ranks.{AreNoLater}
use Rattle.gc_search.proofs.Bridge.{contains_of, follows_push, has_permuted}
use Rattle.gc_search.proofs.Flat.{IsPending, State, state_start, state_end, state_less, state_seen, state_full, state_full_at, state_settle, settled_has, Has_from_map, Has_filtered}
use Rattle.gc_search.proofs.Order.{before_same_walk, before_trans, entry_eq}
use Rattle.gc_search.proofs.RankLaws.{got_has, something}
use Rattle.gc_search.proofs.Settle.{Has_pushed, last_alone, same_cost}
use Rattle.gc_search.proofs.LoopLaws.{all_has, all_of_has, all_rest, costs_more}

last_of : (x : FoundWalk) (xs : List FoundWalk) → (before : List FoundWalk) × (y : FoundWalk) × ((x ∷ xs) ≡ before ++ y ∷ [])
last_of x [] = ([], x, refl)
last_of x (z ∷ xs) = let l = last_of z xs in (x ∷ l.0, l.1, ap (λ v. x ∷ v) l.2)

-- the last of some walks
last_is : (xs : List FoundWalk) (a y : FoundWalk) → slice_get (xs ++ a ∷ []) (length (xs ++ a ∷ []) - 1) ≡ Some y → a ≡ y
last_is xs a y h =
    let n : length (xs ++ a ∷ []) - 1 ≡ length xs = omega (arith, length-append xs (a ∷ [])) in
    at_end xs a y (subst (λ i. slice_get (xs ++ a ∷ []) i ≡ Some y) n h)
  where
    at_end : (xs : List FoundWalk) (a y : FoundWalk) → slice_get (xs ++ a ∷ []) (length xs) ≡ Some y → a ≡ y
    at_end [] a y h = cc
    at_end (x ∷ xs) a y h = at_end xs a y h

last_there : (xs : List FoundWalk) (x : FoundWalk) → Has xs x → (y : FoundWalk) × (slice_get xs (length xs - 1) ≡ Some y)
last_there [] x h = elim h [ ]
last_there (z ∷ xs) x h = something (z ∷ xs) (length (z ∷ xs) - 1) (omega arith)

between : (a b : Entry) → AtMost b a → AtMost a b → a ≡ b
between a b (Same e) g = sym e
between a b (Strictly h) (Same e) = e
between a b (Strictly h) (Strictly g) = let l = before_same_walk a a (before_trans a b a g h) refl in absurd (omega (arith, l))

module _ (setting : Setting) (source k : ℕ) where
  -- what holds before and after each turn: each that is pending costs at most so much for each that is settled, and these are too few
  -- for large costs
  pub record IsOn (settled pending : List FoundWalk) : Type 0 where
    pub state : State setting source k settled pending
    pub small : AllByRecursion (λ a. a.cost ≤ length settled * 2 ^ 64) pending
    pub low : AllByRecursion (λ a. a.cost < 2 ^ 127) settled
    pub found : AllByRecursion (IsFollowed setting source) settled
    pub due : AllByRecursion (IsFollowed setting source) pending
    pub latest : (y : FoundWalk) → slice_get settled (length settled - 1) ≡ Some y → AreNoLater settled y

  -- those that are pending may be fewer by some to pairs that are full
  pub on_less : (settled xs ys : List FoundWalk) → ((x : FoundWalk) → Has xs x → Has ys x ⊎ (k ≤ length (arrivals_at settled x.at)))
      → ((x : FoundWalk) → Has ys x → Has xs x) → IsOn settled xs → IsOn settled ys
  on_less settled xs ys there back on =
      record {
        state = state_less setting source k settled xs ys there back on.state;
        small = all_of_has (λ (a : FoundWalk). a.cost ≤ length settled * 2 ^ 64) ys (λ x h. all_has (λ (a : FoundWalk). a.cost ≤ length settled * 2 ^ 64) xs x on.small (back x h));
        low = on.low;
        found = on.found;
        due = all_of_has (IsFollowed setting source) ys (λ x h. all_has (IsFollowed setting source) xs x on.due (back x h));
        latest = on.latest;
      }

  -- their order means nothing
  permuted : (settled xs ys : List FoundWalk) → IsPermutation xs ys → IsOn settled xs → IsOn settled ys
  permuted settled xs ys p on =
      on_less settled xs ys (λ x h. inl (has_permuted xs ys x p h)) (λ x h. has_permuted ys xs x (IsPermutation-sym xs ys p) h) on

  pub turn_start : (pending : List FoundWalk) → stays_at source ∷ [] ≡ pending → IsOn [] pending
  turn_start pending same =
      subst (IsOn []) same (record { state = state_start setting source k; small = (omega arith, tt); low = tt; found = tt; due = ((refl, refl, refl), tt); latest = λ y at. cc })

  pub turn_end : (settled pending : List FoundWalk) → IsOn settled pending → pending ≡ [] → (q : Pair) → IsFirstK k (Reach (passages setting) (pair source 0) q) (settled_at settled q)
  turn_end settled pending on none = state_end setting source k settled (subst (State setting source k settled) none on.state)

  pub turn_done : ((q : Pair) (m : Passage Pair) → Has (passages setting q) m → IsOnward m) → (target : Option Pair) (settled pending : List FoundWalk) → IsOn settled pending
      → IsDone target settled k → (q : Pair) → IsAsked target q → IsFirstK k (Reach (passages setting) (pair source 0) q) (settled_at settled q)
  turn_done costs None settled pending on done q asked = elim done [ ]
  turn_done costs (Some target) settled pending on done q asked =
      subst (λ (r : Pair). IsFirstK k (Reach (passages setting) (pair source 0) r) (settled_at settled r)) asked (state_full_at setting source k costs settled pending on.state target done)

  -- the extensions of a walk by some of its moves are passed by the run, and a move behind it
  followed_further : (settled : List FoundWalk) (c : FoundWalk) → IsFollowed setting source c
      → AllByRecursion (IsFollowed setting source) (extensions setting c (open_moves settled k (moves setting c.at.node c.at.state)))
  followed_further settled c h =
      let ms = moves setting c.at.node c.at.state in
      let some = open_moves settled k ms in
      all_of_has (IsFollowed setting source) (extensions setting c some)
      (λ x g.
      let from = Has_from_map (extended setting c) some x g in
      let among = Has_filtered (λ m. nat_lt (length (arrivals_at settled (target_of m))) k) ms from.0 from.1 in
      subst (IsFollowed setting source) from.2 (follows_push setting c.run (pair source 0) c.at c.steps c.cost from.0 h (contains_of ms from.0 among)))

  module _ (settled cs rest : List FoundWalk) (c : FoundWalk) (on : IsOn settled cs) (t : TakesLeast cs c rest) where
    pub turn_small : c.cost ≤ length settled * 2 ^ 64
    turn_small = all_has (λ (a : FoundWalk). a.cost ≤ length settled * 2 ^ 64) cs c on.small t.there

    -- those that are settled come no later
    pub turn_later : AreNoLater settled c
    turn_later x h = on.state.ordered x.at c.at (entry_of x) (entry_of c) (settled_has settled x h) (c, t.there, refl, refl)

    dropped : State setting source k settled rest → IsOn settled rest
    dropped state = record {
      state = state;
      small = all_rest (λ (a : FoundWalk). a.cost ≤ length settled * 2 ^ 64) cs rest c t on.small;
      low = on.low;
      found = on.found;
      due = all_rest (IsFollowed setting source) cs rest c t on.due;
      latest = on.latest;
    }

    pub turn_old : IsOld settled k c → IsOn settled rest
    turn_old (inl full) = dropped (state_full setting source k settled cs rest c on.state t full)
    turn_old (inr seen) = dropped (state_seen setting source k settled cs rest c on.state t seen)

    -- a walk that may be new is so
    pub turn_unseen : (plain : Bool) → (plain ≡ true → (q : Pair) (m : Passage Pair) → Has (passages setting q) m → IsCounted m) → IsUnknown plain settled c → IsSeen settled c → ⊥
    turn_unseen false each new seen = new seen
    turn_unseen true each (inl other) seen =
        let from = Has_from_map entry_of (arrivals_at settled c.at) seen.0 seen.1 in
        let among = Has_filtered (λ (a : FoundWalk). same_pair a.at c.at) settled from.0 from.1 in
        let cost = same_cost Pair (passages setting) (pair source 0) k (each refl) (settled_at settled) (IsPending cs) on.state c.at seen.0 (entry_of c) seen.1 (c, t.there, refl, refl) seen.2 in
        let is : entry_of from.0 ≡ entry_of c = from.2 ∙ entry_eq seen.0 (entry_of c) cost seen.2 in
        let last = last_there settled from.0 among in
        let first : NoLater from.0 last.0 = on.latest last.0 last.1 from.0 among in
        other (last.0, last.1, between (entry_of last.0) (entry_of c) (subst (λ (e : Entry). AtMost e (entry_of last.0)) is first) (turn_later last.0 (got_has settled (length settled - 1) last.0 last.1)))
    turn_unseen true each (inr new) seen = by (arrivals_at settled c.at) refl
      where
        by : (found : List FoundWalk) → arrivals_at settled c.at ≡ found → ⊥
        by [] e = subst (λ (l : List FoundWalk). Has (map entry_of l) seen.0) e seen.1
        by (x ∷ rest) e =
            let l = last_of x rest in
            let is : arrivals_at settled c.at ≡ l.0 ++ l.1 ∷ [] = e ∙ l.2 in
            last_alone Pair (passages setting) (pair source 0) k (each refl) (settled_at settled) (IsPending cs) on.state c.at (entry_of c) (c, t.there, refl, refl)
            (map entry_of l.0) (entry_of l.1) (ap (map entry_of) is ∙ map-append entry_of l.0 (l.1 ∷ [])) (new l.0 l.1 is) seen.0 seen.1 seen.2

    pub turn_settles : ((q : Pair) (m : Passage Pair) → Has (passages setting q) m → IsOnward m) → IsNew settled k c → length settled < 2 ^ 63
        → (after : List FoundWalk) → IsPermutation (rest ++ extensions setting c (open_moves (settled ++ c ∷ []) k (moves setting c.at.node c.at.state))) after
        → AllByRecursion (λ a. a.cost ≤ c.cost + 2 ^ 64) (extensions setting c (open_moves (settled ++ c ∷ []) k (moves setting c.at.node c.at.state)))
        → IsOn (settled ++ c ∷ []) after
    turn_settles costs new few after grown small =
        let next = extensions setting c (open_moves (settled ++ c ∷ []) k (moves setting c.at.node c.at.state)) in
        let most = length (settled ++ c ∷ []) * 2 ^ 64 in
        let least : length settled * 2 ^ 64 ≤ most = omega (arith, length-append settled (c ∷ [])) in
        let room_for : c.cost + 2 ^ 64 ≤ most = omega (arith, length-append settled (c ∷ []), turn_small) in
        let all = all_rest (λ (a : FoundWalk). a.cost ≤ length settled * 2 ^ 64) cs rest c t on.small in
        let low : c.cost < 2 ^ 127 = omega (arith, turn_small, few) in
        let is_followed = all_has (IsFollowed setting source) cs c on.due t.there in
        permuted (settled ++ c ∷ []) (rest ++ next) after grown (record {
          state = state_settle setting source k settled cs rest c on.state t costs new;
          small = AllByRecursion-append (λ (a : FoundWalk). a.cost ≤ most) rest next (costs_more (length settled * 2 ^ 64) most rest least all) (costs_more (c.cost + 2 ^ 64) most next room_for small);
          low = AllByRecursion-append (λ (a : FoundWalk). a.cost < 2 ^ 127) settled (c ∷ []) on.low (low, tt);
          found = AllByRecursion-append (IsFollowed setting source) settled (c ∷ []) on.found (is_followed, tt);
          due = AllByRecursion-append (IsFollowed setting source) rest next (all_rest (IsFollowed setting source) cs rest c t on.due) (followed_further (settled ++ c ∷ []) c is_followed);
          latest = λ y at.
              let one : c ≡ y = last_is settled c y at in
              subst (AreNoLater (settled ++ c ∷ [])) one (λ x h. elim (Has_pushed settled c x h) [ inl g ↦ turn_later x g | inr e ↦ Same (ap entry_of (sym e)) ]);
        })
