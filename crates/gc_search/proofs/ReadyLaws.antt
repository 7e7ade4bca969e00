-- What holds before each turn of the search: of the walks that are settled, and of the links that are pending.
use Rattle.std.proofs.Common.{◌≡◌, ℕ, ◌+◌, ◌^◌, ◌<◌, ◌≤◌, List, [], ◌∷◌, ◌++◌, ◌⊎◌, inl, inr, length, Some, refl, sym, ap, subst, ◌∙◌, arith}
use Rattle.std.specs.List.{AllByRecursion, slice_get}
use Rattle.std.specs.List.Sorted.{IsPermutation}
use Rattle.std.proofs.lemmas.List.{map-append}
use Rattle.std.proofs.lemmas.List.Sorted.{IsPermutation-map}
use Rattle.gc_spec.specs.PropertyGraph.{is_among}
use Rattle.gc_automata.specs.Moves.{IsThere}
use Rattle.gc_prod.specs.declared.moves.Pair.{Pair}
use Rattle.gc_prod.specs.Products.{Setting, moves}
use Rattle.gc_search.specs.Arrivals.{FoundWalk, stays_at, arrivals_at, passages, extensions, open_moves, IsLowAt, IsNew, IsOld, NoLater}
use Rattle.gc_search.specs.Links.{Link, Walks, starts_at, IsTold}
use Rattle.gc_search.specs.Passages.{Has, Passage, IsOnward}
use Rattle.gc_search.specs.Places.{Listing, IsFresh, IsNumbered, tree_of}
use Rattle.gc_search.specs.Waiting.{Queue, links_of, told_by, walks_by, waiting, AllTold, Falls, IsQueue, IsLed, IsFirstTaken, IsFilled, IsBehind, IsGrown}
use Rattle.gc_search.proofs.Flat.{Has_later, Has_map, Has_from_map}
use Rattle.gc_search.proofs.LoopLaws.{all_has, all_of_has}
use Rattle.gc_search.proofs.NumberLaws.{LeadNumbered, AreNumbered, leads_numbered, taken_numbered, rest_numbered, more_numbered}
use Rattle.gc_search.proofs.Settle.{Has_front}
use Rattle.gc_search.proofs.TreeLaws.{walk_kept, told_kept}
use Rattle.gc_search.proofs.Turns.{IsOn, on_less, turn_start, turn_old, turn_settles}
use Rattle.gc_search.proofs.WaitingLaws.{queue, behind_all}

pub record IsReady (source k : ℕ) (l : Listing) (q : Queue) : Type 0 where
  pub on : IsOn l.setting source k l.walks (waiting (tree_of l) q)
  pub queue : IsQueue (tree_of l) q
  pub lead : LeadNumbered l.setting l.nodes l.width
  pub numbered : AreNumbered l.nodes l.width (waiting (tree_of l) q)

only_level : (a x y : Link) → Has (a ∷ []) x → Has (a ∷ []) y → x.cost ≡ y.cost
only_level a x y (inl e) (inl f) = ap (λ (v : Link). v.cost) (sym e ∙ f)
only_level a x y (inl e) (inr g) = elim g [ ]
only_level a x y (inr g) h = elim g [ ]

pub ready_start : (product : Setting) (source k : ℕ) (l : Listing) → IsFresh product l → IsThere l.setting.network source → IsReady source k l (queue (starts_at source ∷ []) [])
ready_start product source k l fresh there = record {
  on = subst (λ (w : List FoundWalk). IsOn l.setting source k w (stays_at source ∷ [])) (sym fresh.walks) (turn_start l.setting source k (stays_at source ∷ []) refl);
  queue = record { told = (record { before = omega arith; edges = refl }, tt); falls = (λ y h. elim h [ ], λ y h. elim h [ ], tt); level = only_level (starts_at source) };
  lead = leads_numbered l.setting l.nodes l.width fresh.network fresh.nodes fresh.above;
  numbered = (record { node = ap (λ ids. is_among ids source) fresh.nodes ∙ there; state = fresh.states }, tt);
}

pub ready_filled : (source k : ℕ) (l : Listing) (q r : Queue) → IsReady source k l q → IsFilled (tree_of l) k q r → IsReady source k l r
ready_filled source k l q r ready filled =
    let tree = tree_of l in
    let there : (x : FoundWalk) → Has (waiting tree q) x → Has (waiting tree r) x ⊎ (k ≤ length (arrivals_at l.walks x.at)) = λ x h.
    let from = Has_from_map (told_by tree) (links_of q) x h in
    elim (filled.sifted.kept from.0 from.1) [
      | inl g ↦ inl (subst (Has (waiting tree r)) from.2 (Has_map (told_by tree) (links_of r) from.0 g))
      | inr full ↦ inr (subst (λ (a : FoundWalk). k ≤ length (arrivals_at l.walks a.at)) from.2 full)
    ] in
    let back : (x : FoundWalk) → Has (waiting tree r) x → Has (waiting tree q) x = λ x h.
    let from = Has_from_map (told_by tree) (links_of r) x h in
    subst (Has (waiting tree q)) from.2 (Has_map (told_by tree) (links_of q) from.0 (filled.sifted.from from.0 from.1)) in
    record {
      on = on_less l.setting source k l.walks (waiting tree q) (waiting tree r) there back ready.on;
      queue = filled.queue;
      lead = ready.lead;
      numbered = all_of_has (λ (a : FoundWalk). IsNumbered l.nodes l.width a.at) (waiting tree r)
          (λ x h. all_has (λ (a : FoundWalk). IsNumbered l.nodes l.width a.at) (waiting tree q) x ready.numbered (back x h));
    }

pub ready_old : (source k : ℕ) (l : Listing) (q r : Queue) (t : Link) → IsReady source k l q → IsFirstTaken (tree_of l) q t r → IsOld l.walks k (told_by (tree_of l) t) → IsReady source k l r
ready_old source k l q r t ready first old = record {
  on = turn_old l.setting source k l.walks (waiting (tree_of l) q) (waiting (tree_of l) r) (told_by (tree_of l) t) ready.on first.takes old;
  queue = first.led.queue;
  lead = ready.lead;
  numbered = rest_numbered l.nodes l.width (waiting (tree_of l) q) (waiting (tree_of l) r) (told_by (tree_of l) t) first.takes ready.numbered;
}

-- one more walk is settled
abbrev pub grown_by : Listing → FoundWalk → Listing
grown_by l a = record { setting = l.setting; nodes = l.nodes; width = l.width; walks = l.walks ++ a ∷ [] }

module _ (l : Listing) (a : FoundWalk) where
  abbrev before : Walks
  before = tree_of l

  abbrev after : Walks
  after = tree_of (grown_by l a)

  one_kept : (x : Link) → IsTold l.setting l.walks x → told_by after x ≡ told_by before x
  one_kept x told = walk_kept l.setting l.walks (a ∷ []) x told.before

  walks_kept : (links : List Link) → AllTold before links → walks_by after links ≡ walks_by before links
  walks_kept [] told = refl
  walks_kept (x ∷ links) told = ap (λ v. v ∷ walks_by after links) (one_kept x told.0) ∙ ap (λ v. told_by before x ∷ v) (walks_kept links told.1)

  led_kept : (t : Link) (q : Queue) → IsTold l.setting l.walks t → IsLed before t q → IsLed after t q
  led_kept t q told led =
      let all = led.queue.told in
      let front = walks_kept q.front (all_of_has (IsTold l.setting l.walks) q.front (λ x h. all_has (IsTold l.setting l.walks) (links_of q) x all (Has_front q.front q.later x h))) in
      let later = walks_kept q.later (all_of_has (IsTold l.setting l.walks) q.later (λ x h. all_has (IsTold l.setting l.walks) (links_of q) x all (Has_later q.front q.later x h))) in
      record {
        queue = record {
          told = all_of_has (IsTold after.setting after.walks) (links_of q) (λ x h. told_kept l.setting l.walks (a ∷ []) x (all_has (IsTold l.setting l.walks) (links_of q) x all h));
          falls = subst (λ v. Falls v (walks_by after q.front)) (sym later) (subst (Falls (walks_by before q.later)) (sym front) led.queue.falls);
          level = led.queue.level;
        };
        level = led.level;
        all = λ y h.
            subst (λ (v : FoundWalk). NoLater v y) (sym (one_kept t told)) (led.all y (subst (λ (v : List FoundWalk). Has v y) (walks_kept (links_of q) all) h));
      }

costs_of : (tree : Walks) (n : ℕ) (links : List Link) → AllByRecursion (λ x. x.cost ≤ n) links → AllByRecursion (λ x. x.cost ≤ n) (walks_by tree links)
costs_of tree n [] h = tt
costs_of tree n (x ∷ links) h = (h.0, costs_of tree n links h.1)

module _ (source k : ℕ) (l : Listing) (q r : Queue) (t : Link) (ready : IsReady source k l q) (first : IsFirstTaken (tree_of l) q t r) where
  abbrev walk : FoundWalk
  walk = told_by (tree_of l) t

  pub taken_has_number : IsNumbered l.nodes l.width t.at
  taken_has_number = taken_numbered l.nodes l.width (waiting (tree_of l) q) (waiting (tree_of l) r) walk first.takes ready.numbered

  abbrev grown : Listing
  grown = grown_by l walk

  -- the walk that was taken is settled, and its extensions are pending
  module _ (costs : (p : Pair) (m : Passage Pair) → Has (passages l.setting p) m → IsOnward m) (new : IsNew l.walks k walk) (few : length l.walks < 2 ^ 63) (more : List Link)
      (grows : IsGrown (tree_of grown) k walk (moves l.setting walk.at.node walk.at.state) [] more) where
    abbrev next : List FoundWalk
    next = extensions l.setting walk (open_moves grown.walks k (moves l.setting walk.at.node walk.at.state))

    pub are_behind : AllByRecursion (IsBehind (tree_of grown) t) more
    are_behind = behind_all l.setting costs walk (tree_of grown) t more k grown.walks (one_kept l walk t first.told) (grows.told tt) grows.exact

    pub led_on : IsLed (tree_of grown) t r
    led_on = led_kept l walk t r first.told first.led

    pub ready_settled : (s : Queue) → IsPermutation (links_of r ++ more) (links_of s) → IsLed (tree_of grown) t s → IsReady source k grown s
    ready_settled s p led =
        let tree = tree_of grown in
        let mapped : IsPermutation (walks_by tree (links_of r ++ more)) (waiting tree s) = IsPermutation-map (told_by tree) (links_of r ++ more) (links_of s) p in
        let same : walks_by tree (links_of r ++ more) ≡ waiting (tree_of l) r ++ next =
        map-append (told_by tree) (links_of r) more
        ∙ (ap (λ v. v ++ walks_by tree more) (walks_kept l walk (links_of r) first.led.queue.told) ∙ ap (λ v. waiting (tree_of l) r ++ v) grows.exact) in
        let whole : IsPermutation (waiting (tree_of l) r ++ next) (waiting tree s) = subst (λ (v : List FoundWalk). IsPermutation v (waiting tree s)) same mapped in
        let small : AllByRecursion (λ a. a.cost ≤ walk.cost + 2 ^ 64) next =
        subst (AllByRecursion (λ (a : FoundWalk). a.cost ≤ walk.cost + 2 ^ 64)) grows.exact (costs_of tree (walk.cost + 2 ^ 64) more (grows.small tt)) in
        record {
          on = turn_settles l.setting source k l.walks (waiting (tree_of l) q) (waiting (tree_of l) r) walk ready.on first.takes costs new few (waiting tree s) whole small;
          queue = led.queue;
          lead = ready.lead;
          numbered = more_numbered l.nodes l.width (waiting (tree_of l) q) (waiting (tree_of l) r) walk first.takes ready.numbered l.setting ready.lead grown.walks k (waiting tree s) whole;
        }

-- the walk that was settled last
next_there : (walks : List FoundWalk) (w a : FoundWalk) → slice_get (walks ++ w ∷ []) (length walks) ≡ Some a → w ≡ a
next_there [] w a h = cc
next_there (x ∷ walks) w a h = next_there walks w a h

pub next_got : (walks : List FoundWalk) (w : FoundWalk) → slice_get (walks ++ w ∷ []) (length walks) ≡ Some w
next_got [] w = refl
next_got (x ∷ walks) w = next_got walks w

pub low_there : (walks : List FoundWalk) (w : FoundWalk) → w.cost + 2 ^ 64 ≤ 2 ^ 128 → IsLowAt (walks ++ w ∷ []) (length walks)
low_there walks w low a h = subst (λ (v : FoundWalk). v.cost + 2 ^ 64 ≤ 2 ^ 128) (next_there walks w a h) low
