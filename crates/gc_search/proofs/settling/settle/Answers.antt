use Rattle.std.proofs.Common.{◌≡◌, ◌+◌, ◌*◌, ◌^◌, ◌≤◌, ◌++◌, ◌∷◌, [], ap, sym, subst, ◌∙◌, arith, length, length-append, List, Some, true, sum_by}
use Rattle.std.specs.List.{AllByRecursion, slice_get}
use Rattle.std.specs.List.Sorted.{IsPermutation}
use Rattle.std.proofs.lemmas.List.{length-map}
use Rattle.std.proofs.lemmas.List.Sorted.{length_permutation}
use Rattle.std.proofs.lemmas.List.Sums.{sum_by-append}
use Rattle.gc_automata.specs.Moves.{IsThere}
use Rattle.gc_prod.specs.declared.moves.Pair.{Pair}
use Rattle.gc_prod.specs.Leading.{pair}
use Rattle.gc_prod.specs.Products.{Setting, moves}
use Rattle.gc_search.specs.Arrivals.{passages, settled_at, extended, open_moves, IsLowAt, IsNew}
use Rattle.gc_search.specs.Counting.{asked, degree, most_moves}
use Rattle.gc_search.specs.Links.{Link, starts_at}
use Rattle.gc_search.specs.Passages.{Has, Passage, IsOnward, IsCounted, Reach, IsFirstK}
use Rattle.gc_search.specs.Places.{Listing, tree_of}
use Rattle.gc_search.specs.Waiting.{links_of, told_by, walks_by, waiting, IsBehind, IsGrown}
use Rattle.gc_search.proofs.ReadyLaws.{IsReady, ready_start, ready_filled, ready_old, grown_by, taken_has_number, ready_settled, are_behind, led_on, next_got, low_there}
use Rattle.gc_search.proofs.Turns.{turn_end, turn_done, turn_small, turn_later, turn_unseen}
use Rattle.gc_search.proofs.WaitingLaws.{queue}
use Rattle.gc_search.proofs.WorkLaws.{asked_most, asked_more, open_fewer}
use Rattle.gc_search.proofs.settling.settle.Goals as goal

pub turns-init : goal.turns-init
turns-init g c =
    let p = c.args.p.now in
    let source = c.args.source in
    let k = c.args.k in
    let l = c.in_ok-settled.settled in
    let fresh = c.in_ok-settled.ensures in
    let there = subst (λ (s : Setting). IsThere s.network source) (sym fresh.setting) c.requires.source in
    let first : queue (starts_at source ∷ []) [] ≡ c.in_ok-pending.pending = sym (c.in_ok-pending.ensures ∙ ap (λ (a : Link). queue (a ∷ []) []) c.start.ensures) in
    record {
      same = fresh.setting;
      ready = subst (IsReady source k l) first (ready_start p source k l fresh there);
      none = c.new-more.ensures.items;
      few = omega arith;
    }

pub returns-in_default-clause-first : goal.returns-in_default-clause-first
returns-in_default-clause-first g c = λ p asked.
    let l = c.turns.settled in
    let inv = c.turns.invariant in
    let source = c.args.source in
    let k = c.args.k in
    let q = c.fill_front.new.self in
    let filled = c.in_ok-fill_front.ensures in
    let ready = ready_filled source k l c.turns.pending q inv.ready filled in
    let none : waiting (tree_of l) q ≡ [] = ap (λ (v : List Link). walks_by (tree_of l) v) c.in_default.ensures.none in
    subst (λ (s : Setting). IsFirstK k (Reach (passages s) (pair source 0) p) (settled_at l.walks p)) inv.same (turn_end l.setting source k l.walks (waiting (tree_of l) q) ready.on none p)

pub returns-clause-first : goal.returns-clause-first
returns-clause-first g c = λ p asked.
    let l = c.turns.settled in
    let inv = c.turns.invariant in
    let source = c.args.source in
    let k = c.args.k in
    let costs = subst (λ (s : Setting). (v : Pair) (m : Passage Pair) → Has (passages s v) m → IsOnward m) (sym inv.same) c.requires.costs in
    subst (λ (s : Setting). IsFirstK k (Reach (passages s) (pair source 0) p) (settled_at l.walks p)) inv.same
    (turn_done l.setting source k costs c.args.target l.walks (waiting (tree_of l) c.turns.pending) inv.ready.on (c.is_done.ensures c.turns-test.false) p asked)

pub returns-in_err-fill_front-clause-few : goal.returns-in_err-fill_front-clause-few
returns-in_err-fill_front-clause-few g c =
    let l = c.turns.settled in
    omega (arith, c.turns.invariant.few, asked_most l.setting c.args.k l.walks c.turns.invariant.ready.on.state.few, ap (λ (s : Setting). c.args.k * most_moves s) c.turns.invariant.same)

pub returns-in_default-clause-few : goal.returns-in_default-clause-few
returns-in_default-clause-few g c =
    let l = c.turns.settled in
    omega (arith, c.turns.invariant.few, asked_most l.setting c.args.k l.walks c.turns.invariant.ready.on.state.few, ap (λ (s : Setting). c.args.k * most_moves s) c.turns.invariant.same)

pub returns-in_err-push-clause-few : goal.returns-in_err-push-clause-few
returns-in_err-push-clause-few g c =
    let l = c.turns.settled in
    omega (arith, c.turns.invariant.few, asked_most l.setting c.args.k l.walks c.turns.invariant.ready.on.state.few, ap (λ (s : Setting). c.args.k * most_moves s) c.turns.invariant.same)

pub returns-clause-few : goal.returns-clause-few
returns-clause-few g c =
    let l = c.turns.settled in
    omega (arith, c.turns.invariant.few, asked_most l.setting c.args.k l.walks c.turns.invariant.ready.on.state.few, ap (λ (s : Setting). c.args.k * most_moves s) c.turns.invariant.same)

pub returns-in_err-add_all_extended-clause-few : goal.returns-in_err-add_all_extended-clause-few
returns-in_err-add_all_extended-clause-few g c =
    let l = c.turns.settled in
    let inv = c.turns.invariant in
    let k = c.args.k in
    let w = told_by (tree_of l) c.in-Some.next in
    let is : c.push.new.self ≡ grown_by l w = c.in_ok-push.ensures in
    let place : length l.walks ≡ c.count-place.result = omega (arith, c.count-place.ensures.exact, ap (λ (s : Listing). length s.walks) c.settled-in-turns.view_is) in
    let there = subst (λ (s : Listing). slice_get s.walks c.count-place.result ≡ Some w) (sym is) (subst (λ n. slice_get (l.walks ++ w ∷ []) n ≡ Some w) place (next_got l.walks w)) in
    let steps = subst (λ (s : Listing). c.add_all_extended.new.steps ≤ c.turns.steps + degree s.setting w) is (c.add_all_extended.ensures.few w there) in
    omega (arith, inv.few, steps, asked_more l.setting k l.walks inv.ready.on.state.few w c.if-is_new.ensures.told.0, ap (λ (s : Setting). k * most_moves s) inv.same)

pub returns-in_err-add_all-clause-few : goal.returns-in_err-add_all-clause-few
returns-in_err-add_all-clause-few g c =
    let l = c.turns.settled in
    let inv = c.turns.invariant in
    let k = c.args.k in
    let w = told_by (tree_of l) c.in-Some.next in
    let is : c.push.new.self ≡ grown_by l w = c.in_ok-push.ensures in
    let place : length l.walks ≡ c.count-place.result = omega (arith, c.count-place.ensures.exact, ap (λ (s : Listing). length s.walks) c.settled-in-turns.view_is) in
    let there = subst (λ (s : Listing). slice_get s.walks c.count-place.result ≡ Some w) (sym is) (subst (λ n. slice_get (l.walks ++ w ∷ []) n ≡ Some w) place (next_got l.walks w)) in
    let steps = subst (λ (s : Listing). c.add_all_extended.new.steps ≤ c.turns.steps + degree s.setting w) is (c.add_all_extended.ensures.few w there) in
    omega (arith, inv.few, steps, asked_more l.setting k l.walks inv.ready.on.state.few w c.if-is_new.ensures.told.0, ap (λ (s : Setting). k * most_moves s) inv.same)

pub push-requires-clause-number : goal.push-requires-clause-number
push-requires-clause-number g c =
    let l = c.turns.settled in
    let inv = c.turns.invariant in
    let source = c.args.source in
    let k = c.args.k in
    let q = c.fill_front.new.self in
    let filled = c.in_ok-fill_front.ensures in
    let ready = ready_filled source k l c.turns.pending q inv.ready filled in
    let r = c.take_least.new.self in
    let t = c.in-Some.next in
    let first = c.in-Some.ensures.some (tree_of l) ready.queue in
    let w = told_by (tree_of l) t in
    taken_has_number source k l q r t ready first

pub push-requires-clause-later : goal.push-requires-clause-later
push-requires-clause-later g c =
    let l = c.turns.settled in
    let inv = c.turns.invariant in
    let source = c.args.source in
    let k = c.args.k in
    let q = c.fill_front.new.self in
    let filled = c.in_ok-fill_front.ensures in
    let ready = ready_filled source k l c.turns.pending q inv.ready filled in
    let r = c.take_least.new.self in
    let t = c.in-Some.next in
    let first = c.in-Some.ensures.some (tree_of l) ready.queue in
    turn_later l.setting source k l.walks (waiting (tree_of l) q) (waiting (tree_of l) r) (told_by (tree_of l) t) ready.on first.takes

pub add_all_extended-requires-clause-low : goal.add_all_extended-requires-clause-low
add_all_extended-requires-clause-low g c =
    let l = c.turns.settled in
    let inv = c.turns.invariant in
    let source = c.args.source in
    let k = c.args.k in
    let q = c.fill_front.new.self in
    let filled = c.in_ok-fill_front.ensures in
    let ready = ready_filled source k l c.turns.pending q inv.ready filled in
    let r = c.take_least.new.self in
    let t = c.in-Some.next in
    let first = c.in-Some.ensures.some (tree_of l) ready.queue in
    let w = told_by (tree_of l) t in
    let is : c.push.new.self ≡ grown_by l w = c.in_ok-push.ensures in
    let place : length l.walks ≡ c.count-place.result = omega (arith, c.count-place.ensures.exact, ap (λ (s : Listing). length s.walks) c.settled-in-turns.view_is) in
    let small = turn_small l.setting source k l.walks (waiting (tree_of l) q) (waiting (tree_of l) r) w ready.on first.takes in
    let low : w.cost + 2 ^ 64 ≤ 2 ^ 128 = omega (arith, small, c.is_new.ensures.few) in
    subst (λ (s : Listing). IsLowAt s.walks c.count-place.result) (sym is) (subst (IsLowAt (l.walks ++ w ∷ [])) place (low_there l.walks w low))

-- the least walk is dropped
pub turns-preserved : goal.turns-preserved
turns-preserved g c =
    let l = c.turns.settled in
    let inv = c.turns.invariant in
    let source = c.args.source in
    let k = c.args.k in
    let q = c.fill_front.new.self in
    let filled = c.in_ok-fill_front.ensures in
    let ready = ready_filled source k l c.turns.pending q inv.ready filled in
    let r = c.take_least.new.self in
    let t = c.in-Some.next in
    let first = c.in-Some.ensures.some (tree_of l) ready.queue in
    let w = told_by (tree_of l) t in
    record { same = inv.same; ready = ready_old source k l q r t ready first c.if-is_new.ensures.told; none = inv.none; few = inv.few }

pub turns-smaller : goal.turns-smaller
turns-smaller g c =
    let l = c.turns.settled in
    let inv = c.turns.invariant in
    let source = c.args.source in
    let k = c.args.k in
    let q = c.fill_front.new.self in
    let filled = c.in_ok-fill_front.ensures in
    let ready = ready_filled source k l c.turns.pending q inv.ready filled in
    let r = c.take_least.new.self in
    let t = c.in-Some.next in
    let first = c.in-Some.ensures.some (tree_of l) ready.queue in
    let w = told_by (tree_of l) t in
    omega (
      arith,
      filled.sifted.fewer,
      first.takes.shorter,
      length-map (links_of q) (told_by (tree_of l)),
      length-map (links_of r) (told_by (tree_of l)),
    )

-- the least walk is settled
pub turns-preserved-then-is_new : goal.turns-preserved-then-is_new
turns-preserved-then-is_new g c =
    let l = c.turns.settled in
    let inv = c.turns.invariant in
    let source = c.args.source in
    let k = c.args.k in
    let q = c.fill_front.new.self in
    let filled = c.in_ok-fill_front.ensures in
    let ready = ready_filled source k l c.turns.pending q inv.ready filled in
    let r = c.take_least.new.self in
    let t = c.in-Some.next in
    let first = c.in-Some.ensures.some (tree_of l) ready.queue in
    let w = told_by (tree_of l) t in
    let is : c.push.new.self ≡ grown_by l w = c.in_ok-push.ensures in
    let place : length l.walks ≡ c.count-place.result = omega (arith, c.count-place.ensures.exact, ap (λ (s : Listing). length s.walks) c.settled-in-turns.view_is) in
    let there = subst (λ (s : Listing). slice_get s.walks c.count-place.result ≡ Some w) (sym is) (subst (λ n. slice_get (l.walks ++ w ∷ []) n ≡ Some w) place (next_got l.walks w)) in
    let costs = subst (λ (s : Setting). (v : Pair) (m : Passage Pair) → Has (passages s v) m → IsOnward m) (sym inv.same) c.requires.costs in
    let plain = subst (λ (s : Setting). c.args.plain ≡ true → (v : Pair) (m : Passage Pair) → Has (passages s v) m → IsCounted m) (sym inv.same) c.requires.plain in
    let told = c.if-is_new.ensures.told in
    let fresh : IsNew l.walks k w = (told.0, turn_unseen l.setting source k l.walks (waiting (tree_of l) q) (waiting (tree_of l) r) w ready.on first.takes c.args.plain plain told.1) in
    let more = c.add_all_extended.new.more.items in
    let ms = moves l.setting w.at.node w.at.state in
    let grows = subst (λ (v : List Link). IsGrown (tree_of (grown_by l w)) k w ms v more) inv.none
    (subst (λ (s : Listing). IsGrown (tree_of s) k w (moves s.setting w.at.node w.at.state) c.turns.more.items more) is (c.in_ok-add_all_extended.ensures.grown w there)) in
    let few = c.is_new.ensures.few in
    let s = c.add_all.new.self in
    let added : IsPermutation (links_of r ++ more) (links_of s) = subst (λ (v : List Link). IsPermutation (links_of r ++ v) (links_of s)) c.deref.ensures.value c.in_ok-add_all.ensures.added in
    let led = c.in_ok-add_all.ensures.led (tree_of (grown_by l w)) (led_on source k l q r t ready first costs fresh few more grows) (subst (AllByRecursion (IsBehind (tree_of (grown_by l w)) t)) (sym c.deref.ensures.value) (are_behind source k l q r t ready first costs fresh few more grows)) in
    let steps = subst (λ (v : Listing). c.add_all_extended.new.steps ≤ c.turns.steps + degree v.setting w) is (c.add_all_extended.ensures.few w there) in
    let one : asked c.push.new.self.setting c.push.new.self.walks ≡ asked l.setting l.walks + sum_by (degree l.setting) (w ∷ []) =
    ap (λ (v : Listing). asked v.setting v.walks) is ∙ sum_by-append (degree l.setting) l.walks (w ∷ []) in
    let single : sum_by (degree l.setting) (w ∷ []) ≡ degree l.setting w = omega arith in
    record {
      same = ap (λ (v : Listing). v.setting) is ∙ inv.same;
      ready = subst (λ (v : Listing). IsReady source k v s) (sym is) (ready_settled source k l q r t ready first costs fresh few more grows s added led);
      none = c.clear.ensures.items;
      few = omega (arith, inv.few, steps, one, single);
    }

pub turns-smaller-then-is_new : goal.turns-smaller-then-is_new
turns-smaller-then-is_new g c =
    let l = c.turns.settled in
    let inv = c.turns.invariant in
    let source = c.args.source in
    let k = c.args.k in
    let q = c.fill_front.new.self in
    let filled = c.in_ok-fill_front.ensures in
    let ready = ready_filled source k l c.turns.pending q inv.ready filled in
    let r = c.take_least.new.self in
    let t = c.in-Some.next in
    let first = c.in-Some.ensures.some (tree_of l) ready.queue in
    let w = told_by (tree_of l) t in
    let is : c.push.new.self ≡ grown_by l w = c.in_ok-push.ensures in
    let place : length l.walks ≡ c.count-place.result = omega (arith, c.count-place.ensures.exact, ap (λ (s : Listing). length s.walks) c.settled-in-turns.view_is) in
    let there = subst (λ (s : Listing). slice_get s.walks c.count-place.result ≡ Some w) (sym is) (subst (λ n. slice_get (l.walks ++ w ∷ []) n ≡ Some w) place (next_got l.walks w)) in
    let costs = subst (λ (s : Setting). (v : Pair) (m : Passage Pair) → Has (passages s v) m → IsOnward m) (sym inv.same) c.requires.costs in
    let plain = subst (λ (s : Setting). c.args.plain ≡ true → (v : Pair) (m : Passage Pair) → Has (passages s v) m → IsCounted m) (sym inv.same) c.requires.plain in
    let told = c.if-is_new.ensures.told in
    let fresh : IsNew l.walks k w = (told.0, turn_unseen l.setting source k l.walks (waiting (tree_of l) q) (waiting (tree_of l) r) w ready.on first.takes c.args.plain plain told.1) in
    let more = c.add_all_extended.new.more.items in
    let ms = moves l.setting w.at.node w.at.state in
    let grows = subst (λ (v : List Link). IsGrown (tree_of (grown_by l w)) k w ms v more) inv.none
    (subst (λ (s : Listing). IsGrown (tree_of s) k w (moves s.setting w.at.node w.at.state) c.turns.more.items more) is (c.in_ok-add_all_extended.ensures.grown w there)) in
    let s = c.add_all.new.self in
    let one : asked c.push.new.self.setting c.push.new.self.walks ≡ asked l.setting l.walks + sum_by (degree l.setting) (w ∷ []) =
    ap (λ (v : Listing). asked v.setting v.walks) is ∙ sum_by-append (degree l.setting) l.walks (w ∷ []) in
    let most : k * most_moves c.push.new.self.setting ≡ k * most_moves l.setting = ap (λ (v : Listing). k * most_moves v.setting) is in
    let single : sum_by (degree l.setting) (w ∷ []) ≡ length ms = omega arith in
    let some = open_moves (grown_by l w).walks k ms in
    let count : length more ≡ length some =
    sym (length-map more (told_by (tree_of (grown_by l w)))) ∙ (ap length grows.exact ∙ length-map some (extended l.setting w)) in
    let added : IsPermutation (links_of r ++ more) (links_of s) = subst (λ (v : List Link). IsPermutation (links_of r ++ v) (links_of s)) c.deref.ensures.value c.in_ok-add_all.ensures.added in
    let larger : length (links_of s) ≡ length (links_of r) + length more =
    length_permutation (links_of r ++ more) (links_of s) added ∙ length-append (links_of r) more in
    omega (
      arith,
      one,
      most,
      single,
      count,
      larger,
      open_fewer (grown_by l w).walks k ms,
      filled.sifted.fewer,
      first.takes.shorter,
      length-map (links_of q) (told_by (tree_of l)),
      length-map (links_of r) (told_by (tree_of l)),
      asked_more l.setting k l.walks inv.ready.on.state.few w told.0,
    )
