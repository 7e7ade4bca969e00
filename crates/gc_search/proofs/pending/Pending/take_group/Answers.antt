use Rattle.std.proofs.Common.{◌≡◌, ℕ, Global, Vec, List, [], length, sym, ap, subst, ◌∙◌, arith, rules}
use Rattle.std.specs.List.{filter}
use Rattle.std.specs.List.Sorted.{IsPermutation, IsSorted}
use Rattle.std.specs.Ordering.{is_lt}
use Rattle.std.proofs.lemmas.Fn.{always_returns_same, filter_same}
use Rattle.std.proofs.lemmas.List.Sorted.{IsPermutation-trans, ranks_by}
use Rattle.gc_search.specs.Groups.{all_of}
use Rattle.gc_search.specs.Links.{Link}
use Rattle.gc_search.specs.Places.{tree_of}
use Rattle.gc_search.specs.Waiting.{Queue, IsQueue}
use Rattle.gc_search.proofs.FrontLaws.{front_order, front_order_total, has_room}
use Rattle.gc_search.proofs.GroupLaws.{none_waiting}
use Rattle.gc_search.proofs.TakenLaws.{TakesGroup, group_taken}
use Rattle.gc_search.proofs.WaitingLaws.{queue}
use Rattle.gc_search.proofs.pending.Pending.take_group.Goals as goal

pub unreachable-requires : goal.unreachable-requires
unreachable-requires c =
    let none : length c.self.inside.groups.entries ≡ 0 = grind (arith, c.pop_first.ensures.variant, c.in_default.is) in
    c.requires.some (sym (ap (λ (v : Queue). v.later) c.self.view_is) ∙ none_waiting c.self.inside.groups.entries none)

pub returns : goal.returns
returns c =
    let tree = tree_of c.args.settled.now in
    let k = c.args.k in
    let order = front_order tree.setting tree.walks in
    let entries = c.self.inside.groups.entries in
    let rest = c.pop_first.new.self.entries in
    let first : (ℕ × ℕ) × Vec Link Global = (c.in-Some.field-0-0, c.in-Some.group) in
    let some = c.retain.new.self.items in
    let turned = c.reverse.new.self.items in
    let items = c.sort_by.new.self.items in
    let none : c.self.inside.front.items ≡ [] = ap (λ (v : Queue). v.front) c.self.view_is ∙ c.requires.none in
    let now : queue [] (all_of entries) ≡ c.args.self.now = sym (ap (λ (l : List Link). queue l (all_of entries)) none) ∙ c.self.view_is in
    let left : some ≡ filter (has_room tree.walks k) c.in-Some.group.items =
    filter_same _ (has_room tree.walks k) _ (λ x b f' h. search rules) c.in-Some.group.items some c.retain.ensures.filtered in
    let p : IsPermutation some items =
    IsPermutation-trans some turned items (subst (λ (l : List Link). IsPermutation l turned) c.shrink_to_fit.ensures.items c.reverse.ensures.permutation) c.sort_by.ensures.permutation in
    let sorted : IsSorted order items =
    c.in_ok-sort_by.ensures.sorted (λ x y. is_lt (order x y)) (ranks_by (front_order_total tree.setting tree.walks) (λ x. x))
    (always_returns_same _ _ _ (λ a r f called. search rules)) in
    let taken = subst (λ (v : Queue). TakesGroup tree k v (queue items (all_of rest))) now
    (group_taken tree k first rest some items left p sorted entries c.in-Some.ensures.removal (subst (IsQueue tree) (sym now) c.requires.queue) c.self.invariant c.in-Some.ensures.all_above) in
    record { sifted = taken.sifted; queue = taken.queue; fewer = taken.fewer }
