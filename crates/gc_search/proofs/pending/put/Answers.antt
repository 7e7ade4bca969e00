use Rattle.std.proofs.Common.{◌≡◌, ℕ, Global, Vec, List, ◌∷◌, ◌++◌, [], sym, subst, ap, ◌∙◌}
use Rattle.std.specs.BTreeMap.{BTreeMap, insert_entry}
use Rattle.std.specs.List.Sorted.{IsPermutation}
use Rattle.gc_search.specs.Groups.{all_of, key_of, key_order, AreGroups}
use Rattle.gc_search.specs.Links.{Link}
use Rattle.gc_search.proofs.GroupLaws.{one_more, group_same, group_more, still_groups, new_group, groups_more}
use Rattle.gc_search.proofs.pending.put.Goals as goal

pub returns-in_err-push-in-Some-clause-groups : goal.returns-in_err-push-in-Some-clause-groups
returns-in_err-push-in-Some-clause-groups c =
    let key : ℕ × ℕ = (c.next.inside.cost, c.next.inside.edges) in
    let v = c.in-Some.group.now in
    let w = c.push.new.self in
    subst AreGroups (sym (c.get_mut.follows.holds w).0) (still_groups key v w (group_same key v w c.in_err-push-in-Some.ensures.items) c.args.groups.now.entries c.in-Some.ensures.value c.requires)

pub returns-in_ok-push-in-Some-clause-groups : goal.returns-in_ok-push-in-Some-clause-groups
returns-in_ok-push-in-Some-clause-groups c =
    let key : ℕ × ℕ = (c.next.inside.cost, c.next.inside.edges) in
    let v = c.in-Some.group.now in
    let w = c.push.new.self in
    let a = c.args.next in
    subst AreGroups (sym (c.get_mut.follows.holds w).0)
    (still_groups key v w (group_more key v w a (ap key_of (sym c.next.view_is)) c.in_ok-push-in-Some.ensures.items) c.args.groups.now.entries c.in-Some.ensures.value c.requires)

pub returns-in_ok-push-in-Some-clause-added : goal.returns-in_ok-push-in-Some-clause-added
returns-in_ok-push-in-Some-clause-added c =
    let key : ℕ × ℕ = (c.next.inside.cost, c.next.inside.edges) in
    let v = c.in-Some.group.now in
    let w = c.push.new.self in
    let a = c.args.next in
    subst (λ es. IsPermutation (a ∷ all_of c.args.groups.now.entries) (all_of es)) (sym (c.get_mut.follows.holds w).0)
    (one_more key v w a c.in_ok-push-in-Some.ensures.items c.args.groups.now.entries c.in-Some.ensures.value)

pub returns-in_ok-insert-in-None-clause-groups : goal.returns-in_ok-insert-in-None-clause-groups
returns-in_ok-insert-in-None-clause-groups c =
    let key : ℕ × ℕ = (c.next.inside.cost, c.next.inside.edges) in
    let v = c.push-in-None.new.self in
    let a = c.args.next in
    let one : v.items ≡ a ∷ [] = c.in_ok-push-in-None.ensures.items ∙ ap (λ (l : List Link). l ++ a ∷ []) c.new-group.ensures.items in
    let is : c.insert.new.self.entries ≡ insert_entry key_order c.args.groups.now.entries key v =
    c.in_ok-insert-in-None.ensures.entries ∙ ap (λ (m : BTreeMap (ℕ × ℕ) (Vec Link Global)). insert_entry key_order m.entries key v) c.get_mut.follows.holds-at-none in
    subst AreGroups (sym is) (groups_more key a v one (ap key_of (sym c.next.view_is)) c.args.groups.now.entries c.in-None.ensures.value c.requires)

pub returns-in_ok-insert-in-None-clause-added : goal.returns-in_ok-insert-in-None-clause-added
returns-in_ok-insert-in-None-clause-added c =
    let key : ℕ × ℕ = (c.next.inside.cost, c.next.inside.edges) in
    let v = c.push-in-None.new.self in
    let a = c.args.next in
    let one : v.items ≡ a ∷ [] = c.in_ok-push-in-None.ensures.items ∙ ap (λ (l : List Link). l ++ a ∷ []) c.new-group.ensures.items in
    let is : c.insert.new.self.entries ≡ insert_entry key_order c.args.groups.now.entries key v =
    c.in_ok-insert-in-None.ensures.entries ∙ ap (λ (m : BTreeMap (ℕ × ℕ) (Vec Link Global)). insert_entry key_order m.entries key v) c.get_mut.follows.holds-at-none in
    subst (λ es. IsPermutation (a ∷ all_of c.args.groups.now.entries) (all_of es)) (sym is) (new_group key a v one c.args.groups.now.entries c.in-None.ensures.value)
