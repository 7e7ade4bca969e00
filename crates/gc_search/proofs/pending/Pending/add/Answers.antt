use Rattle.std.proofs.Common.{◌≡◌, List, [], ◌∷◌, ◌++◌, sym, ap, subst, ◌∙◌}
use Rattle.std.specs.List.Sorted.{IsPermutation}
use Rattle.std.proofs.lemmas.List.Sorted.{IsPermutation-sym, IsPermutation-trans, IsPermutation-middle, IsPermutation-append_left, IsPermutation-append_right, IsPermutation-to_front}
use Rattle.gc_search.specs.Groups.{all_of}
use Rattle.gc_search.specs.Links.{Link}
use Rattle.gc_search.specs.Waiting.{Queue, links_of, IsLed}
use Rattle.gc_search.proofs.WaitingLaws.{queue, led_front, led_later}
use Rattle.gc_search.proofs.pending.Pending.add.Goals as goal

pub returns-in_ok-push-clause-led : goal.returns-in_ok-push-clause-led
returns-in_ok-push-clause-led c = λ tree led behind.
    let q = queue c.self.inside.front.items (all_of c.self.inside.groups.entries) in
    let last = c.args.last.now in
    let a = c.args.next in
    let near : a.cost ≡ last.cost = ap (λ (v : Link). v.cost) (sym c.next.view_is) ∙ (c.if-next-last.true ∙ ap (λ (v : Link). v.cost) c.last.view_is) in
    subst (λ (l : List Link). IsLed tree last (queue l q.later)) (sym c.in_ok-push.ensures.items) (led_front tree last a q (subst (IsLed tree last) (sym c.self.view_is) led) behind near)

pub returns-in_ok-push-clause-added : goal.returns-in_ok-push-clause-added
returns-in_ok-push-clause-added c =
    let front = c.self.inside.front.items in
    let later = all_of c.self.inside.groups.entries in
    let a = c.args.next in
    let p = IsPermutation-append_left later (a ∷ front) (front ++ a ∷ []) (IsPermutation-sym (front ++ a ∷ []) (a ∷ front) (IsPermutation-to_front front a)) in
    subst (λ (q : Queue). IsPermutation (a ∷ links_of q) (c.push.new.self.items ++ later)) c.self.view_is
    (subst (λ (l : List Link). IsPermutation (a ∷ (front ++ later)) (l ++ later)) (sym c.in_ok-push.ensures.items) p)

pub returns-in_ok-put-clause-led : goal.returns-in_ok-put-clause-led
returns-in_ok-put-clause-led c = λ tree led behind.
    let q = queue c.self.inside.front.items (all_of c.self.inside.groups.entries) in
    let last = c.args.last.now in
    let a = c.args.next in
    let dear : a.cost ≡ last.cost → ⊥ = λ e. c.if-next-last.false (ap (λ (v : Link). v.cost) c.next.view_is ∙ (e ∙ ap (λ (v : Link). v.cost) (sym c.last.view_is))) in
    led_later tree last a q (subst (IsLed tree last) (sym c.self.view_is) led) behind (all_of c.put.new.groups.entries) dear c.in_ok-put.ensures.added

pub returns-in_ok-put-clause-added : goal.returns-in_ok-put-clause-added
returns-in_ok-put-clause-added c =
    let front = c.self.inside.front.items in
    let later = all_of c.self.inside.groups.entries in
    let after = all_of c.put.new.groups.entries in
    let a = c.args.next in
    subst (λ (q : Queue). IsPermutation (a ∷ links_of q) (front ++ after)) c.self.view_is
    (IsPermutation-trans (a ∷ (front ++ later)) (front ++ a ∷ later) (front ++ after)
    (IsPermutation-sym (front ++ a ∷ later) (a ∷ (front ++ later)) (IsPermutation-middle front a later))
    (IsPermutation-append_right front (a ∷ later) after c.in_ok-put.ensures.added))
