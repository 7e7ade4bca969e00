use Rattle.std.proofs.Common.{◌≡◌, List, [], ◌++◌, Option, Some, None, sym, ap, subst, ◌∙◌, arith}
use Rattle.std.specs.Option.{IfSome, IfNone, MatchOption, option_to_list}
use Rattle.gc_search.specs.Groups.{all_of}
use Rattle.gc_search.specs.Links.{Link, Walks}
use Rattle.gc_search.specs.Waiting.{Queue, links_of, IsQueue, IsFirstTaken}
use Rattle.gc_search.proofs.LoopLaws.{none_there}
use Rattle.gc_search.proofs.WaitingLaws.{queue, front_taken}
use Rattle.gc_search.proofs.pending.Pending.take_least.Goals as goal

taken : (later front rest : List Link) (o : Option Link) → front ≡ rest ++ option_to_list o
    → IfSome o (λ t. (tree : Walks) → IsQueue tree (queue front later) → IsFirstTaken tree (queue front later) t (queue rest later))
taken later front rest None e = tt
taken later front rest (Some t) e = λ tree q.
    subst (λ (l : List Link). IsFirstTaken tree (queue l later) t (queue rest later)) (sym e) (front_taken tree rest later t (subst (λ (l : List Link). IsQueue tree (queue l later)) e q))

none : (P : Type 0) (Q : Link → Type 0) (o : Option Link) (q : Queue) → MatchOption o P Q → (P → q.front ≡ []) → (q.front ≡ [] → q.later ≡ []) → IfNone o (links_of q ≡ [])
none P Q None q m empty last = let e = empty m in ap (λ (l : List Link). l ++ q.later) e ∙ last e
none P Q (Some t) q m empty last = tt

pub returns-clause-some : goal.returns-clause-some
returns-clause-some c =
    let later = all_of c.self.inside.groups.entries in
    let front = c.self.inside.front.items in
    let rest = c.pop.new.self.items in
    subst (λ (q : Queue). IfSome c.pop.result (λ t. (tree : Walks) → IsQueue tree q → IsFirstTaken tree q t (queue rest later))) c.self.view_is
    (taken later front rest c.pop.result c.pop.ensures.items)

pub returns-clause-none : goal.returns-clause-none
returns-clause-none c =
    let front = c.self.inside.front.items in
    let q = queue front (all_of c.self.inside.groups.entries) in
    subst (λ (v : Queue). IfNone c.pop.result (links_of v ≡ [])) c.self.view_is
    (none _ _ c.pop.result q c.pop.ensures.cases (λ h. none_there front (omega (arith, h.0, c.self.inside.front.ok)))
    (subst (λ (v : Queue). v.front ≡ [] → v.later ≡ []) (sym c.self.view_is) c.requires))
