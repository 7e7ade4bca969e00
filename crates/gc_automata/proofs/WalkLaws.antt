-- Walks that are joined.
use Rattle.std.proofs.Common.{◌≡◌, ℕ, ◌+◌, List, [], ◌∷◌, ◌++◌, refl, sym, ap, subst, ◌∙◌, append_assoc}
use Rattle.std.proofs.lemmas.List.{append-nil}
use Rattle.gc_base.specs.Walks.{end_of, end_of_steps}
use Rattle.gc_base.specs.declared.walk.Step.{Step}
use Rattle.gc_base.specs.declared.walk.Walk.{Walk}
use Rattle.gc_automata.specs.Moves.{joined}

end_of_both : (node : ℕ) (xs ys : List Step) → end_of_steps node (xs ++ ys) ≡ end_of_steps (end_of_steps node xs) ys
end_of_both node [] ys = refl
end_of_both node (x ∷ xs) ys = end_of_both x.node xs ys

-- a walk of two parts ends where the second does
pub end_joined : (first second : Walk) → end_of first ≡ second.start → end_of (joined first second) ≡ end_of second
end_joined first second meets = end_of_both first.start first.steps second.steps ∙ ap (λ node. end_of_steps node second.steps) meets

pub joined_assoc : (a b c : Walk) → joined (joined a b) c ≡ joined a (joined b c)
joined_assoc a b c = λ i. record { start = a.start; steps = append_assoc a.steps b.steps c.steps i }

-- a part that stays adds nothing
pub still_first : (first second : Walk) → first.steps ≡ [] → end_of first ≡ second.start → joined first second ≡ second
still_first first second still meets =
    let start : first.start ≡ second.start = sym (ap (end_of_steps first.start) still) ∙ meets in
    λ i. record { start = start i; steps = ap (λ steps. steps ++ second.steps) still i }

pub still_second : (first second : Walk) → second.steps ≡ [] → joined first second ≡ first
still_second first second still = λ i. record { start = first.start; steps = (ap (λ steps. first.steps ++ steps) still ∙ append-nil first.steps) i }

-- a walk that stays ends where it starts
pub still_end : (w : Walk) → w.steps ≡ [] → end_of w ≡ w.start
still_end w still = ap (end_of_steps w.start) still
