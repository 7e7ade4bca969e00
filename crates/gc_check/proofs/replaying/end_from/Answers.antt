use Rattle.std.proofs.Common.{◌≡◌, ℕ, suc, ◌-◌, List, [], ◌∷◌, length, Some, arith, ap, subst, slice_get, sym}
use Rattle.gc_base.specs.Walks.{end_of_steps}
use Rattle.gc_base.specs.declared.walk.Step.{Step}
use Rattle.gc_check.proofs.replaying.end_from.Goals as goal

-- the last step leads to the end
ends_last : (n : ℕ) (steps : List Step) (s : Step) → slice_get steps (length steps - 1) ≡ Some s → end_of_steps n steps ≡ s.node
ends_last n [] s h = cc
ends_last n (x ∷ []) s h = let e : x ≡ s = cc in ap (λ (y : Step). y.node) e
ends_last n (x ∷ y ∷ ys) s h = ends_last x.node (y ∷ ys) s (subst (λ k. slice_get (x ∷ y ∷ ys) k ≡ Some s) (longer x y ys) h)
  where
    longer : (x y : Step) (ys : List Step) → length (x ∷ y ∷ ys) - 1 ≡ suc (length (y ∷ ys) - 1)
    longer x y ys = omega arith

pub returns-in-Some : goal.returns-in-Some
returns-in-Some c = sym (ends_last c.args.node c.args.steps.now c.in-Some.step.now (sym c.in-Some.ensures.value))
