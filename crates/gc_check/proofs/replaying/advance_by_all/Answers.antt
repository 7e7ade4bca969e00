use Rattle.std.proofs.Common.{◌≡◌, Bool, true, false, ◌&&◌, ◌==◌, List, ◌++◌, length, take, drop, refl, sym, ap, ◌∙◌}
use Rattle.std.specs.Bool.{Decides}
use Rattle.std.specs.Cmp.Lexicographic.{pointwise}
use Rattle.std.proofs.Math.Seq.{take-append_seam}
use Rattle.std.proofs.lemmas.Bool.{eqb-true, eq-eqb}
use Rattle.std.proofs.lemmas.List.{take-append-drop}
use Rattle.std.proofs.lemmas.Slice.Eq.{slice_eq-Decides}
use Rattle.gc_base.specs.Walks.{end_of_steps}
use Rattle.gc_base.specs.declared.walk.Step.{Step}
use Rattle.gc_check.proofs.Tested.{both}
use Rattle.gc_check.proofs.replaying.advance_by_all.Goals as goal

abbrev same_step : Step → Step → Bool
same_step a b = (a.edge == b.edge) && (a.node == b.node)

step_tells : (a b : Step) → Decides (same_step a b) (a ≡ b)
step_tells a b = (
  λ h. let parts = both (a.edge == b.edge) (a.node == b.node) h in
      λ j. record { edge = eqb-true a.edge b.edge parts.0 j; node = eqb-true a.node b.node parts.1 j },
  λ e. ap (λ t. t && (a.node == b.node)) (eq-eqb a.edge b.edge (ap (λ (s : Step). s.edge) e)) ∙ eq-eqb a.node b.node (ap (λ (s : Step). s.node) e),
)

-- steps begin with some, or do not
module _ (steps first : List Step) where
  begins : pointwise same_step (take (length first) steps) first ≡ true → steps ≡ first ++ drop (length first) steps
  begins h =
      sym (take-append-drop (length first) steps)
      ∙ ap (λ l. l ++ drop (length first) steps) ((slice_eq-Decides step_tells (take (length first) steps) first _ refl).0 h)

  begins_not : pointwise same_step (take (length first) steps) first ≡ false → (left : List Step) → steps ≡ first ++ left → ⊥
  begins_not h left whole =
      let e : take (length first) steps ≡ first = ap (take (length first)) whole ∙ take-append_seam first left in
      let t = (slice_eq-Decides step_tells (take (length first) steps) first _ refl).1 e in
      cc

pub returns-in-None : goal.returns-in-None
returns-in-None c = λ network i same to left goes.
    begins_not c.args.steps.now c.args.segment.now c.in-None.ensures.cases left (goes.whole ∙ ap (λ l. l ++ left) same)

pub returns-in-Some : goal.returns-in-Some
returns-in-Some c = λ network i same.
    let left = c.in-Some.ensures.cases in
    record {
      whole =
          begins c.args.steps.now c.args.segment.now left.0
          ∙ (λ j. sym same j ++ sym left.1 j);
      ends = ap (end_of_steps c.args.node) same ∙ sym c.end_from.ensures;
    }
