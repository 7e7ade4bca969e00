-- A step of a walk in a list of values.
use Rattle.std.proofs.Common.{◌≡◌, ℕ, zero, suc, ◌+◌, ◌<◌, List, [], ◌∷◌, ◌++◌, length, get_or, drop, Ok, Err, refl, sym, ap, ap₂, ◌∙◌, arith}
use Rattle.std.proofs.lemmas.List.{drop_more}
use Rattle.gc_base.specs.declared.walk.Step.{Step}
use Rattle.serde_json.specs.View.{view, items_view}
use Rattle.serde_json.specs.declared.value.Value.{Value}
use Rattle.gc_json.specs.Reading.{◌>>=◌}
use Rattle.gc_json.specs.WalkItems.{step_of}
use Rattle.gc_json.specs.declared.fault.Fault.TheVariants.{BadWalk}
use Rattle.gc_json.proofs.GatheredSteps.{steps_with}

two_more : (vs : List Value) (k : ℕ) (a b : Value) → k + 1 < length vs → a ≡ get_or vs k a → b ≡ get_or vs (k + 1) b → drop k vs ≡ a ∷ b ∷ drop (k + 1 + 1) vs
two_more vs k a b within first second =
    drop_more vs k a (omega arith)
    ∙ ap₂ (λ x xs. x ∷ xs) (sym first) (drop_more vs (k + 1) b within ∙ ap (λ x. x ∷ drop (k + 1 + 1) vs) (sym second))

-- after a step, the rest has the steps that were to come
pub turned : (vs : List Value) (k next : ℕ) (s t : List Step) (a b : Value) (step : Step) → k + 1 < length vs → next ≡ k + 1 + 1 → a ≡ get_or vs k a → b ≡ get_or vs (k + 1) b
    → step_of (view a) (view b) ≡ Ok step → t ≡ s ++ step ∷ [] → steps_with t (items_view (drop next vs)) ≡ steps_with s (items_view (drop k vs))
turned vs k next s t a b step within after first second read pushed =
    ap₂ (λ u n. steps_with u (items_view (drop n vs))) pushed after
    ∙ sym
    (ap (λ xs. steps_with s (items_view xs)) (two_more vs k a b within first second)
    ∙ ap (λ r. r >>= λ x. steps_with (s ++ x ∷ []) (items_view (drop (k + 1 + 1) vs))) read)

-- an edge without a node is no step
pub edge_alone : (vs : List Value) (k : ℕ) (s : List Step) → k + 1 ≡ length vs → steps_with s (items_view (drop k vs)) ≡ Err BadWalk
edge_alone [] k s h = absurd (omega arith)
edge_alone (v ∷ []) zero s h = refl
edge_alone (v ∷ w ∷ vs) zero s h = absurd (omega arith)
edge_alone (v ∷ vs) (suc k) s h = edge_alone vs k s (omega arith)
