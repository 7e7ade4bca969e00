-- The walk of an array, as a loop gathers its steps.
use Rattle.std.proofs.Common.{◌≡◌, ℕ, List, [], ◌∷◌, ◌++◌, Option, Some, None, option_and_then, Result, Ok, Err, refl, sym, ap, ◌∙◌, append_assoc, append-nil}
use Rattle.gc_base.specs.declared.walk.Step.{Step}
use Rattle.serde_json.specs.Data.{Data, Items, no_items, item}
use Rattle.gc_json.specs.JsonValues.{id_of}
use Rattle.gc_json.specs.Reading.{◌>>=◌, or_refused}
use Rattle.gc_json.specs.WalkItems.{number_of, id_on_walk, ids_on_walk, step_of, steps_from, steps_among, walk_from, walk_of}
use Rattle.gc_json.specs.declared.fault.Fault.{Fault}
use Rattle.gc_json.specs.declared.fault.Fault.TheVariants.{BadWalk}

-- the steps so far, with those of an array
abbrev pub steps_with : List Step → Items → Result (List Step) Fault
steps_with steps no_items = Ok steps
steps_with steps (item d no_items) = Err BadWalk
steps_with steps (item d (item e ds)) = step_of d e >>= λ step. steps_with (steps ++ step ∷ []) ds

abbrev ids : Option ℕ → Result (List ℕ) Fault → Result (List ℕ) Fault
ids o rest = or_refused BadWalk o >>= λ x. rest >>= λ xs. Ok (x ∷ xs)

abbrev then_steps : List Step → Result (List ℕ) Fault → Result (List Step) Fault
then_steps steps r = r >>= λ xs. steps_from xs >>= λ more. Ok (steps ++ more)

alone : (steps : List Step) (o : Option ℕ) → Err BadWalk ≡ then_steps steps (ids o (Ok []))
alone steps None = refl
alone steps (Some x) = refl

more_steps : (steps : List Step) (step : Step) (q : Result (List Step) Fault) → (q >>= λ more. Ok ((steps ++ step ∷ []) ++ more)) ≡ ((q >>= λ more. Ok (step ∷ more)) >>= λ more. Ok (steps ++ more))
more_steps steps step (Ok more) = ap Ok (append_assoc steps (step ∷ []) more)
more_steps steps step (Err e) = refl

two_more : (steps : List Step) (a b : ℕ) (r : Result (List ℕ) Fault) → then_steps (steps ++ record { edge = a; node = b } ∷ []) r ≡ then_steps steps (ids (Some a) (ids (Some b) r))
two_more steps a b (Ok xs) = more_steps steps (record { edge = a; node = b }) (steps_from xs)
two_more steps a b (Err e) = refl

next_step : (steps : List Step) (o p : Option ℕ) (more : List Step → Result (List Step) Fault) (r : Result (List ℕ) Fault) → ((now : List Step) → more now ≡ then_steps now r)
    → ((or_refused BadWalk o >>= λ edge. or_refused BadWalk p >>= λ node. Ok (record { edge = edge; node = node })) >>= λ (step : Step). more (steps ++ step ∷ [])) ≡ then_steps steps (ids o (ids p r))
next_step steps None p more r h = refl
next_step steps (Some a) None more r h = refl
next_step steps (Some a) (Some b) more r h = h (steps ++ record { edge = a; node = b } ∷ []) ∙ two_more steps a b r

abbrev id_at : Data → Option ℕ
id_at d = option_and_then id_of (number_of d)

steps_all : (ds : Items) (steps : List Step) → steps_with steps ds ≡ then_steps steps (ids_on_walk ds)
steps_all no_items steps = ap Ok (sym (append-nil steps))
steps_all (item d no_items) steps = alone steps (id_at d)
steps_all (item d (item e ds)) steps = next_step steps (id_at d) (id_at e) (λ now. steps_with now ds) (ids_on_walk ds) (λ now. steps_all ds now)

same_steps : (q : Result (List Step) Fault) → (q >>= λ more. Ok more) ≡ q
same_steps (Ok more) = refl
same_steps (Err e) = refl

from_none : (r : Result (List ℕ) Fault) → then_steps [] r ≡ (r >>= steps_from)
from_none (Ok xs) = same_steps (steps_from xs)
from_none (Err e) = refl

pub steps_gathered : (none : List Step) (ds : Items) → none ≡ [] → steps_with none ds ≡ steps_among ds
steps_gathered none ds empty = ap (λ x. steps_with x ds) empty ∙ steps_all ds [] ∙ from_none (ids_on_walk ds)

after_start : (x : ℕ) (r : Result (List ℕ) Fault) → ((r >>= steps_from) >>= λ steps. Ok (record { start = x; steps = steps })) ≡ ((r >>= λ xs. Ok (x ∷ xs)) >>= walk_from)
after_start x (Ok xs) = refl
after_start x (Err e) = refl

walk_by : (o : Option ℕ) (r : Result (List ℕ) Fault) → (or_refused BadWalk o >>= λ start. (r >>= steps_from) >>= λ steps. Ok (record { start = start; steps = steps })) ≡ (ids o r >>= walk_from)
walk_by None r = refl
walk_by (Some x) r = after_start x r

-- a walk begins with a node, and then come steps
pub walk_gathered : (d : Data) (ds : Items) → (id_on_walk d >>= λ start. steps_among ds >>= λ steps. Ok (record { start = start; steps = steps })) ≡ walk_of (item d ds)
walk_gathered d ds = walk_by (id_at d) (ids_on_walk ds)
