-- The plan of a part as it is explained: of the atoms that may come the least is taken, and behind it stand the conditions that have
-- become ready.
use Rattle.std.specs.Prelude.{ℕ, zero, suc, ◌==◌, ◌&&◌, ◌||◌, not, nat_lt, Bool, List, [], ◌∷◌, ◌++◌}
use Rattle.std.specs.Prelude.{map, fold, length, get_or, slice_get, Option, Some, None, if◌then◌else◌}
use Rattle.std.specs.List.{filter, list_all, range_with_len}
use Rattle.std.specs.Option.{option_and_then, option_map}
use Rattle.gc_base.specs.declared.place.Sym.{Sym}
use Rattle.gc_rows.specs.Rows.{lists}
use Rattle.gc_alg.specs.Instances.{variables_of}
use Rattle.gc_alg.specs.declared.atom.Atom.{Atom}
use Rattle.gc_explain.specs.ExplainedWords.{class_of, word_of}
use Rattle.gc_explain.specs.declared.choosing.Choice.{Choice}
use Rattle.gc_explain.specs.declared.step.Step.{Step}
use Rattle.gc_explain.specs.declared.step.StepWord.{StepWord}
use Rattle.gc_explain.specs.declared.step.StepWord.TheVariants.{Scan, Filter}

-- Take `(n:Person)-[:hasInterest]->(t:Tag) WHERE t.name = "Wagner"` on a graph of three persons and one tag: its steps are scan 3,
-- filter 1, expand 2 and check 1.

-- an atom of a number as it may come, if it may; its estimate counts only where elements of its kind are gone over
abbrev pub estimate_by : StepWord → ℕ → ℕ
estimate_by Scan estimate = estimate
estimate_by word estimate = 0

abbrev pub choice_of : (number estimate : ℕ) → StepWord → Choice
choice_of number estimate word = record { word = word; estimate = estimate_by word estimate; number = number }

abbrev pub choice_at : List Sym → List Atom → (estimates : List ℕ) → ℕ → Option Choice
choice_at bound atoms estimates n =
    option_and_then (λ a. option_map (choice_of n (get_or estimates n 0)) (word_of bound a.what)) (slice_get atoms n)

-- a choice comes before another by its class, then by its estimate, then by its number
abbrev pub comes_before : Choice → Choice → Bool
comes_before a b =
    nat_lt (class_of a.word) (class_of b.word)
    || ((class_of a.word == class_of b.word) && (nat_lt a.estimate b.estimate || ((a.estimate == b.estimate) && nat_lt a.number b.number)))

-- the least of some
abbrev pub lesser : Option Choice → Option Choice → Option Choice
lesser None c = c
lesser (Some b) None = Some b
lesser (Some b) (Some c) = if comes_before c b then Some c else Some b

abbrev pub least : List Sym → List Atom → (estimates : List ℕ) → (left : List ℕ) → Option Choice
least bound atoms estimates left = fold (λ best n. lesser best (choice_at bound atoms estimates n)) None left

-- whether a condition is ready: all that it needs is bound
abbrev pub is_ready : (needs : List (List Sym)) → List Sym → ℕ → Bool
is_ready needs bound n = list_all (lists bound) (get_or needs n [])

abbrev pub not_ready : (needs : List (List Sym)) → List Sym → ℕ → Bool
not_ready needs bound n = not (is_ready needs bound n)

-- the steps that test the conditions which are ready
abbrev pub step_of : StepWord → ℕ → Step
step_of word n = record { word = word; number = n }

abbrev pub tests_of : (needs : List (List Sym)) → List Sym → (tests : List ℕ) → List Step
tests_of needs bound tests = map (step_of Filter) (filter (is_ready needs bound) tests)

-- the variables of the atom of a number
abbrev pub variables_if : Option Atom → List Sym
variables_if None = []
variables_if (Some a) = variables_of a.what

abbrev pub variables_at : List Atom → ℕ → List Sym
variables_at atoms n = variables_if (slice_get atoms n)

-- the atoms that are left without one
abbrev pub without : ℕ → List ℕ → List ℕ
without number left = filter (λ n. not (n == number)) left

-- the steps from here on, at most so many of atoms
abbrev pub goes_on : (next : Choice → List Step) → Option Choice → List Step
goes_on next None = []
goes_on next (Some c) = next c

abbrev pub steps_from : (most : ℕ) → List Atom → (estimates : List ℕ) → (needs : List (List Sym)) → List Sym → (left tests : List ℕ) → List Step
steps_from zero atoms estimates needs bound left tests = []
steps_from (suc k) atoms estimates needs bound left tests =
    goes_on (λ c.
    step_of c.word c.number
    ∷ (tests_of needs (bound ++ variables_at atoms c.number) tests
    ++ steps_from k atoms estimates needs (bound ++ variables_at atoms c.number) (without c.number left)
    (filter (not_ready needs (bound ++ variables_at atoms c.number)) tests))) (least bound atoms estimates left)

-- the steps of a part: first the conditions without variables
abbrev pub plan_steps : List Atom → (estimates : List ℕ) → (needs : List (List Sym)) → List Sym → List Step
plan_steps atoms estimates needs bound =
    tests_of needs [] (range_with_len 0 (length needs))
    ++ steps_from (length atoms) atoms estimates needs bound (range_with_len 0 (length atoms))
    (filter (not_ready needs []) (range_with_len 0 (length needs)))
