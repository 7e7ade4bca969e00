-- The transitions of a list of automata, one automaton on.
use Rattle.std.proofs.Common.{◌≡◌, ℕ, zero, suc, ◌+◌, ◌-◌, List, [], ◌∷◌, ◌++◌, refl, sym, ap, ◌∙◌, append_assoc, arith, ◌<◌, ◌^◌, min, Result, Ok, Err, IfOk}
use Rattle.std.proofs.lemmas.List.{append-nil}
use Rattle.gc_base.specs.declared.memory.Memory.{Memory}
use Rattle.gc_automata.specs.declared.transition.Transition.{Transition}
use Rattle.gc_automata.specs.Automata.{Automaton, skip, star_of, transitions_in_turn, transitions_of_branches}
use Rattle.gc_automata.specs.Building.{Builds, bridge, branch}

-- those of a list from one of this number on: the first of all has no bridge into it
abbrev pub turn_from : ℕ → List Automaton → ℕ → List Transition
turn_from zero parts m = transitions_in_turn parts m
turn_from (suc i) [] m = []
turn_from (suc i) (a ∷ parts) m = skip (m - 1) m ∷ transitions_in_turn (a ∷ parts) m

first_in_turn : (a : Automaton) (parts : List Automaton) (m : ℕ) → transitions_in_turn (a ∷ parts) m ≡ a.transitions m ++ turn_from 1 parts (m + a.states)
first_in_turn a [] m = sym (append-nil (a.transitions m))
first_in_turn a (b ∷ parts) m = refl

later_turn : (i j : ℕ) (parts : List Automaton) (m : ℕ) → turn_from (suc i) parts m ≡ turn_from (suc j) parts m
later_turn i j [] m = refl
later_turn i j (a ∷ parts) m = refl

at_later : (i n : ℕ) (parts : List Automaton) (m : ℕ) → n ≡ suc i → turn_from 1 parts m ≡ turn_from n parts m
at_later i n parts m is = later_turn 0 i parts m ∙ ap (λ k. turn_from k parts m) (sym is)

pub next_in_turn : (i : ℕ) (a : Automaton) (parts : List Automaton) (m : ℕ) → turn_from i (a ∷ parts) m ≡ bridge i m ++ (a.transitions m ++ turn_from (i + 1) parts (m + a.states))
next_in_turn zero a parts m = first_in_turn a parts m
next_in_turn (suc i) a parts m =
    ap (λ rest. skip (m - 1) m ∷ rest) (first_in_turn a parts m ∙ ap (λ rest. a.transitions m ++ rest) (at_later (suc i) (suc i + 1) parts (m + a.states) (omega arith)))

-- no more of them
pub none_in_turn : (i m : ℕ) → turn_from i [] m ≡ []
none_in_turn zero m = refl
none_in_turn (suc i) m = refl

-- those of branches, one branch on
pub next_branch : (from to : ℕ) (a : Automaton) (parts : List Automaton) (m : ℕ)
    → transitions_of_branches from to (a ∷ parts) m ≡ (branch from to a).transitions m ++ transitions_of_branches from to parts (m + a.states)
next_branch from to a parts m =
    ap (λ rest. skip from m ∷ rest) (sym (append_assoc (a.transitions m) (skip (m + a.states - 1) to ∷ []) (transitions_of_branches from to parts (m + a.states))))

if_ok_as : {X E : Type 0} (P Q : X → Type 0) → ((x : X) → P x → Q x) → (r : Result X E) → IfOk r P → IfOk r Q
if_ok_as P Q as_well (Ok x) p = as_well x p
if_ok_as P Q as_well (Err e) p = tt

star_list : (a : Automaton) (from first last end : ℕ) (old one two three four five : List Transition) → first ≡ from + 1 → last ≡ from + 1 + a.states → end ≡ from + a.states
    → one ≡ old ++ skip from first ∷ [] → two ≡ one ++ skip from last ∷ [] → three ≡ two ++ a.transitions first → four ≡ three ++ skip end first ∷ [] → five ≡ four ++ skip end last ∷ []
    → five ≡ old ++ (star_of a).transitions from
star_list a from first last end old one two three four five f l e a1 a2 a3 a4 a5 =
    rw (a5, a4, a3, a2, a1, f, l, e) (simp append_assoc)

-- a star is built of these pieces
pub star_built : (a : Automaton) (from first last count end : ℕ) (old one two three four five : List Transition) (result : Result ℕ Memory)
    → first ≡ from + 1 → count ≡ min a.states 18446744073709551615 → (last ≡ first + count) × (last < 2 ^ 32) → end ≡ first + a.states - 1
    → one ≡ old ++ skip from first ∷ [] → two ≡ one ++ skip from last ∷ [] → three ≡ two ++ a.transitions first → four ≡ three ++ skip end first ∷ [] → five ≡ four ++ skip end last ∷ []
    → IfOk result (λ next. (next ≡ last + 1) × (next < 2 ^ 32)) → Builds (star_of a) from old five result
star_built a from first last count end old one two three four five result f n l e a1 a2 a3 a4 a5 given =
    let all : last ≡ from + 1 + a.states = omega (arith, f, n, l.0, l.1) in
    let whole = star_list a from first last end old one two three four five f all (omega (arith, f, e)) a1 a2 a3 a4 a5 in
    if_ok_as (λ next. (next ≡ last + 1) × (next < 2 ^ 32)) (λ next. (next ≡ from + (2 + a.states)) × (five ≡ old ++ (star_of a).transitions from)) (λ next is. (omega (arith, is.0, all), whole)) result given
