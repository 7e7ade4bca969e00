-- What is left of numbers, of conditions and of atoms.
use Rattle.std.proofs.Common.{◌≡◌, ℕ, zero, suc, ◌+◌, ◌-◌, ◌<◌, false, nat_lt, List, [], ◌∷◌, ◌++◌, append_assoc, filter, length, map, None, Some, refl, sym, ap, ◌∙◌, subst, arith, slice_get}
use Rattle.std.proofs.lemmas.Bool.Decides.{nat_tests}
use Rattle.std.proofs.lemmas.List.{length-map}
use Rattle.std.specs.List.{range_with_len}
use Rattle.gc_base.specs.declared.place.Sym.{Sym}
use Rattle.gc_alg.proofs.Items.{conjuncts_are, items_row}
use Rattle.gc_alg.proofs.Layers.{conjunct_is}
use Rattle.gc_alg.specs.Views.{conjunct_tree, exists_tree, part_tree}
use Rattle.gc_alg.specs.declared.block.Conjunct.{Conjunct, out-Conjunct}
use Rattle.gc_alg.specs.declared.block.Part.{Part, out-Part}
use Rattle.gc_alg.specs.declared.atom.Atom.{Atom}
use Rattle.gc_explain.specs.ExplainedPlans.{least, not_ready, step_of, steps_from, tests_of, variables_at, without}
use Rattle.gc_explain.specs.declared.choosing.Choice.{Choice}
use Rattle.gc_explain.specs.declared.step.Step.{Step}
use Rattle.gc_explain.specs.Needs.{asks_queries, needed, needs_of, part_variables}

-- the next number, and those behind it
pub range_next : (n count : ℕ) → n < count → range_with_len n (count - n) ≡ n ∷ range_with_len (n + 1) (count - (n + 1))
range_next n count h = let e : count - n ≡ suc (count - (n + 1)) = omega (arith, h) in ap (range_with_len n) e

-- there is nothing behind the end of a list
pub none_past : {X : Type 0} (xs : List X) (i : ℕ) → nat_lt i (length xs) ≡ false → slice_get xs i ≡ None
none_past [] zero h = refl
none_past [] (suc i) h = refl
none_past (x ∷ xs) zero h = let n = length xs in absurd (grind (arith, nat_tests))
none_past (x ∷ xs) (suc i) h = let n = length xs in none_past xs i (grind (arith, nat_tests))

-- the queries of a condition in memory
pub asks_is : (c : Conjunct) → asks_queries (conjunct_tree c) ≡ nat_lt 0 (length (out-Conjunct c).subqueries.items)
asks_is c =
    ap asks_queries (conjunct_is c)
    ∙ ap (nat_lt 0) (ap length (items_row (map exists_tree (out-Conjunct c).subqueries.items)) ∙ length-map (out-Conjunct c).subqueries.items exists_tree)

-- the conditions of a part in memory
pub needs_are : (p : Part) (vars given : List Sym) (cs : List Conjunct) (all : List (List Sym)) → vars ≡ part_variables (part_tree p) → cs ≡ (out-Part p).conjuncts.items
    → all ≡ map (needed vars given) (map conjunct_tree cs) → all ≡ needs_of (part_tree p) given
needs_are p vars given cs all e d h =
    h ∙ (ap (λ vs. map (needed vs given) (map conjunct_tree cs)) e
    ∙ ap (map (needed (part_variables (part_tree p)) given)) (ap (map conjunct_tree) d ∙ sym (conjuncts_are p)))

module _ (atoms : List Atom) (estimates : List ℕ) (needs : List (List Sym)) where
  -- where no atom may come there are no more steps
  pub steps_none : (k : ℕ) (bound : List Sym) (left tests : List ℕ) → least bound atoms estimates left ≡ None → steps_from k atoms estimates needs bound left tests ≡ []
  steps_none zero bound left tests h = refl
  steps_none (suc k) bound left tests h = rw h refl

  -- else there is that of the least one
  steps_next : (k : ℕ) (bound : List Sym) (left tests : List ℕ) (c : Choice) → least bound atoms estimates left ≡ Some c → steps_from (suc k) atoms estimates needs bound left tests
      ≡ step_of c.word c.number
      ∷ (tests_of needs (bound ++ variables_at atoms c.number) tests
      ++ steps_from k atoms estimates needs (bound ++ variables_at atoms c.number) (without c.number left) (filter (not_ready needs (bound ++ variables_at atoms c.number)) tests))
  steps_next k bound left tests c h = rw h refl

  -- the steps so far, one turn later
  pub one_more : (n i : ℕ) (bound wider : List Sym) (left fewer tests rest : List ℕ) (c : Choice) (far middle later all : List Step) → i < n
      → least bound atoms estimates left ≡ Some c → far ++ steps_from (n - i) atoms estimates needs bound left tests ≡ all
      → middle ≡ far ++ step_of c.word c.number ∷ [] → wider ≡ bound ++ variables_at atoms c.number → fewer ≡ without c.number left
      → later ≡ middle ++ tests_of needs wider tests → rest ≡ filter (not_ready needs wider) tests
      → later ++ steps_from (n - (i + 1)) atoms estimates needs wider fewer rest ≡ all
  one_more n i bound wider left fewer tests rest c far middle later all within first whole m b l f t =
      let k : ℕ = n - (i + 1) in
      let turns : n - i ≡ suc k = omega (arith, within) in
      let whole_next : far ++ steps_from (suc k) atoms estimates needs bound left tests ≡ all =
      subst (λ j. far ++ steps_from j atoms estimates needs bound left tests ≡ all) turns whole in
      let now : List Sym = bound ++ variables_at atoms c.number in
      let s : Step = step_of c.word c.number in
      let front : later ≡ (far ++ s ∷ []) ++ tests_of needs now tests = f ∙ (λ j. m j ++ tests_of needs (b j) tests) in
      let behind : rest ≡ filter (not_ready needs now) tests = t ∙ (λ j. filter (not_ready needs (b j)) tests) in
      let more : List Step = steps_from k atoms estimates needs now (without c.number left) (filter (not_ready needs now) tests) in
      (λ j. front j ++ steps_from k atoms estimates needs (b j) (l j) (behind j))
      ∙ (append_assoc (far ++ s ∷ []) (tests_of needs now tests) more
      ∙ (append_assoc far (s ∷ []) (tests_of needs now tests ++ more)
      ∙ (ap (λ xs. far ++ xs) (sym (steps_next k bound left tests c first)) ∙ whole_next)))
