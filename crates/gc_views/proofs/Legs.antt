-- The legs of a chain, two parts after two parts.
use Rattle.std.proofs.Common.{◌≡◌, ℕ, ◌+◌, ◌*◌, ◌<◌, List, [], ◌∷◌, ◌++◌, length, map, drop, get_or, Option, None, Some, refl, sym, ap, ◌∙◌, arith, length-drop}
use Rattle.std.specs.Option.{option_map, option_and_then}
use Rattle.std.proofs.lemmas.List.{append_assoc}
use Rattle.gc_ast.specs.PatternViews.{pattern_tree}
use Rattle.gc_ast.specs.Trees.{Tree, RowOf, APattern, row}
use Rattle.gc_ast.specs.declared.pattern.Pattern.{Pattern}
use Rattle.gc_expr.specs.Views.{Names}
use Rattle.gc_lower.proofs.Dealings.{one_and_rest}
use Rattle.gc_lower.specs.Chains.{node_variable}
use Rattle.gc_lower.specs.Scopes.{Scope}
use Rattle.gc_views.specs.Views.{edge_variable, leg_of, legs_of}
use Rattle.gc_views.specs.declared.trail.Leg.{Leg}

module _ (s : Scope) (names : Names) where
  -- the tree of parts from some place on
  abbrev from : List Pattern → ℕ → Tree (RowOf APattern)
  from parts k = row (map (pattern_tree names) (drop k parts))

  two_more : (parts : List Pattern) (i : ℕ) (p q : Pattern) → 2 * i + 1 < length parts → p ≡ get_or parts (2 * i) p → q ≡ get_or parts (2 * i + 1) q
      → drop (2 * i) parts ≡ p ∷ q ∷ drop (2 * (i + 1)) parts
  two_more parts i p q inside at behind =
      let next : 2 * i + 1 + 1 ≡ 2 * (i + 1) = omega arith in
      one_and_rest parts (2 * i) p (omega arith) at
      ∙ ap (λ ps. p ∷ ps) (one_and_rest parts (2 * i + 1) q inside behind ∙ ap (λ k. q ∷ drop k parts) next)

  put_together : (done after : List Leg) (leg : Leg) (later : Option (List Leg)) → after ≡ done ++ leg ∷ []
      → option_map (λ rest. after ++ rest) later ≡ option_map (λ rest. done ++ rest) (option_map (λ legs. leg ∷ legs) later)
  put_together done after leg None is = refl
  put_together done after leg (Some rest) is = ap Some (ap (λ legs. legs ++ rest) is ∙ append_assoc done (leg ∷ []) rest)

  -- one leg more
  pub next_leg : (parts : List Pattern) (i : ℕ) (p q : Pattern) (leg : Leg) (done after : List Leg) → 2 * i + 1 < length parts
      → p ≡ get_or parts (2 * i) p → q ≡ get_or parts (2 * i + 1) q
      → leg_of (edge_variable s (pattern_tree names p)) (node_variable s (pattern_tree names q)) ≡ Some leg → after ≡ done ++ leg ∷ []
      → option_map (λ rest. after ++ rest) (legs_of s (from parts (2 * (i + 1)))) ≡ option_map (λ rest. done ++ rest) (legs_of s (from parts (2 * i)))
  next_leg parts i p q leg done after inside at behind found is =
      let later = legs_of s (from parts (2 * (i + 1))) in
      put_together done after leg later is
      ∙ ap (λ o. option_map (λ rest. done ++ rest) (option_and_then (λ leg. option_map (λ legs. leg ∷ legs) later) o)) (sym found)
      ∙ ap (λ ps. option_map (λ rest. done ++ rest) (legs_of s (row (map (pattern_tree names) ps)))) (sym (two_more parts i p q inside at behind))

  -- a part without a part behind it is no leg
  alone : (parts : List Pattern) → length parts ≡ 1 → legs_of s (row (map (pattern_tree names) parts)) ≡ None
  alone [] h = absurd (omega (arith, h))
  alone (p ∷ []) h = refl
  alone (p ∷ q ∷ parts) h = absurd (omega (arith, h))

  pub last_alone : (parts : List Pattern) (k : ℕ) (done : List Leg) (whole : Option (List Leg)) → length parts ≡ k + 1
      → option_map (λ rest. done ++ rest) (legs_of s (from parts k)) ≡ whole → None ≡ whole
  last_alone parts k done whole one is =
      sym (ap (option_map (λ rest. done ++ rest)) (alone (drop k parts) (omega (arith, length-drop k parts, one)))) ∙ is
