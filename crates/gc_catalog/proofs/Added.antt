-- A catalog with one more graph is a catalog.
use Rattle.std.proofs.Common.{◌≡◌, ℕ, suc, ◌+◌, Bool, true, false, cond, ◌||◌, not, nat_lt, nat_eq, List, [], ◌∷◌, ◌++◌, length, Some, None, Option, is_some, refl, sym, ap, ◌∙◌, arith}
use Rattle.std.specs.List.{AllByRecursion, list_any, position_or_len}
use Rattle.std.specs.Cmp.Lexicographic.{pointwise, nat_list_eq_equiv}
use Rattle.std.proofs.lemmas.Bool.Decides.{nat_tests}
use Rattle.std.proofs.lemmas.List.{length-append}
use Rattle.std.proofs.lemmas.List.Folds.{list_any-append}
use Rattle.gc_base.proofs.SetLaws.{AllByRecursion-append}
use Rattle.gc_spec.specs.PropertyGraph.{PropertyGraph}
use Rattle.gc_spec.specs.Coherence.{AreCoherent}
use Rattle.gc_catalog.specs.NamedGraphs.{NamedGraphs, IsCatalog, AreNames, AllCoherent, AreBelow, has_name, is_name, number_of, with_graph, with_local}

first_less : (m : ℕ) → nat_lt 0 (suc m) ≡ true
first_less m = grind (arith, nat_tests)

less : (n m : ℕ) → nat_lt (1 + n) (suc m) ≡ false → nat_lt n m ≡ false
less n m h = grind (arith, nat_tests)

past_all : {X : Type 0} (p : X → Bool) (xs : List X) → nat_lt (position_or_len p xs) (length xs) ≡ false → list_any p xs ≡ false
past_all p [] h = refl
past_all p (x ∷ xs) h =
    elim (p x) as (λ b. nat_lt (cond (not b) (1 + position_or_len p xs) 0) (suc (length xs)) ≡ false → (b || list_any p xs) ≡ false) [
      | true ↦ λ h. let t = first_less (length xs) in absurd (cc (t, h))
      | false ↦ λ h. past_all p xs (less _ _ h)
    ] h

none_by : {X : Type 0} (p : X → Bool) (xs : List X) (b : Bool) → nat_lt (position_or_len p xs) (length xs) ≡ b → is_some (cond b (Some (position_or_len p xs)) None) ≡ false → list_any p xs ≡ false
none_by p xs true e h = absurd (cc)
none_by p xs false e h = past_all p xs e

-- a name without a number is none of the names
no_name : (names : List (Option (List ℕ))) (name : List ℕ) → is_some (number_of names name) ≡ false → has_name names name ≡ false
no_name names name h = none_by (is_name name) names _ refl h

both_false : (a b : Bool) → (a || b) ≡ false → (a ≡ false) × (b ≡ false)
both_false true b h = absurd (cc)
both_false false b h = (refl, h)

names_with : (names : List (Option (List ℕ))) (name : List ℕ) → AreNames names → has_name names name ≡ false → AreNames (names ++ Some name ∷ [])
names_with [] name h f = (refl, tt)
names_with (None ∷ names) name h f = names_with names name h f
names_with (Some other ∷ names) name h f =
    let fs = both_false (pointwise nat_eq other name) (has_name names name) f in (
      list_any-append (is_name other) names (Some name ∷ []) ∙ (λ i. h.0 i || ((nat_list_eq_equiv.symm name other ∙ fs.0) i || false)),
      names_with names name h.1 fs.1,
    )

names_without : (names : List (Option (List ℕ))) → AreNames names → AreNames (names ++ None ∷ [])
names_without [] h = tt
names_without (None ∷ names) h = names_without names h
names_without (Some other ∷ names) h = (list_any-append (is_name other) names (None ∷ []) ∙ (λ i. h.0 i || false), names_without names h.1)

coherent_with : (gs : List PropertyGraph) (g : PropertyGraph) → AllCoherent gs → AllByRecursion (λ h. AreCoherent h g) gs → AllCoherent (gs ++ g ∷ [])
coherent_with [] g h a = (tt, tt)
coherent_with (f ∷ gs) g h a = (AllByRecursion-append (AreCoherent f) gs (g ∷ []) h.0 (a.0, tt), coherent_with gs g h.1 a.1)

pub IsCatalog-with_graph : (c : NamedGraphs) (name : List ℕ) (g : PropertyGraph) → IsCatalog c → is_some (number_of c.names name) ≡ false → AllByRecursion (λ h. AreCoherent h g) c.graphs → AreBelow c.next g
    → IsCatalog (with_graph c name g)
IsCatalog-with_graph c name g h free agrees below = record {
  as_many = length-append c.names (Some name ∷ []) ∙ (ap (λ n. n + 1) h.as_many ∙ sym (length-append c.graphs (g ∷ [])));
  names = names_with c.names name h.names (no_name c.names name free);
  coherent = coherent_with c.graphs g h.coherent agrees;
  below = AllByRecursion-append (AreBelow c.next) c.graphs (g ∷ []) h.below (below, tt);
  most = h.most;
}

pub IsCatalog-with_local : (c : NamedGraphs) (g : PropertyGraph) → IsCatalog c → AllByRecursion (λ h. AreCoherent h g) c.graphs → AreBelow c.next g → IsCatalog (with_local c g)
IsCatalog-with_local c g h agrees below = record {
  as_many = length-append c.names (None ∷ []) ∙ (ap (λ n. n + 1) h.as_many ∙ sym (length-append c.graphs (g ∷ [])));
  names = names_without c.names h.names;
  coherent = coherent_with c.graphs g h.coherent agrees;
  below = AllByRecursion-append (AreBelow c.next) c.graphs (g ∷ []) h.below (below, tt);
  most = h.most;
}
