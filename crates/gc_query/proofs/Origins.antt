-- Where the graph of a query comes from.
use Rattle.std.proofs.Common.{◌≡◌, ◌≤◌, ℕ, List, [], ◌∷◌, ◌++◌, ◌⊎◌, inl, inr, ⊎_elim, refl, IfOk, OnOk, Result, Ok, Err, Option, None, Some, subst, unwrap_or, slice_get, arith}
use Rattle.std.proofs.lemmas.List.Elements.{Contains-append_cases}
use Rattle.std.specs.List.{Contains}
use Rattle.gc_build.proofs.ClaimOrigins.{at_number}
use Rattle.gc_rows.proofs.Members.{cons_cases}
use Rattle.gc_sets.specs.Origins.{ComesFrom}
use Rattle.gc_sets.proofs.OriginLaws.{comes_through, comes_wider, none_comes, own_comes}
use Rattle.gc_spec.specs.PropertyGraph.{PropertyGraph}
use Rattle.gc_query.specs.Answered.{AllCome, ComesOf, Rises}
use Rattle.gc_query.specs.Queries.{graph_of_number, no_elements}
use Rattle.gc_query.specs.Standings.{Made}
use Rattle.gc_query.specs.declared.fault.QueryRefusal.{QueryRefusal}

-- what is made later is made later than before
pub rises_on : (start next : ℕ) → start ≤ next → (result : Result Made QueryRefusal) → Rises next result → Rises start result
rises_on start next up (Ok made) h = (omega (arith, up, h.0), h.1)
rises_on start next up (Err refused) h = tt

-- what comes from graphs that come from others, comes from these
pub come_through : (graphs others : List PropertyGraph) (next middle : ℕ) → next ≤ middle → ((g : PropertyGraph) → Contains others g → ComesFrom graphs next middle g)
    → (result : Result Made QueryRefusal) → Rises middle result → ComesOf others middle result → ComesOf graphs next result
come_through graphs others next middle up each (Ok made) rises h = comes_through graphs others next middle made.next up rises.0 each made.graph h
come_through graphs others next middle up each (Err refused) rises h = tt

-- with a graph that comes from others behind these, all come from them
pub one_comes : (graphs after : List PropertyGraph) (next : ℕ) (made : Made) → ComesFrom graphs next made.next made.graph → (result : Result ℕ QueryRefusal)
    → OnOk result (after ≡ graphs ++ made.graph ∷ []) → IfOk result (λ free. made.next ≤ free) → AllCome graphs next after result
one_comes graphs after next made comes (Ok free) is up = λ g m. by g (Contains-append_cases graphs (made.graph ∷ []) g (subst (λ (gs : List PropertyGraph). Contains gs g) is m))
  where
    wide : ComesFrom graphs next free made.graph
    wide = comes_wider graphs next next made.next free (omega arith) up made.graph comes

    by : (g : PropertyGraph) → Contains graphs g ⊎ Contains (made.graph ∷ []) g → ComesFrom graphs next free g
    by g (inl m) = own_comes graphs next free g m
    by g (inr m) = ⊎_elim (λ same. subst (ComesFrom graphs next free) same wide) (λ none. absurd (omega (arith, none.1))) (cons_cases made.graph [] g m)
one_comes graphs after next made comes (Err refused) is up = tt

-- a graph that a number names comes from the graphs
pub number_comes : (graphs : List PropertyGraph) (number next : ℕ) → ComesFrom graphs next next (graph_of_number graphs number)
number_comes graphs number next = at (slice_get graphs number) refl
  where
    at : (o : Option PropertyGraph) → slice_get graphs number ≡ o → ComesFrom graphs next next (unwrap_or o no_elements)
    at None is = none_comes graphs next next
    at (Some g) is = own_comes graphs next next g (at_number graphs number g is)
