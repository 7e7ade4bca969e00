-- The segments of a table that are used on a graph are segments of that graph.
use Rattle.std.proofs.Common.{◌≡◌, Bool, true, false, cond, ◌&&◌, ◌==◌, ℕ, List, [], ◌∷◌, find, map, Some, refl, ap, ◌∙◌, arith}
use Rattle.std.proofs.lemmas.Bool.Decides.{nat_tests}
use Rattle.std.specs.Prelude.{slice_get}
use Rattle.std.specs.Option.{option_map, unwrap_or}
use Rattle.gc_base.specs.declared.place.ViewNo.{ViewNo}
use Rattle.gc_spec.specs.PropertyGraph.{PropertyGraph}
use Rattle.gc_automata.specs.Moves.{Segment}
use Rattle.gc_prod.specs.Segments.{Segments, AreSegments, is_of, segments_on}
use Rattle.gc_alg.specs.Networks.{named_segments, under}
use Rattle.gc_alg.specs.declared.atom.ViewUse.{ViewUse}
use Rattle.gc_rows.proofs.Members.{AllByRecursion-flat_map, each_member}
use Rattle.gc_walks.specs.Databases.{AreOnGraphs, database, segments_in, used_segments}

same_number : (m n : ℕ) → (m == n) ≡ true → m ≡ n
same_number m n h = grind (arith, nat_tests)

right : (a b : Bool) → (a && b) ≡ true → b ≡ true
right true b h = h
right false b h = cc

-- another name leaves a segment what it is
renamed : (g : PropertyGraph) (name : List ℕ) (xs : List Segment) → AreSegments g xs → AreSegments g (map (under name) xs)
renamed g name [] h = tt
renamed g name (x ∷ xs) h = (record { walk = h.0.walk; moves = h.0.moves; costs = h.0.costs }, renamed g name xs h.1)

module _ (graphs : List PropertyGraph) (g : PropertyGraph) (graph : ℕ) (there : slice_get graphs graph ≡ Some g) where
  found : (table : List Segments) (view : ViewNo) → AreOnGraphs graphs table → AreSegments g (unwrap_or (segments_on table view graph) [])
  found [] view h = tt
  found (entry ∷ table) view h =
      elim (is_of view graph entry) as (λ t. is_of view graph entry ≡ t → AreSegments g (unwrap_or (option_map (λ (e : Segments). e.segments) (cond t (Some entry) (find (is_of view graph) table))) [])) [
        | true ↦ λ e. h.0 g (ap (slice_get graphs) (same_number entry.graph graph (right (entry.view.0 == view.0) (entry.graph == graph) e)) ∙ there)
        | false ↦ λ e. found table view h.1
      ] refl

  pub used_are : (table : List Segments) (views : List ViewUse) → AreOnGraphs graphs table → AreSegments g (used_segments table graph views)
  used_are table views h =
      AllByRecursion-flat_map _ (named_segments (database [] table) graph) views (each_member _ views (λ used m. renamed g used.name (segments_in table used.view.0 graph) (found table used.view h)))
