-- A walk along some of the edges of a graph is one whose nodes and edges are all among them.
use Rattle.std.proofs.Common.{◌≡◌, ℕ, Bool, true, false, ◌&&◌, ◌||◌, ◌==◌, List, [], ◌∷◌, Some, None, is_some, refl, sym, ap, ◌∙◌, subst}
use Rattle.std.specs.List.{AllByRecursion, list_all}
use Rattle.std.proofs.lemmas.Bool.{eqb-true, and_parts}
use Rattle.gc_base.specs.Ascending.{Ascends}
use Rattle.gc_base.specs.declared.walk.Step.{Step}
use Rattle.gc_base.specs.declared.walk.Walk.{Walk}
use Rattle.gc_spec.specs.PropertyGraph.{Node, Edge, edge_at, edge_order, node_ids, edge_ids, is_among, is_joined, are_steps_from, is_walk}
use Rattle.gc_ppg.specs.Built.{has_ends}
use Rattle.gc_ppg.proofs.ElementLists.{list_any-find, passes_at}
use Rattle.gc_sets.specs.Differences.{goes_along}
use Rattle.gc_sets.specs.Elements.{stands}
use Rattle.gc_sets.proofs.Finds.{found_has}
use Rattle.gc_sets.proofs.Turns.{found-is_among}

-- an edge joins two nodes if the one that its identity finds has them for ends
pub joined_found : (edges : List Edge) (id x y : ℕ) → Ascends edge_order edges → is_joined edges id x y ≡ passes_at (λ (e : Edge). e.id) (has_ends x y) (edge_at edges id)
joined_found edges id x y up = list_any-find (λ e. e.id) (has_ends x y) edges id up

-- the node that an edge leads to is one of its ends
pub end_among : (ids : List ℕ) (from to x y : ℕ) → is_among ids from ≡ true → is_among ids to ≡ true → ((from == x && to == y) || (from == y && to == x)) ≡ true → is_among ids y ≡ true
end_among ids from to x y f t h =
    elim (to == y) as (λ b. (to == y) ≡ b → ((from == x && b) || (from == y && to == x)) ≡ true → is_among ids y ≡ true) [
      | true ↦ λ e k. subst (λ q. is_among ids q ≡ true) (eqb-true to y e) t
      | false ↦ λ e k.
          elim (from == y) as (λ c. (from == y) ≡ c → ((from == x && false) || (c && to == x)) ≡ true → is_among ids y ≡ true) [
            | true ↦ λ d m. subst (λ q. is_among ids q ≡ true) (eqb-true from y d) f
            | false ↦ λ d m. neither (from == x) m
          ] refl k
    ] refl h
  where
    neither : {P : Type 0} (a : Bool) → ((a && false) || false) ≡ true → P
    neither true m = absurd (cc m)
    neither false m = absurd (cc m)

module _ (edges kept : List Edge) (nodes : List Node) (up : Ascends edge_order edges) (up_kept : Ascends edge_order kept)
    (are_some : (id : ℕ) (e : Edge) → edge_at kept id ≡ Some e → edge_at edges id ≡ Some e) (stand : AllByRecursion (λ e. stands nodes e ≡ true) kept) where
  joined_kept : (id x y : ℕ) → is_joined edges id x y ≡ true → is_joined kept id x y ≡ (is_among (edge_ids kept) id && is_among (node_ids nodes) y)
  joined_kept id x y h =
      let test = passes_at (λ (e : Edge). e.id) (has_ends x y) in
      joined_found kept id x y up_kept
      ∙ (elim (edge_at kept id) as (λ o. edge_at kept id ≡ o → test o ≡ (is_some o && is_among (node_ids nodes) y)) [
        | None ↦ λ o. refl
        | Some e ↦ λ o.
            let ends : has_ends x y e ≡ true = ap test (sym (are_some id e o)) ∙ (sym (joined_found edges id x y up) ∙ h) in
            let both = and_parts (is_among (node_ids nodes) e.from) (is_among (node_ids nodes) e.to) (found_has (λ e. e.id) (λ e. stands nodes e ≡ true) kept id e stand o) in
            ends ∙ sym (end_among (node_ids nodes) e.from e.to x y both.0 both.1 ends)
      ] refl
      ∙ ap (λ b. b && is_among (node_ids nodes) y) (found-is_among (λ e. e.id) kept id))

  steps_kept : (node : ℕ) (steps : List Step) → are_steps_from edges node steps ≡ true
      → are_steps_from kept node steps ≡ list_all (λ step. is_among (edge_ids kept) step.edge && is_among (node_ids nodes) step.node) steps
  steps_kept node [] h = refl
  steps_kept node (step ∷ steps) h =
      let parts = and_parts (is_joined edges step.edge node step.node) (are_steps_from edges step.node steps) h in
      λ i. joined_kept step.edge node step.node parts.0 i && steps_kept step.node steps parts.1 i

  pub walk_kept : (all : List Node) (walk : Walk) → is_walk all edges walk ≡ true → is_walk nodes kept walk ≡ goes_along nodes kept walk
  walk_kept all walk h = ap (λ b. is_among (node_ids nodes) walk.start && b) (steps_kept walk.start walk.steps (and_parts (is_among (node_ids all) walk.start) (are_steps_from edges walk.start walk.steps) h).1)
