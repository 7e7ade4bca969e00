-- What lies on the walks of runs, by the steps that they take.
use Rattle.std.proofs.Common.{◌≡◌, ℕ, ◌-◌, Bool, true, false, cond, List, [], ◌∷◌, ◌++◌, ◌⊎◌, inl, inr, map, refl, sym, subst, ◌∙◌}
use Rattle.std.specs.List.{Contains}
use Rattle.std.proofs.lemmas.List.Elements.{Contains-append_left, Contains-append_right, Contains-append_cases}
use Rattle.gc_base.specs.Walks.{edges_of}
use Rattle.gc_base.specs.declared.walk.Step.{Step}
use Rattle.gc_base.specs.declared.walk.Walk.{Walk}
use Rattle.gc_automata.specs.Moves.{IsNetwork, IsThere}
use Rattle.gc_automata.proofs.Inclusion.{among_more, among_none}
use Rattle.gc_prod.specs.Leading.{Passed, IsTaken, pair}
use Rattle.gc_prod.specs.Products.{Setting}
use Rattle.gc_prod.proofs.LeadLaws.{run_takes, takes_run}
use Rattle.gc_prod.proofs.Members.{here, there, in_map, from_map}
use Rattle.gc_reach.specs.OnWalks.{nodes_of, IsOnRun}
use Rattle.gc_reach.specs.Passing.{AreStepsBetween}
use Rattle.gc_reach.specs.Reached.{AreThose}
use Rattle.gc_reach.proofs.ReachedLaws.{those_other}

module _ (setting : Setting) (law : IsNetwork setting.network) (source target : ℕ) (begins : IsThere setting.network source) where
  abbrev last : ℕ
  last = setting.machine.states - 1

  -- a step that is taken is a step of such a walk
  record Through (s : Step) : Type 0 where
    pub walk : Walk
    pub on : (parts_of : Walk → List ℕ) (id : ℕ) → Contains (parts_of walk) id → IsOnRun parts_of setting source target id
    pub through : Contains walk.steps s

  walk_through : (s : Step) → IsTaken setting (pair source 0) (pair target last) s → Through s
  walk_through s t =
      let by = takes_run setting law t.before t.after (pair source 0) t.at (pair target last) t.move s begins t.leads t.among t.takes t.rest in
      let p = by.passed in
      record {
        walk = p.walk;
        on = λ parts_of id among. record { walk = p.walk; cost = p.cost; runs = (by.count, p.runs); starts = p.starts; ends = p.ends; among = among };
        through = by.through;
      }

  -- and the other way
  step_taken : (parts_of : Walk → List ℕ) (id : ℕ) (on : IsOnRun parts_of setting source target id) (s : Step) → Contains on.walk.steps s → IsTaken setting (pair source 0) (pair target last) s
  step_taken parts_of id on s h =
      let taken = run_takes setting on.runs.0 0 last on.walk on.cost s on.runs.1 h in
      subst (λ n. IsTaken setting (pair n 0) (pair target last) s) on.starts (subst (λ n. IsTaken setting (pair on.walk.start 0) (pair n last) s) on.ends taken)

  between : (parts_of : Walk → List ℕ) (id : ℕ) → IsOnRun parts_of setting source target id → Passed setting (pair source 0) (pair target last)
  between parts_of id on = record { walk = on.walk; cost = on.cost; runs = on.runs; starts = on.starts; ends = on.ends }

  module _ (some : Bool) (steps : List Step) (are : AreStepsBetween setting (pair source 0) (pair target last) some steps) where
    -- the edges
    pub edge_on : (id : ℕ) → Contains (map (λ step. step.edge) steps) id → IsOnRun edges_of setting source target id
    edge_on id h =
        let image = from_map (λ (step : Step). step.edge) steps id h in
        let by = walk_through image.origin (are.sound image.origin image.among) in
        by.on edges_of id (subst (Contains (edges_of by.walk)) image.is (in_map (λ (step : Step). step.edge) by.walk.steps image.origin by.through))

    pub on_edge : (id : ℕ) → IsOnRun edges_of setting source target id → Contains (map (λ step. step.edge) steps) id
    on_edge id on =
        let image = from_map (λ (step : Step). step.edge) on.walk.steps id on.among in
        subst (Contains (map (λ (step : Step). step.edge) steps)) image.is
        (in_map (λ (step : Step). step.edge) steps image.origin (are.complete image.origin (step_taken edges_of id on image.origin image.among)))

    -- the nodes
    abbrev first : List ℕ
    first = cond some (source ∷ []) []

    in_first : some ≡ true → Contains first source
    in_first e = subst (λ b. Contains (cond b (source ∷ []) []) source) (sym e) (here source [])

    from_first : (b : Bool) (id : ℕ) → some ≡ b → Contains (cond b (source ∷ []) []) id → (some ≡ true) × (source ≡ id)
    from_first false id e h = absurd (among_none id h)
    from_first true id e h = (e, by (among_more source [] id h))
      where
        by : (source ≡ id) ⊎ Contains [] id → source ≡ id
        by (inl is) = is
        by (inr none) = absurd (among_none id none)

    pub node_on : (id : ℕ) → Contains (first ++ map (λ step. step.node) steps) id → IsOnRun nodes_of setting source target id
    node_on id h = by (Contains-append_cases first (map (λ (step : Step). step.node) steps) id h)
      where
        starts : (some ≡ true) × (source ≡ id) → IsOnRun nodes_of setting source target id
        starts f =
            let p = are.walks f.0 in
            record {
              walk = p.walk;
              cost = p.cost;
              runs = p.runs;
              starts = p.starts;
              ends = p.ends;
              among = subst (Contains (nodes_of p.walk)) (p.starts ∙ f.1) (here p.walk.start (map (λ (step : Step). step.node) p.walk.steps));
            }

        by : Contains first id ⊎ Contains (map (λ step. step.node) steps) id → IsOnRun nodes_of setting source target id
        by (inl k) = starts (from_first some id refl k)
        by (inr k) =
            let image = from_map (λ (step : Step). step.node) steps id k in
            let through = walk_through image.origin (are.sound image.origin image.among) in
            let visited = in_map (λ (step : Step). step.node) through.walk.steps image.origin through.through in
            through.on nodes_of id (there through.walk.start (map (λ (step : Step). step.node) through.walk.steps) id (subst (Contains (map (λ (step : Step). step.node) through.walk.steps)) image.is visited))

    pub on_node : (id : ℕ) → IsOnRun nodes_of setting source target id → Contains (first ++ map (λ step. step.node) steps) id
    on_node id on = by (among_more on.walk.start (map (λ (step : Step). step.node) on.walk.steps) id on.among)
      where
        by : (on.walk.start ≡ id) ⊎ Contains (map (λ step. step.node) on.walk.steps) id → Contains (first ++ map (λ step. step.node) steps) id
        by (inl is) =
            Contains-append_left first (map (λ (step : Step). step.node) steps) id
            (subst (Contains first) (sym on.starts ∙ is) (in_first (are.walked (between nodes_of id on))))
        by (inr k) =
            let image = from_map (λ (step : Step). step.node) on.walk.steps id k in
            let found = in_map (λ (step : Step). step.node) steps image.origin (are.complete image.origin (step_taken nodes_of id on image.origin image.among)) in
            Contains-append_right first (map (λ (step : Step). step.node) steps) id (subst (Contains (map (λ (step : Step). step.node) steps)) image.is found)

    -- some identities, sorted, are those that lie on walks
    pub nodes_on : (ids sorted nodes : List ℕ) → ids ≡ first ++ map (λ step. step.node) steps → AreThose (Contains ids) sorted → sorted ≡ nodes → AreThose (IsOnRun nodes_of setting source target) nodes
    nodes_on ids sorted nodes is those same =
        subst (AreThose (IsOnRun nodes_of setting source target)) same
        (those_other (Contains ids) (IsOnRun nodes_of setting source target) sorted (λ id h. node_on id (subst (λ (l : List ℕ). Contains l id) is h))
        (λ id on. subst (λ (l : List ℕ). Contains l id) (sym is) (on_node id on)) those)

    pub edges_on : (ids sorted edges : List ℕ) → ids ≡ map (λ step. step.edge) steps → AreThose (Contains ids) sorted → sorted ≡ edges → AreThose (IsOnRun edges_of setting source target) edges
    edges_on ids sorted edges is those same =
        subst (AreThose (IsOnRun edges_of setting source target)) same
        (those_other (Contains ids) (IsOnRun edges_of setting source target) sorted (λ id h. edge_on id (subst (λ (l : List ℕ). Contains l id) is h))
        (λ id on. subst (λ (l : List ℕ). Contains l id) (sym is) (on_edge id on)) those)
