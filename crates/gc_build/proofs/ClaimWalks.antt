-- What stands on the walks of a CONSTRUCT is claimed.
use Rattle.std.proofs.Common.{◌≡◌, ⊎_elim, ℕ, zero, suc, ◌+◌, ◌==◌, ◌&&◌, ◌||◌, Bool, true, false, cond, List, [], ◌∷◌, ◌++◌, map, find, Option, None, Some, refl, sym, ap, ◌∙◌, subst, slice_get, arith}
use Rattle.std.specs.List.{AllByRecursion, Contains, flat_map}
use Rattle.std.specs.Option.{option_and_then, option_map, option_to_list}
use Rattle.std.proofs.lemmas.Bool.{and_parts, eq-eqb, eqb-true}
use Rattle.std.proofs.lemmas.List.Elements.{Contains-append_left, Contains-append_right, Contains-append_cases}
use Rattle.std.proofs.lemmas.Option.{none-some, same_Some}
use Rattle.gc_base.specs.Walks.{edges_of}
use Rattle.gc_base.specs.declared.place.Sym.{Sym}
use Rattle.gc_base.specs.declared.walk.Step.{Step}
use Rattle.gc_base.specs.declared.walk.Walk.{Walk}
use Rattle.gc_ppg.specs.declared.shape.Kind.TheVariants as kind
use Rattle.gc_spec.specs.PropertyGraph.{PropertyGraph, Node, Edge, Path, IsEdge, IsGraph, IsPath, are_steps_from, is_among, is_joined, is_walk, node_ids}
use Rattle.gc_sets.specs.Claims.{Claims}
use Rattle.gc_sets.proofs.Finds.{found_has}
use Rattle.gc_rows.specs.Rows.{datum_at}
use Rattle.gc_rows.specs.declared.datum.Datum.{Datum}
use Rattle.gc_rows.specs.declared.datum.Datum.TheVariants as datum
use Rattle.gc_rows.specs.declared.row.Binding.{Binding}
use Rattle.gc_rows.proofs.Members.{cons_cases, contains_here, contains_later, from_map, of_member, to_filter, to_flat_map}
use Rattle.gc_values.specs.PathParts.{nodes_along, walk_in}
use Rattle.gc_values.specs.declared.reads.ReadUse.{ReadUse}
use Rattle.gc_build_numbers.specs.Settings.{Setting}
use Rattle.gc_build_recipe.specs.Recipes.{Recipe}
use Rattle.gc_build.specs.Claimed.{claims_for, edge_claims, node_claims}
use Rattle.gc_build.specs.Constructed.{making}
use Rattle.gc_build.specs.Fitting.{Fits, GoAlong, IsAlong}
use Rattle.gc_build.specs.Kept.{Kept}
use Rattle.gc_build.specs.Makings.{Making}
use Rattle.gc_build.specs.Walks.{along_graph, has_walk, of_ids, read_graph, walk_edges, walk_if, walk_nodes, walks_from, walks_of}
use Rattle.gc_build.specs.declared.all_paths.AllParts.{AllParts}
use Rattle.gc_build.proofs.ClaimEnds.{IsNodeClaimed, all_claimed, all_kept, member_any}
use Rattle.gc_build.proofs.ClaimOrigins.{graph_among, read_walk}
use Rattle.gc_build.proofs.WalksIn.{both_true, either_true, joined_there, node_there}

-- what is among some identities is one of them
pub among_by : (ids : List ℕ) (id : ℕ) → is_among ids id ≡ true → Contains ids id
among_by [] id h = absurd (cc h)
among_by (i ∷ ids) id h =
    elim (i == id) as (λ b. (i == id) ≡ b → (b || is_among ids id) ≡ true → Contains (i ∷ ids) id) [
      | true ↦ λ is k. subst (Contains (i ∷ ids)) (eqb-true i id is) (contains_here i ids)
      | false ↦ λ is k. contains_later i ids id (among_by ids id k)
    ] refl h

pub is_among_by : (ids : List ℕ) (id : ℕ) → Contains ids id → is_among ids id ≡ true
is_among_by [] id m = absurd (omega (arith, m.1))
is_among_by (i ∷ ids) id m =
    ⊎_elim (λ e. ap (λ b. b || is_among ids id) (eq-eqb i id e)) (λ k. or_true (i == id) (is_among ids id) (is_among_by ids id k)) (cons_cases i ids id m)
  where
    or_true : (a b : Bool) → b ≡ true → (a || b) ≡ true
    or_true true b h = refl
    or_true false b h = h

-- the nodes of a walk of a graph are nodes of it
steps_among : (nodes : List Node) (edges : List Edge) → AllByRecursion (IsEdge nodes) edges → (node : ℕ) (steps : List Step) → are_steps_from edges node steps ≡ true
    → (id : ℕ) → Contains (map (λ (step : Step). step.node) steps) id → is_among (node_ids nodes) id ≡ true
steps_among nodes edges are node [] h id m = absurd (omega (arith, m.1))
steps_among nodes edges are node (step ∷ steps) h id m =
    let parts = and_parts (is_joined edges step.edge node step.node) (are_steps_from edges step.node steps) h in
    ⊎_elim (λ e. subst (λ q. is_among (node_ids nodes) q ≡ true) e (joined_there nodes edges are step.edge node step.node parts.0).1) (λ k. steps_among nodes edges are step.node steps parts.1 id k)
    (cons_cases step.node (map (λ (s : Step). s.node) steps) id m)

pub walk_among : (g : PropertyGraph) → IsGraph g → (w : Walk) → is_walk g.nodes g.edges w ≡ true → (id : ℕ) → Contains (nodes_along w) id → is_among (node_ids g.nodes) id ≡ true
walk_among g is w h id m =
    let parts = and_parts (is_among (node_ids g.nodes) w.start) (are_steps_from g.edges w.start w.steps) h in
    ⊎_elim (λ e. subst (λ q. is_among (node_ids g.nodes) q ≡ true) e parts.0) (λ k. steps_among g.nodes g.edges is.edges w.start w.steps parts.1 id k)
    (cons_cases w.start (map (λ (s : Step). s.node) w.steps) id m)

-- a graph that is read for a variable's own and for what is on its walk is one
reads_same : (reads : List ReadUse) → AllByRecursion (λ (read : ReadUse). read.own ≡ read.walk) reads → (x : Sym)
    → option_map (λ (read : ReadUse). read.own) (find (λ read. read.var.0 == x.0) reads) ≡ option_map (λ (read : ReadUse). read.walk) (find (λ read. read.var.0 == x.0) reads)
reads_same [] h x = refl
reads_same (read ∷ reads) h x =
    elim (read.var.0 == x.0) as (λ b. option_map (λ (q : ReadUse). q.own) (cond b (Some read) (find (λ q. q.var.0 == x.0) reads)) ≡ option_map (λ (q : ReadUse). q.walk) (cond b (Some read) (find (λ q. q.var.0 == x.0) reads))) [
      | true ↦ ap Some h.0
      | false ↦ reads_same reads h.1 x
    ]

-- the walks of a path, each with its row
pub record WalkOf (m : Making) (p : Sym) (w : Walk) : Type 0 where
  pub row : List Binding
  pub among : Contains m.setting.rows row
  pub is : walk_in (read_graph m.setting p) (datum_at row p) ≡ Some w

walks_by : (m : Making) (kept : List Kept) (p : Sym) (first : ℕ) (rows : List (List Binding)) → ((row : List Binding) → Contains rows row → Contains m.setting.rows row) → (w : Walk)
    → Contains (walks_from m kept p first rows) w → WalkOf m p w
walks_by m kept p first [] part w k = absurd (omega (arith, k.1))
walks_by m kept p first (row ∷ rows) part w k =
    ⊎_elim
    (λ n. at (has_walk kept p first) (walk_in (read_graph m.setting p) (datum_at row p)) refl n)
    (λ n. walks_by m kept p (first + 1) rows (λ r c. part r (contains_later row rows r c)) w n)
    (Contains-append_cases (walk_if m p (has_walk kept p first) row) (walks_from m kept p (first + 1) rows) w k)
  where
    at : (b : Bool) (o : Option Walk) → walk_in (read_graph m.setting p) (datum_at row p) ≡ o → Contains (walk_if m p b row) w → WalkOf m p w
    at false o is n = absurd (omega (arith, n.1))
    at true None is n = let none : Contains [] w = subst (λ (q : Option Walk). Contains (option_to_list q) w) is n in absurd (omega (arith, none.1))
    at true (Some v) is n =
        let one : Contains (v ∷ []) w = subst (λ (q : Option Walk). Contains (option_to_list q) w) is n in
        ⊎_elim (λ e. record { row = row; among = part row (contains_here row rows); is = is ∙ ap Some e }) (λ none. absurd (omega (arith, none.1))) (cons_cases v [] w one)

walks_have : (m : Making) (kept : List Kept) (p : Sym) (first : ℕ) (rows : List (List Binding)) (i : ℕ) (row : List Binding) (w : Walk) → slice_get rows i ≡ Some row → has_walk kept p (first + i) ≡ true
    → walk_in (read_graph m.setting p) (datum_at row p) ≡ Some w → Contains (walks_from m kept p first rows) w
walks_have m kept p first [] i row w h k is = absurd (none-some row h)
walks_have m kept p first (r ∷ rows) zero row w h k is =
    let has : has_walk kept p first ≡ true = ap (has_walk kept p) (none first) ∙ k in
    let walk : walk_in (read_graph m.setting p) (datum_at r p) ≡ Some w = ap (λ (q : List Binding). walk_in (read_graph m.setting p) (datum_at q p)) (same_Some r row h) ∙ is in
    Contains-append_left (walk_if m p (has_walk kept p first) r) (walks_from m kept p (first + 1) rows) w
    (subst (λ b. Contains (walk_if m p b r) w) (sym has) (subst (λ (q : Option Walk). Contains (option_to_list q) w) (sym walk) (contains_here w [])))
  where
    none : (n : ℕ) → n ≡ n + 0
    none n = omega arith
walks_have m kept p first (r ∷ rows) (suc i) row w h k is =
    Contains-append_right (walk_if m p (has_walk kept p first) r) (walks_from m kept p (first + 1) rows) w (walks_have m kept p (first + 1) rows i row w h (ap (has_walk kept p) (plus first i) ∙ k) is)
  where
    plus : (n i : ℕ) → n + 1 + i ≡ n + suc i
    plus n i = omega arith

pub walk_has : (m : Making) (kept : List Kept) (p : Sym) (place : ℕ) (row : List Binding) (w : Walk) → slice_get m.setting.rows place ≡ Some row → has_walk kept p place ≡ true
    → walk_in (read_graph m.setting p) (datum_at row p) ≡ Some w → Contains (walks_of m kept p) w
walk_has m kept p place row w h k is = walks_have m kept p 0 m.setting.rows place row w h (ap (has_walk kept p) (from_none place) ∙ k) is
  where
    from_none : (n : ℕ) → 0 + n ≡ n
    from_none n = omega arith

module _ (s : Setting) (r : Recipe) (fits : Fits s r) (next : ℕ) (parts : List AllParts) where
  abbrev m : Making
  m = making s r next

  abbrev kept : List Kept
  kept = all_kept s r fits next parts

  abbrev claims : Claims
  claims = all_claimed s r fits next parts

  -- the identities of what is taken of a graph for a path
  abbrev node_list : AllParts → List ℕ
  node_list a = flat_map nodes_along (walks_of m kept a.path) ++ a.nodes

  abbrev edge_list : AllParts → List ℕ
  edge_list a = flat_map edges_of (walks_of m kept a.path) ++ a.edges

  -- a node on a walk is claimed, and so is an edge
  pub node_on : (a : AllParts) → Contains parts a → (g : PropertyGraph) → along_graph s a.path ≡ Some g → (id : ℕ) → Contains (node_list a) id → is_among (node_ids g.nodes) id ≡ true
      → IsNodeClaimed s r fits next parts id
  node_on a k g is id m there =
      let from = from_map (λ (n : Node). n.id) g.nodes id (among_by (node_ids g.nodes) id there) in
      let n : Node = from.0 in
      let filtered : Contains (of_ids (λ (x : Node). x.id) (λ (q : PropertyGraph). q.nodes) (node_list a) (Some g)) n =
      to_filter (λ (x : Node). is_among (node_list a) x.id) g.nodes n from.1 (is_among_by (node_list a) n.id (subst (Contains (node_list a)) from.2 m)) in
      let of_part : Contains (walk_nodes (making s r next) kept a) n =
      subst (λ (o : Option PropertyGraph). Contains (of_ids (λ (x : Node). x.id) (λ (q : PropertyGraph). q.nodes) (node_list a) o) n) (sym is) filtered in
      let all = to_flat_map (walk_nodes (making s r next) kept) parts a n k of_part in
      subst (λ q. is_among (node_ids claims.nodes) q ≡ true) (sym from.2)
      (node_there claims.nodes n
      (Contains-append_left (flat_map (claims_for (making s r next) kept kind.Node (node_claims (making s r next))) r.variables ++ flat_map (walk_nodes (making s r next) kept) parts) _ n
      (Contains-append_right (flat_map (claims_for (making s r next) kept kind.Node (node_claims (making s r next))) r.variables) (flat_map (walk_nodes (making s r next) kept) parts) n all)))

  pub edge_on : (a : AllParts) → Contains parts a → (g : PropertyGraph) → along_graph s a.path ≡ Some g → (e : Edge) → Contains g.edges e → Contains (edge_list a) e.id → Contains claims.edges e
  edge_on a k g is e m on =
      let filtered : Contains (of_ids (λ (x : Edge). x.id) (λ (q : PropertyGraph). q.edges) (edge_list a) (Some g)) e =
      to_filter (λ (x : Edge). is_among (edge_list a) x.id) g.edges e m (is_among_by (edge_list a) e.id on) in
      let of_part : Contains (walk_edges (making s r next) kept a) e =
      subst (λ (o : Option PropertyGraph). Contains (of_ids (λ (x : Edge). x.id) (λ (q : PropertyGraph). q.edges) (edge_list a) o) e) (sym is) filtered in
      Contains-append_left (flat_map (claims_for (making s r next) kept kind.Edge (edge_claims (making s r next))) r.variables ++ flat_map (walk_edges (making s r next) kept) parts) _ e
      (Contains-append_right (flat_map (claims_for (making s r next) kept kind.Edge (edge_claims (making s r next))) r.variables) (flat_map (walk_edges (making s r next) kept) parts) e
      (to_flat_map (walk_edges (making s r next) kept) parts a e k of_part))

  module _ (reads : AllByRecursion (λ (read : ReadUse). read.own ≡ read.walk) s.reads) (walks : AllByRecursion (GoAlong s) s.rows) where
    same_graph : (p : Sym) → read_graph s p ≡ along_graph s p
    same_graph p = ap (option_and_then (slice_get s.graphs)) (reads_same s.reads reads p)

    -- the walks of a path go along its graph
    datum_along : (p : Sym) (row : List Binding) → Contains s.rows row → (o : Option Datum) → datum_at row p ≡ o → (w : Walk) → walk_in (read_graph s p) o ≡ Some w → IsAlong (along_graph s p) w
    datum_along p row k None is w h = absurd (none-some w h)
    datum_along p row k (Some (datum.Found v)) is w h = subst (IsAlong (along_graph s p)) (same_Some v w h) (of_member (GoAlong s) s.rows row walks k p v is)
    datum_along p row k (Some (datum.Stored id)) is w h =
        let read = read_walk (read_graph s p) id w h in
        let among = graph_among (λ read. read.own) s.reads s.graphs p read.0 read.1 in
        let graph : IsGraph read.0 = of_member IsGraph s.graphs read.0 fits.graphs among in
        let path : IsPath read.0.nodes read.0.edges read.2 = found_has (λ (q : Path). q.id) (IsPath read.0.nodes read.0.edges) read.0.paths id read.2 graph.paths read.3 in
        subst (λ o. IsAlong o w) (sym read.1 ∙ same_graph p) (subst (λ v. is_walk read.0.nodes read.0.edges v ≡ true) read.4 path.walk)
    datum_along p row k (Some (datum.Node id)) is w h = absurd (none-some w h)
    datum_along p row k (Some (datum.Edge id)) is w h = absurd (none-some w h)
    datum_along p row k (Some (datum.Span from to)) is w h = absurd (none-some w h)
    datum_along p row k (Some (datum.Value values)) is w h = absurd (none-some w h)
    datum_along p row k (Some datum.PastRange) is w h = absurd (none-some w h)

    pub walks_along : (p : Sym) (w : Walk) → Contains (walks_of m kept p) w → IsAlong (along_graph s p) w
    walks_along p w k =
        let of = walks_by m kept p 0 s.rows (λ row c. c) w k in datum_along p of.row of.among (datum_at of.row p) refl w of.is

    -- a walk of a path that goes along its graph goes along what is claimed
    joined_claimed : (a : AllParts) → Contains parts a → (g : PropertyGraph) → along_graph s a.path ≡ Some g → (ds : List Edge) → ((e : Edge) → Contains ds e → Contains g.edges e)
        → (id x y : ℕ) → Contains (edge_list a) id → is_joined ds id x y ≡ true → is_joined claims.edges id x y ≡ true
    joined_claimed a k g is [] part id x y on h = absurd (cc h)
    joined_claimed a k g is (e ∷ ds) part id x y on h =
        ⊎_elim
        (λ t.
        let p = and_parts (e.id == id) ((e.from == x && e.to == y) || (e.from == y && e.to == x)) t in
        let there = edge_on a k g is e (part e (contains_here e ds)) (subst (Contains (edge_list a)) (sym (eqb-true e.id id p.0)) on) in
        joins claims.edges e id x y there t)
        (λ t. joined_claimed a k g is ds (λ d c. part d (contains_later e ds d c)) id x y on t)
        (either_true _ _ h)
      where
        joins : (es : List Edge) (e : Edge) (id x y : ℕ) → Contains es e → ((e.id == id) && ((e.from == x && e.to == y) || (e.from == y && e.to == x))) ≡ true → is_joined es id x y ≡ true
        joins es e id x y c t = member_any (λ (d : Edge). (d.id == id) && ((d.from == x && d.to == y) || (d.from == y && d.to == x))) es e c t

    steps_claimed : (a : AllParts) → Contains parts a → (g : PropertyGraph) → along_graph s a.path ≡ Some g → (node : ℕ) (steps : List Step) → ((id : ℕ) → Contains (map (λ (t : Step). t.edge) steps) id → Contains (edge_list a) id)
        → are_steps_from g.edges node steps ≡ true → are_steps_from claims.edges node steps ≡ true
    steps_claimed a k g is node [] on h = refl
    steps_claimed a k g is node (step ∷ steps) on h =
        let p = and_parts (is_joined g.edges step.edge node step.node) (are_steps_from g.edges step.node steps) h in
        both_true (is_joined claims.edges step.edge node step.node) (are_steps_from claims.edges step.node steps)
        (joined_claimed a k g is g.edges (λ e c. c) step.edge node step.node (on step.edge (contains_here step.edge (map (λ (t : Step). t.edge) steps))) p.0)
        (steps_claimed a k g is step.node steps (λ id c. on id (contains_later step.edge (map (λ (t : Step). t.edge) steps) id c)) p.1)

    pub walk_claimed : (a : AllParts) → Contains parts a → (w : Walk) → Contains (walks_of m kept a.path) w → is_walk claims.nodes claims.edges w ≡ true
    walk_claimed a k w c = by (along_graph s a.path) refl (walks_along a.path w c)
      where
        nodes_in : (id : ℕ) → Contains (nodes_along w) id → Contains (node_list a) id
        nodes_in id n = Contains-append_left (flat_map nodes_along (walks_of m kept a.path)) a.nodes id (to_flat_map nodes_along (walks_of m kept a.path) w id c n)

        edges_in : (id : ℕ) → Contains (edges_of w) id → Contains (edge_list a) id
        edges_in id n = Contains-append_left (flat_map edges_of (walks_of m kept a.path)) a.edges id (to_flat_map edges_of (walks_of m kept a.path) w id c n)

        by : (o : Option PropertyGraph) → along_graph s a.path ≡ o → IsAlong o w → is_walk claims.nodes claims.edges w ≡ true
        by None is h = absurd h
        by (Some g) is h =
            let p = and_parts (is_among (node_ids g.nodes) w.start) (are_steps_from g.edges w.start w.steps) h in
            both_true (is_among (node_ids claims.nodes) w.start) (are_steps_from claims.edges w.start w.steps)
            (node_on a k g is w.start (nodes_in w.start (contains_here w.start (map (λ (t : Step). t.node) w.steps))) p.0) (steps_claimed a k g is w.start w.steps edges_in p.1)
