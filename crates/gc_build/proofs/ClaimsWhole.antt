-- What is claimed on a table that a recipe fits is of one graph.
use Rattle.std.proofs.Common.{◌≡◌, ◌⊎◌, inl, inr, ⊎_elim, ℕ, ◌==◌, ◌&&◌, ◌||◌, Bool, true, false, cond, List, [], ◌∷◌, ◌++◌, map, fold, Option, None, Some, refl, sym, ap, ◌∙◌, subst, slice_get, arith}
use Rattle.std.specs.List.{AllByRecursion, Contains, filter, flat_map}
use Rattle.std.specs.Cmp.{nat_cmp_total, tied_itself}
use Rattle.std.specs.Ordering.{nat_cmp}
use Rattle.std.specs.declared.cmp.Ordering.TheVariants.{Less, Equal}
use Rattle.std.proofs.lemmas.Bool.{and_parts, eq-eqb, eqb-true}
use Rattle.std.proofs.lemmas.List.Elements.{Contains-append_left, Contains-append_right, Contains-append_cases}
use Rattle.std.proofs.lemmas.Option.{none-some, same_Some}
use Rattle.gc_automata.specs.Moves.{Network}
use Rattle.gc_base.specs.Ascending.{Ascends}
use Rattle.gc_base.specs.Walks.{edges_of}
use Rattle.gc_base.specs.declared.place.Sym.{Sym}
use Rattle.gc_base.specs.declared.walk.Step.{Step}
use Rattle.gc_base.specs.declared.walk.Walk.{Walk}
use Rattle.gc_ppg.specs.declared.shape.Kind.TheVariants as kind
use Rattle.gc_spec.specs.Coherence.{ElementShape, NodeShape, EdgeShape, PathShape}
use Rattle.gc_spec.specs.PropertyGraph.{PropertyGraph, Node, Edge, Path, IsEdge, IsGraph, IsPath, are_steps_from, edge_order, is_among, is_joined, is_walk, node_ids}
use Rattle.gc_sets.specs.Agreed.{AreOfOneGraph}
use Rattle.gc_sets.specs.Claims.{Claims}
use Rattle.gc_sets.specs.Elements.{stands}
use Rattle.gc_reach.specs.OnWalks.{nodes_of}
use Rattle.gc_rows.specs.Rows.{datum_at, lists}
use Rattle.gc_rows.specs.declared.datum.Datum.{Datum}
use Rattle.gc_rows.specs.declared.datum.Datum.TheVariants as datum
use Rattle.gc_rows.specs.declared.row.Binding.{Binding}
use Rattle.gc_rows.proofs.Members.{cons_cases, contains_here, contains_later, each_member, from_filter, from_flat_map, from_map, of_member, to_filter, to_flat_map, to_map}
use Rattle.gc_prod.proofs.Networks.{among_all}
use Rattle.gc_alg.specs.Networks.{network_of}
use Rattle.gc_alg.specs.declared.atom.Atom.{Atom}
use Rattle.gc_alg.specs.declared.atom.AtomWhat.{AtomWhat}
use Rattle.gc_alg.specs.declared.atom.AtomWhat.TheVariants as atom
use Rattle.gc_walks.specs.Databases.{AreOnGraphs, database}
use Rattle.gc_group.specs.declared.grouping.Group.{Group}
use Rattle.gc_group.specs.declared.key.Key.{Key}
use Rattle.gc_values.specs.PathParts.{nodes_along, stored_walk, walk_in}
use Rattle.gc_build_numbers.specs.Keys.{bound_key, key_by, keys_of, walk_key}
use Rattle.gc_build_numbers.specs.Numbers.{bound_number, elements_by}
use Rattle.gc_build_numbers.specs.Settings.{Setting}
use Rattle.gc_build_numbers.specs.declared.numbered.Element.{Element}
use Rattle.gc_build_numbers.specs.declared.numbered.Numbered.{Numbered}
use Rattle.gc_build_descriptions.specs.Faults.{elements_of}
use Rattle.gc_build_recipe.specs.Recipes.{Recipe}
use Rattle.gc_build_recipe.specs.declared.variable.Grouping.{Grouping}
use Rattle.gc_build_recipe.specs.declared.variable.Grouping.TheVariants as by
use Rattle.gc_build_recipe.specs.declared.variable.Variable.{Variable}
use Rattle.gc_build.specs.AllPaths.{AreAllParts, AreParts, LiesBetween, LiesBy, LiesIn, LiesOn, Patterns, all_atom, spans_of}
use Rattle.gc_build.specs.declared.spans.Span.{Span}
use Rattle.gc_build.specs.Claimed.{claims_for, edge_claims, ends_by, in_graph, in_items, key_walk, node_claims, path_claims, walk_by}
use Rattle.gc_build.specs.Constructed.{elements, making}
use Rattle.gc_build.specs.Fitting.{FitsWhole, HasAllEnds, IsAlong}
use Rattle.gc_build.specs.Kept.{Kept, is_kept, kept_of}
use Rattle.gc_build.specs.Makings.{Making, identity_by}
use Rattle.gc_build.specs.Walks.{along_graph, has_walk, is_path, of_ids, read_graph, walk_edges, walk_nodes, walked, walks_of, with_path}
use Rattle.gc_build.specs.declared.all_paths.AllParts.{AllParts}
use Rattle.gc_build.proofs.ClaimEnds.{ClaimedBy, IsNodeClaimed, all_claimed, any_member, claimed_by, key_place, member_any, variable_ends}
use Rattle.gc_build.proofs.ClaimOrigins.{at, at_number, claims_by, edge_one, element_among, graph_among, groups, path_one}
use Rattle.gc_build.proofs.ClaimShapes.{claims_agree}
use Rattle.gc_build.proofs.ClaimWalks.{among_by, node_on, walk_claimed, walk_has, walks_along}
use Rattle.gc_build.proofs.NumberLaws.{element_in, group_key}
use Rattle.gc_build.proofs.RowElements.{group_among, row_of_element}
use Rattle.gc_build.proofs.TableRows.{on_graph}
use Rattle.gc_build.proofs.WalksIn.{both_true, conforming, either_true, node_there}

-- an edge of a graph is the one with its identity
one_edge : (es : List Edge) → Ascends edge_order es → (d e : Edge) → Contains es d → Contains es e → d.id ≡ e.id → d ≡ e
one_edge [] up d e m k same = absurd (omega (arith, m.1))
one_edge (f ∷ es) up d e m k same =
    ⊎_elim
    (λ a. ⊎_elim
    (λ b. sym a ∙ b)
    (λ b. absurd (never f e (ap (λ (x : Edge). x.id) a ∙ same) (of_member (λ (x : Edge). edge_order f x ≡ Less) es e up.0 b)))
    (cons_cases f es e k))
    (λ a. ⊎_elim
    (λ b. absurd (never f d (ap (λ (x : Edge). x.id) b ∙ sym same) (of_member (λ (x : Edge). edge_order f x ≡ Less) es d up.0 a)))
    (λ b. one_edge es up.1 d e a b same)
    (cons_cases f es e k))
    (cons_cases f es d m)
  where
    never : (f e : Edge) → f.id ≡ e.id → nat_cmp f.id e.id ≡ Less → ⊥
    never f e same less = let tied : nat_cmp f.id e.id ≡ Equal = ap (nat_cmp f.id) (sym same) ∙ tied_itself nat_cmp_total f.id in absurd (cc (less, tied))

-- an edge that joins two nodes has them as its ends
record JoinedBy (es : List Edge) (id x y : ℕ) : Type 0 where
  edge : Edge
  among : Contains es edge
  is : edge.id ≡ id
  ends : ((edge.from ≡ x) × (edge.to ≡ y)) ⊎ ((edge.from ≡ y) × (edge.to ≡ x))

joined_by : (es : List Edge) (id x y : ℕ) → is_joined es id x y ≡ true → JoinedBy es id x y
joined_by [] id x y h = absurd (cc h)
joined_by (e ∷ es) id x y h =
    ⊎_elim
    (λ k.
    let p = and_parts (e.id == id) ((e.from == x && e.to == y) || (e.from == y && e.to == x)) k in
    record {
      edge = e;
      among = contains_here e es;
      is = eqb-true e.id id p.0;
      ends = ⊎_elim
          (λ q. let both = and_parts (e.from == x) (e.to == y) q in inl (eqb-true e.from x both.0, eqb-true e.to y both.1))
          (λ q. let both = and_parts (e.from == y) (e.to == x) q in inr (eqb-true e.from y both.0, eqb-true e.to x both.1))
          (either_true _ _ p.1);
    })
    (λ k. let rest = joined_by es id x y k in record { edge = rest.edge; among = contains_later e es rest.edge rest.among; is = rest.is; ends = rest.ends })
    (either_true _ _ h)

-- the ends of an edge on a walk are on it
steps_ends : (es : List Edge) → Ascends edge_order es → (e : Edge) → Contains es e → (node : ℕ) (steps : List Step) → are_steps_from es node steps ≡ true → Contains (map (λ (t : Step). t.edge) steps) e.id
    → Contains (node ∷ map (λ (t : Step). t.node) steps) e.from × Contains (node ∷ map (λ (t : Step). t.node) steps) e.to
steps_ends es up e m node [] h on = absurd (omega (arith, on.1))
steps_ends es up e m node (step ∷ steps) h on =
    let parts = and_parts (is_joined es step.edge node step.node) (are_steps_from es step.node steps) h in
    let later = map (λ (t : Step). t.node) steps in
    let first : Contains (node ∷ step.node ∷ later) node = contains_here node (step.node ∷ later) in
    let second : Contains (node ∷ step.node ∷ later) step.node = contains_later node (step.node ∷ later) step.node (contains_here step.node later) in
    ⊎_elim
    (λ same.
    let by = joined_by es step.edge node step.node parts.0 in
    let one : by.edge ≡ e = one_edge es up by.edge e by.among m (by.is ∙ same) in
    let from : by.edge.from ≡ e.from = ap (λ (x : Edge). x.from) one in
    let to : by.edge.to ≡ e.to = ap (λ (x : Edge). x.to) one in
    ⊎_elim
    (λ k. (subst (Contains (node ∷ step.node ∷ later)) (sym k.0 ∙ from) first, subst (Contains (node ∷ step.node ∷ later)) (sym k.1 ∙ to) second))
    (λ k. (subst (Contains (node ∷ step.node ∷ later)) (sym k.0 ∙ from) second, subst (Contains (node ∷ step.node ∷ later)) (sym k.1 ∙ to) first))
    by.ends)
    (λ behind.
    let rest = steps_ends es up e m step.node steps parts.1 behind in
    (contains_later node (step.node ∷ later) e.from rest.0, contains_later node (step.node ∷ later) e.to rest.1))
    (cons_cases step.edge (map (λ (t : Step). t.edge) steps) e.id on)

walk_ends : (g : PropertyGraph) → IsGraph g → (e : Edge) → Contains g.edges e → (w : Walk) → is_walk g.nodes g.edges w ≡ true → Contains (edges_of w) e.id → Contains (nodes_of w) e.from × Contains (nodes_of w) e.to
walk_ends g is e m w h on = steps_ends g.edges is.edges_ascend e m w.start w.steps (and_parts (is_among (node_ids g.nodes) w.start) (are_steps_from g.edges w.start w.steps) h).1 on

-- walks along a graph go along whatever has all of it
steps_wider : (ds es : List Edge) → ((e : Edge) → Contains ds e → Contains es e) → (node : ℕ) (steps : List Step) → are_steps_from ds node steps ≡ true → are_steps_from es node steps ≡ true
steps_wider ds es part node [] h = refl
steps_wider ds es part node (step ∷ steps) h =
    let p = and_parts (is_joined ds step.edge node step.node) (are_steps_from ds step.node steps) h in
    both_true (is_joined es step.edge node step.node) (are_steps_from es step.node steps) (joined_wider ds es part step.edge node step.node p.0) (steps_wider ds es part step.node steps p.1)
  where
    joined_wider : (ds es : List Edge) → ((e : Edge) → Contains ds e → Contains es e) → (id x y : ℕ) → is_joined ds id x y ≡ true → is_joined es id x y ≡ true
    joined_wider ds es part id x y k =
        let any = any_member (λ (d : Edge). (d.id == id) && ((d.from == x && d.to == y) || (d.from == y && d.to == x))) ds k in
        member_any (λ (d : Edge). (d.id == id) && ((d.from == x && d.to == y) || (d.from == y && d.to == x))) es any.0 (part any.0 any.1) any.2

-- each path is walked
walked_keeps : (paths more : List Sym) (p : Sym) → lists paths p ≡ true → lists (fold with_path paths more) p ≡ true
walked_keeps paths [] p h = h
walked_keeps paths (q ∷ more) p h = walked_keeps (with_path paths q) more p (one (lists paths q))
  where
    append_left : (xs ys : List Sym) → lists xs p ≡ true → lists (xs ++ ys) p ≡ true
    append_left [] ys k = absurd (cc k)
    append_left (x ∷ xs) ys k =
        elim (x.0 == p.0) as (λ b. (b || lists xs p) ≡ true → (b || lists (xs ++ ys) p) ≡ true) [ true ↦ λ t. refl | false ↦ λ t. append_left xs ys t ] k

    one : (b : Bool) → lists (cond b paths (paths ++ q ∷ [])) p ≡ true
    one true = h
    one false = append_left paths (q ∷ []) h

walked_has : (paths more : List Sym) (p : Sym) → Contains more p → lists (fold with_path paths more) p ≡ true
walked_has paths [] p m = absurd (omega (arith, m.1))
walked_has paths (q ∷ more) p m =
    ⊎_elim (λ e. walked_keeps (with_path paths q) more p (subst (λ (x : Sym). lists (with_path paths q) x ≡ true) e (added (lists paths q) refl))) (λ k. walked_has (with_path paths q) more p k) (cons_cases q more p m)
  where
    at_end : (xs : List Sym) → lists (xs ++ q ∷ []) q ≡ true
    at_end [] = ap (λ b. b || false) (eq-eqb q.0 q.0 refl)
    at_end (x ∷ xs) = elim (x.0 == q.0) as (λ b. (b || lists (xs ++ q ∷ []) q) ≡ true) [ true ↦ refl | false ↦ at_end xs ]

    added : (b : Bool) → lists paths q ≡ b → lists (cond b paths (paths ++ q ∷ [])) q ≡ true
    added true is = is
    added false is = at_end paths

abbrev pub source_of : ElementShape → ℕ
source_of NodeShape = 0
source_of (EdgeShape from to) = from
source_of (PathShape walk) = 0

abbrev pub target_of : ElementShape → ℕ
target_of NodeShape = 0
target_of (EdgeShape from to) = to
target_of (PathShape walk) = 0

abbrev walk_in_shape : ElementShape → Walk
walk_in_shape NodeShape = record { start = 0; steps = [] }
walk_in_shape (EdgeShape from to) = record { start = 0; steps = [] }
walk_in_shape (PathShape walk) = walk

same_sym : (x y : Sym) → (x.0 == y.0) ≡ true → x ≡ y
same_sym x y t = let e : x.0 ≡ y.0 = eqb-true x.0 y.0 t in λ i. record { 0 = e i }

number_bound : (g : Grouping) → g ≡ by.Bound → (n : ℕ) (gs : List Group) (e : Element) → Contains (elements_by g n gs) e → e.number ≡ bound_number e.group.key
number_bound by.Bound is n gs e c = (element_in by.Bound n gs e c).number
number_bound by.EachRow is n gs e c = absurd (cc is)
number_bound by.Walk is n gs e c = absurd (cc is)
number_bound (by.Terms terms) is n gs e c = absurd (cc is)
number_bound (by.Link source target terms) is n gs e c = absurd (cc is)

bound_path : (o : Option Datum) (key : Key) → bound_key kind.Path o ≡ Some key → (id : ℕ) × (o ≡ Some (datum.Stored id)) × (bound_number key ≡ id)
bound_path None key h = absurd (none-some key h)
bound_path (Some (datum.Stored id)) key h = (id, refl, ap bound_number (sym (same_Some (record { parts = Some (datum.Stored id) ∷ [] }) key h)))
bound_path (Some (datum.Node id)) key h = absurd (none-some key h)
bound_path (Some (datum.Edge id)) key h = absurd (none-some key h)
bound_path (Some (datum.Found walk)) key h = absurd (none-some key h)
bound_path (Some (datum.Span from to)) key h = absurd (none-some key h)
bound_path (Some (datum.Value values)) key h = absurd (none-some key h)
bound_path (Some datum.PastRange) key h = absurd (none-some key h)

found_path : (o : Option Datum) (key : Key) (w : Walk) → walk_key o ≡ Some key → key_walk key ≡ Some w → o ≡ Some (datum.Found w)
found_path None key w h k = absurd (none-some key h)
found_path (Some (datum.Found v)) key w h k = ap (λ u. Some (datum.Found u)) (same_Some v w (ap key_walk (same_Some (record { parts = Some (datum.Found v) ∷ [] }) key h) ∙ k))
found_path (Some (datum.Stored id)) key w h k = absurd (none-some key h)
found_path (Some (datum.Node id)) key w h k = absurd (none-some key h)
found_path (Some (datum.Edge id)) key w h k = absurd (none-some key h)
found_path (Some (datum.Span from to)) key w h k = absurd (none-some key h)
found_path (Some (datum.Value values)) key w h k = absurd (none-some key h)
found_path (Some datum.PastRange) key w h k = absurd (none-some key h)

-- what a row has for a path of which an element is claimed
path_datum : (s : Setting) (before : List Numbered) (x : Sym) (g : Grouping) (place : ℕ) (row : List Binding) (e : Element) → (g ≡ by.Bound → e.number ≡ bound_number e.group.key)
    → key_by s before x kind.Path g place row ≡ Some e.group.key → (w : Walk) → walk_by s x g e ≡ Some w → walk_in (read_graph s x) (datum_at row x) ≡ Some w
path_datum s before x by.Bound place row e number key w h =
    let is = bound_path (datum_at row x) e.group.key key in
    ap (walk_in (read_graph s x)) is.1 ∙ (ap (stored_walk (read_graph s x)) (sym is.2 ∙ sym (number refl)) ∙ h)
path_datum s before x by.Walk place row e number key w h = ap (walk_in (read_graph s x)) (found_path (datum_at row x) e.group.key w key h)
path_datum s before x by.EachRow place row e number key w h = absurd (none-some w h)
path_datum s before x (by.Terms terms) place row e number key w h = absurd (none-some w h)
path_datum s before x (by.Link source target terms) place row e number key w h = absurd (none-some w h)

module _ (s : Setting) (r : Recipe) (ps : Patterns) (next : ℕ) (whole : FitsWhole s r ps next) (segments : AreOnGraphs s.graphs ps.segments) (parts : List AllParts)
    (exact : AreAllParts ps (making s r next) (map (kept_of (making s r next)) r.chains) parts) where
  abbrev m : Making
  m = making s r next

  abbrev kept : List Kept
  kept = map (kept_of m) r.chains

  abbrev claims : Claims
  claims = all_claimed s r whole.fits next parts

  abbrev IsNode : ℕ → Type 0
  IsNode id = IsNodeClaimed s r whole.fits next parts id

  abbrev HasBoth : Edge → Type 0
  HasBoth e = IsNode e.from × IsNode e.to

  graph_is : (g : PropertyGraph) → Contains s.graphs g → IsGraph g
  graph_is g k = of_member IsGraph s.graphs g whole.fits.graphs k

  -- of an edge that is claimed for a variable
  of_variable : (v : Variable) → Contains r.variables v → (c : Edge) → Contains (claims_for m kept kind.Edge (edge_claims m) v) c → HasBoth c
  of_variable v k c n =
      let by = claims_by s r whole.fits next kept kind.Edge (edge_claims m) v c n in
      let one = edge_one (identity_by next v.grouping by.1.number) by.2 (ends_by m v.var v.grouping by.1) c by.4 in
      let claimed = claimed_by m r.chains v.var by.1 by.5 in
      let has = of_member (HasAllEnds s r) r.chains claimed.by.chain whole.ends claimed.by.among v k by.0 claimed.by.has in
      let both = variable_ends s r whole.fits next parts v k by.0 by.1 by.3 claimed v.grouping refl has one.0 one.1 in
      let from : c.from ≡ one.0.from = ap source_of one.3 in
      let to : c.to ≡ one.0.to = ap target_of one.3 in
      (subst IsNode (sym from) both.0, subst IsNode (sym to) both.1)

  -- of one on a walk that lies in its graph
  on_walk : (a : AllParts) → Contains parts a → (g : PropertyGraph) → along_graph s a.path ≡ Some g → Contains s.graphs g → (e : Edge) → Contains g.edges e
      → ((id : ℕ) → Contains (flat_map nodes_along (walks_of m kept a.path) ++ a.nodes) id → is_among (node_ids g.nodes) id ≡ true → IsNode id)
      → (w : Walk) → Contains (walks_of m kept a.path) w → is_walk g.nodes g.edges w ≡ true → Contains (edges_of w) e.id → HasBoth e
  on_walk a k g is among e there node w c h on =
      let ends = walk_ends g (graph_is g among) e there w h on in
      let edge : IsEdge g.nodes e = among_all (IsEdge g.nodes) g.edges e (graph_is g among).edges there in
      let in_list : (id : ℕ) → Contains (nodes_of w) id → Contains (flat_map nodes_along (walks_of m kept a.path) ++ a.nodes) id =
      λ id n. Contains-append_left (flat_map nodes_along (walks_of m kept a.path)) a.nodes id (to_flat_map nodes_along (walks_of m kept a.path) w id c n) in
      (node e.from (in_list e.from ends.0) edge.source, node e.to (in_list e.to ends.1) edge.target)

  -- of one on the walks of an ALL path
  in_network : (a : Atom) (e : Edge) (g : PropertyGraph) → slice_get s.graphs a.graph ≡ Some g → Contains g.edges e → (spans : List Span) (o : Option Network) → network_of (database s.graphs ps.segments) a ≡ o
      → (what : AtomWhat) → LiesIn edges_of o what spans e.id → LiesIn nodes_of o what spans e.from × LiesIn nodes_of o what spans e.to
  in_network a e g there m spans None is what l = absurd l
  in_network a e g there m spans (Some network) is (atom.Node x labels) l = absurd l
  in_network a e g there m spans (Some network) is (atom.Edge x y z way labels) l = absurd l
  in_network a e g there m spans (Some network) is (atom.Property x k name v) l = absurd l
  in_network a e g there m spans (Some network) is (atom.Stored x p y labels) l = absurd l
  in_network a e g there m spans (Some network) is (atom.Reach x y regex views) l = absurd l
  in_network a e g there m spans (Some network) is (atom.Found x p y k cost regex views) l = absurd l
  in_network a e g there m spans (Some network) is (atom.All x p y regex views) l =
      let on = on_graph s.graphs ps.segments whole.fits.graphs segments a network is in
      let same : g ≡ network.graph = same_Some g network.graph (sym there ∙ on.number) in
      let walk = conforming network on.graph on.own regex l.lies.walk l.lies.cost l.lies.conforms in
      let ends = walk_ends network.graph on.graph e (subst (λ (q : PropertyGraph). Contains q.edges e) same m) l.lies.walk walk l.lies.among in
      let lies : (id : ℕ) → Contains (nodes_of l.lies.walk) id → LiesBetween nodes_of network regex spans id =
      λ id n. record {
        span = l.span;
        among = l.among;
        lies = record { walk = l.lies.walk; cost = l.lies.cost; conforms = l.lies.conforms; starts = l.lies.starts; ends = l.lies.ends; among = n };
      } in
      (lies e.from ends.0, lies e.to ends.1)

  by_atom : (p : Sym) (e : Edge) (g : PropertyGraph) → along_graph s p ≡ Some g → Contains g.edges e → (spans : List Span) (o : Option Atom) → all_atom ps.block p ≡ o
      → LiesBy edges_of (database s.graphs ps.segments) o spans e.id → LiesBy nodes_of (database s.graphs ps.segments) o spans e.from × LiesBy nodes_of (database s.graphs ps.segments) o spans e.to
  by_atom p e g is there spans None at l = absurd l
  by_atom p e g is there spans (Some a) at l =
      in_network a e g (whole.all p a at ∙ is) there spans (network_of (database s.graphs ps.segments) a) refl a.what l

  on_parts : (a : AllParts) → Contains parts a → (g : PropertyGraph) → along_graph s a.path ≡ Some g → Contains s.graphs g → (e : Edge) → Contains g.edges e → Contains a.edges e.id → HasBoth e
  on_parts a k g is among e there on =
      let are : AreParts ps m kept a = of_member (AreParts ps m kept) parts a exact.each k in
      let lies = of_member (LiesOn edges_of ps m kept a.path) a.edges e.id are.edges.sound on in
      let ends = by_atom a.path e g is there (spans_of m kept a.path) (all_atom ps.block a.path) refl lies in
      let edge : IsEdge g.nodes e = among_all (IsEdge g.nodes) g.edges e (graph_is g among).edges there in
      let in_list : (id : ℕ) → Contains a.nodes id → Contains (flat_map nodes_along (walks_of m kept a.path) ++ a.nodes) id =
      λ id n. Contains-append_right (flat_map nodes_along (walks_of m kept a.path)) a.nodes id n in (
        node_on s r whole.fits next parts a k g is e.from (in_list e.from (are.nodes.complete e.from ends.0)) edge.source,
        node_on s r whole.fits next parts a k g is e.to (in_list e.to (are.nodes.complete e.to ends.1)) edge.target,
      )

  of_walks : (a : AllParts) → Contains parts a → (e : Edge) → Contains (walk_edges m kept a) e → HasBoth e
  of_walks a k e n =
      let from = from_ids (along_graph s a.path) refl n in
      let g : PropertyGraph = from.0 in
      let among = graph_among (λ read. read.walk) s.reads s.graphs a.path g from.1 in
      ⊎_elim
      (λ c.
      let w = from_flat_map edges_of (walks_of m kept a.path) e.id c in
      let along : IsAlong (Some g) w.0 = subst (λ (o : Option PropertyGraph). IsAlong o w.0) from.1 (walks_along s r whole.fits next parts whole.reads whole.walks a.path w.0 w.1) in
      on_walk a k g from.1 among e from.2 (λ id l t. node_on s r whole.fits next parts a k g from.1 id l t) w.0 w.1 along w.2)
      (λ c. on_parts a k g from.1 among e from.2 c)
      (Contains-append_cases (flat_map edges_of (walks_of m kept a.path)) a.edges e.id from.3)
    where
      from_ids : (o : Option PropertyGraph) → along_graph s a.path ≡ o → Contains (of_ids (λ (x : Edge). x.id) (λ (q : PropertyGraph). q.edges) (flat_map edges_of (walks_of m kept a.path) ++ a.edges) o) e
          → (g : PropertyGraph) × (along_graph s a.path ≡ Some g) × Contains g.edges e × Contains (flat_map edges_of (walks_of m kept a.path) ++ a.edges) e.id
      from_ids None is c = absurd (omega (arith, c.1))
      from_ids (Some g) is c =
          let f = from_filter (λ (x : Edge). is_among (flat_map edges_of (walks_of m kept a.path) ++ a.edges) x.id) g.edges e c in
          (g, is, f.0, among_by (flat_map edges_of (walks_of m kept a.path) ++ a.edges) e.id f.1)

  -- of one of a graph that is an item
  item_nodes : (g : PropertyGraph) (number : ℕ) → Contains r.graphs number → slice_get s.graphs number ≡ Some g → (n : Node) → Contains g.nodes n → Contains claims.nodes n
  item_nodes g number k is n c =
      Contains-append_right (flat_map (claims_for m kept kind.Node (node_claims m)) r.variables ++ flat_map (walk_nodes m kept) parts) (in_items s.graphs r.graphs (λ (q : PropertyGraph). q.nodes)) n
      (to_flat_map (λ i. in_graph (λ (q : PropertyGraph). q.nodes) (slice_get s.graphs i)) r.graphs number n k (subst (λ (o : Option PropertyGraph). Contains (in_graph (λ (q : PropertyGraph). q.nodes) o) n) (sym is) c))

  item_edges : (g : PropertyGraph) (number : ℕ) → Contains r.graphs number → slice_get s.graphs number ≡ Some g → (e : Edge) → Contains g.edges e → Contains claims.edges e
  item_edges g number k is e c =
      Contains-append_right (flat_map (claims_for m kept kind.Edge (edge_claims m)) r.variables ++ flat_map (walk_edges m kept) parts) (in_items s.graphs r.graphs (λ (q : PropertyGraph). q.edges)) e
      (to_flat_map (λ i. in_graph (λ (q : PropertyGraph). q.edges) (slice_get s.graphs i)) r.graphs number e k (subst (λ (o : Option PropertyGraph). Contains (in_graph (λ (q : PropertyGraph). q.edges) o) e) (sym is) c))

  item_node : (g : PropertyGraph) (number : ℕ) → Contains r.graphs number → slice_get s.graphs number ≡ Some g → (id : ℕ) → is_among (node_ids g.nodes) id ≡ true → IsNode id
  item_node g number k is id h =
      let from = from_map (λ (n : Node). n.id) g.nodes id (among_by (node_ids g.nodes) id h) in
      subst IsNode (sym from.2) (node_there claims.nodes from.0 (item_nodes g number k is from.0 from.1))

  of_items : (e : Edge) → Contains (in_items s.graphs r.graphs (λ (q : PropertyGraph). q.edges)) e → HasBoth e
  of_items e n =
      let from = from_flat_map (λ i. in_graph (λ (q : PropertyGraph). q.edges) (slice_get s.graphs i)) r.graphs e n in
      at from.0 from.1 (slice_get s.graphs from.0) refl from.2
    where
      at : (number : ℕ) → Contains r.graphs number → (o : Option PropertyGraph) → slice_get s.graphs number ≡ o → Contains (in_graph (λ (q : PropertyGraph). q.edges) o) e → HasBoth e
      at number k None is c = absurd (omega (arith, c.1))
      at number k (Some g) is c =
          let edge : IsEdge g.nodes e = among_all (IsEdge g.nodes) g.edges e (graph_is g (at_number s.graphs number g is)).edges c in
          (item_node g number k is e.from edge.source, item_node g number k is e.to edge.target)

  all_ends : AllByRecursion (λ e. stands claims.nodes e ≡ true) claims.edges
  all_ends =
      let of_variables = flat_map (claims_for m kept kind.Edge (edge_claims m)) r.variables in
      let of_paths = flat_map (walk_edges m kept) parts in
      let of_graphs = in_items s.graphs r.graphs (λ (q : PropertyGraph). q.edges) in
      each_member _ claims.edges (λ e n.
      let both : HasBoth e =
      ⊎_elim
      (λ k. ⊎_elim
      (λ c. let from = from_flat_map (claims_for m kept kind.Edge (edge_claims m)) r.variables e c in of_variable from.0 from.1 e from.2)
      (λ c. let from = from_flat_map (walk_edges m kept) parts e c in of_walks from.0 from.1 e from.2)
      (Contains-append_cases of_variables of_paths e k))
      (λ k. of_items e k)
      (Contains-append_cases (of_variables ++ of_paths) of_graphs e n) in
      both_true (is_among (node_ids claims.nodes) e.from) (is_among (node_ids claims.nodes) e.to) both.0 both.1)

  -- the walk of a stored path that is claimed for a variable is one of its walks
  walk_on : (v : Variable) → Contains r.variables v → v.kind ≡ kind.Path → (e : Element) → Contains (elements_of (elements s r) v.var) e → ClaimedBy m r.chains v.var e
      → (w : Walk) → walk_by s v.var v.grouping e ≡ Some w → Contains (walks_of m kept v.var) w
  walk_on v k path e there claimed w h =
      let before = (at s r whole.fits next v).variables in
      let keys = keys_of s before v in
      let among = element_among s r whole.fits next v k e there in
      let el = element_in v.grouping (at s r whole.fits next v).next (groups s r whole.fits next v) e among in
      let group = group_key keys e.group (group_among v.grouping (at s r whole.fits next v).next (groups s r whole.fits next v) e el) in
      let here = key_place s before v keys e.group.key claimed.place refl (row_of_element keys e.group claimed.place group.1 claimed.on) in
      let has : has_walk kept v.var claimed.place ≡ true =
      member_any (λ q. (lists q.places v.var || lists q.projected v.var) && is_kept claimed.place q) kept (kept_of m claimed.by.chain) (to_map (kept_of m) r.chains claimed.by.chain claimed.by.among)
      (both_true (lists claimed.by.chain.places v.var || lists claimed.by.chain.projected v.var) (is_kept claimed.place (kept_of m claimed.by.chain))
      (ap (λ b. b || lists claimed.by.chain.projected v.var) claimed.by.has) claimed.by.kept) in
      let key : key_by s before v.var kind.Path v.grouping claimed.place here.0 ≡ Some e.group.key = (λ j. key_by s before v.var (sym path j) v.grouping claimed.place here.0) ∙ here.1 in
      walk_has m kept v.var claimed.place here.0 w here.2 has
      (path_datum s before v.var v.grouping claimed.place here.0 e (λ bound. number_bound v.grouping bound (at s r whole.fits next v).next (groups s r whole.fits next v) e among) key w h)

  part_of : (all : List AllParts) (p : Sym) → lists (map (λ (a : AllParts). a.path) all) p ≡ true → (a : AllParts) × Contains all a × (a.path ≡ p)
  part_of [] p h = absurd (cc h)
  part_of (a ∷ all) p h =
      elim (a.path.0 == p.0) as (λ b. (a.path.0 == p.0) ≡ b → (b || lists (map (λ (q : AllParts). q.path) all) p) ≡ true → (q : AllParts) × Contains (a ∷ all) q × (q.path ≡ p)) [
        | true ↦ λ t k. (a, contains_here a all, same_sym a.path p t)
        | false ↦ λ t k. let rest = part_of all p k in (rest.0, contains_later a all rest.0 rest.1, rest.2)
      ] refl h

  variable_walk : (v : Variable) → Contains r.variables v → (c : Path) → Contains (claims_for m kept kind.Path (path_claims m) v) c → is_walk claims.nodes claims.edges c.walk ≡ true
  variable_walk v k c n =
      let by = claims_by s r whole.fits next kept kind.Path (path_claims m) v c n in
      let one = path_one (identity_by next v.grouping by.1.number) by.2 (walk_by s v.var v.grouping by.1) c by.4 in
      let claimed = claimed_by m r.chains v.var by.1 by.5 in
      let on = walk_on v k by.0 by.1 by.3 claimed one.0 one.1 in
      let stored : Contains (map (λ (u : Variable). u.var) (filter (λ (u : Variable). is_path u.kind) r.variables)) v.var =
      to_map (λ (u : Variable). u.var) (filter (λ (u : Variable). is_path u.kind) r.variables) v (to_filter (λ (u : Variable). is_path u.kind) r.variables v k (ap is_path by.0)) in
      let listed : lists (walked kept r.variables) v.var ≡ true =
      walked_has [] (flat_map (λ q. q.projected) kept ++ map (λ (u : Variable). u.var) (filter (λ (u : Variable). is_path u.kind) r.variables)) v.var
      (Contains-append_right (flat_map (λ q. q.projected) kept) (map (λ (u : Variable). u.var) (filter (λ (u : Variable). is_path u.kind) r.variables)) v.var stored) in
      let part = part_of parts v.var (ap (λ (xs : List Sym). lists xs v.var) exact.paths ∙ listed) in
      let walk = walk_claimed s r whole.fits next parts whole.reads whole.walks part.0 part.1 one.0 (subst (λ (p : Sym). Contains (walks_of m kept p) one.0) (sym part.2) on) in
      subst (λ (w : Walk). is_walk claims.nodes claims.edges w ≡ true) (sym (ap walk_in_shape one.3)) walk

  item_walk : (c : Path) → Contains (in_items s.graphs r.graphs (λ (q : PropertyGraph). q.paths)) c → is_walk claims.nodes claims.edges c.walk ≡ true
  item_walk c n =
      let from = from_flat_map (λ i. in_graph (λ (q : PropertyGraph). q.paths) (slice_get s.graphs i)) r.graphs c n in
      by from.0 from.1 (slice_get s.graphs from.0) refl from.2
    where
      by : (number : ℕ) → Contains r.graphs number → (o : Option PropertyGraph) → slice_get s.graphs number ≡ o → Contains (in_graph (λ (q : PropertyGraph). q.paths) o) c → is_walk claims.nodes claims.edges c.walk ≡ true
      by number k None is l = absurd (omega (arith, l.1))
      by number k (Some g) is l =
          let path : IsPath g.nodes g.edges c = among_all (IsPath g.nodes g.edges) g.paths c (graph_is g (at_number s.graphs number g is)).paths l in
          let p = and_parts (is_among (node_ids g.nodes) c.walk.start) (are_steps_from g.edges c.walk.start c.walk.steps) path.walk in
          both_true (is_among (node_ids claims.nodes) c.walk.start) (are_steps_from claims.edges c.walk.start c.walk.steps) (item_node g number k is c.walk.start p.0)
          (steps_wider g.edges claims.edges (λ e f. item_edges g number k is e f) c.walk.start c.walk.steps p.1)

  all_walks : AllByRecursion (λ c. is_walk claims.nodes claims.edges c.walk ≡ true) claims.paths
  all_walks =
      let of_variables = flat_map (claims_for m kept kind.Path (path_claims m)) r.variables in
      each_member _ claims.paths (λ c n.
      ⊎_elim
      (λ k. let from = from_flat_map (claims_for m kept kind.Path (path_claims m)) r.variables c k in variable_walk from.0 from.1 c from.2)
      (λ k. item_walk c k)
      (Contains-append_cases of_variables (in_items s.graphs r.graphs (λ (q : PropertyGraph). q.paths)) c n))

  -- all that is claimed is of one graph
  pub claims_whole : AreOfOneGraph claims
  claims_whole = record { one = claims_agree s r whole.fits next whole.standing kept parts r.graphs; ends = all_ends; walks = all_walks }
