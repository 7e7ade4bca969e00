-- A recipe whose links are those of the block of its MATCH fits the table of the block whole.
use Rattle.std.proofs.Common.{◌≡◌, ◌⊎◌, inl, inr, ⊎_elim, ℕ, pos, nat_le, ◌==◌, Bool, true, false, cond, List, [], ◌∷◌, map, Option, None, Some, refl, sym, ap, ◌∙◌, subst, arith, slice_get}
use Rattle.std.specs.Prelude.{⊤}
use Rattle.std.specs.List.{AllByRecursion, Contains, find, flat_map}
use Rattle.std.specs.Option.{option_and_then, option_map}
use Rattle.std.proofs.lemmas.Bool.{eqb-true}
use Rattle.std.proofs.lemmas.Option.{none-some, same_Some}
use Rattle.gc_automata.specs.Moves.{Network}
use Rattle.gc_base.specs.declared.literal.Literal.{Literal}
use Rattle.gc_base.specs.declared.literal.Literal.TheVariants.{Number}
use Rattle.gc_base.specs.declared.place.Direction.{Direction}
use Rattle.gc_base.specs.declared.place.Direction.TheVariants.{Forward, Backward, Either}
use Rattle.gc_base.specs.declared.place.Sym.{Sym}
use Rattle.gc_base.specs.declared.properties.Property.{Property}
use Rattle.gc_base.specs.declared.walk.Walk.{Walk}
use Rattle.gc_ppg.specs.declared.shape.Kind.TheVariants as kind
use Rattle.gc_spec.specs.Coherence.{AreCoherent, AreSame, EdgeShape, ElementShape, NodeShape, PathShape, shape_at}
use Rattle.gc_spec.specs.PropertyGraph.{PropertyGraph, Edge, IsGraph, edge_at, is_walk}
use Rattle.gc_sets.specs.Origins.{AreStanding}
use Rattle.gc_sets.proofs.Shapes.{own_shapes}
use Rattle.gc_sets.proofs.ShapesOf.{edge_is}
use Rattle.gc_rows.specs.Rows.{datum_at, lists}
use Rattle.gc_rows.specs.declared.datum.Datum.{Datum}
use Rattle.gc_rows.specs.declared.datum.Datum.TheVariants as datum
use Rattle.gc_rows.specs.declared.row.Binding.{Binding}
use Rattle.gc_rows.proofs.Members.{AllByRecursion-flat_map, AllByRecursion-map, contains_here, contains_later, cons_cases, each_member, from_flat_map, from_map, of_member, to_flat_map}
use Rattle.gc_values.specs.declared.reads.ReadUse.{ReadUse}
use Rattle.gc_alg.specs.Blocks.{IsRowOfBlock}
use Rattle.gc_alg.specs.Instances.{Ends, Has, IsInstance, Meets, MeetsIn, Satisfies, against, along, at_edge, at_node, at_path, at_values, bound, cost_bound, edge_bound, ends_of, fit, instances, node_bound, path_bound, value_bound, variables_of}
use Rattle.gc_alg.specs.Networks.{Database, network_of}
use Rattle.gc_alg.specs.Tables.{block_atoms}
use Rattle.gc_alg.specs.Trees.{Tree, ABlock, APart, atoms_of, items, parts_of}
use Rattle.gc_alg.specs.declared.atom.Atom.{Atom}
use Rattle.gc_alg.specs.declared.atom.AtomWhat.{AtomWhat}
use Rattle.gc_alg.specs.declared.atom.AtomWhat.TheVariants as atom
use Rattle.gc_prod.specs.Segments.{Segments}
use Rattle.gc_walks.specs.Databases.{AreOnGraphs, database}
use Rattle.gc_build_numbers.specs.Settings.{Setting}
use Rattle.gc_build_recipe.specs.Recipes.{Chain, Recipe}
use Rattle.gc_build_recipe.specs.declared.variable.Grouping.{Grouping}
use Rattle.gc_build_recipe.specs.declared.variable.Grouping.TheVariants as by
use Rattle.gc_build_recipe.specs.declared.variable.Variable.{Variable}
use Rattle.gc_build.specs.AllPaths.{Patterns, all_atom, is_all_of}
use Rattle.gc_build.specs.Fitting.{Fits, FitsWhole, GoAlong, HasAllEnds, HasEnds, HasNode, IsAlong, StandsOn}
use Rattle.gc_build.specs.Linked.{AreLinked, HasLinksOf, HasPattern, IsBoundPlace, IsFirst, IsLinked, IsOwn, IsReadThere, in_part, walk_number}
use Rattle.gc_build.specs.Walks.{along_graph, read_graph}
use Rattle.gc_build.proofs.BoundRows.{IsMet, bound_is_met, first_is_met}
use Rattle.gc_build.proofs.ClaimEnds.{member_any}
use Rattle.gc_build.proofs.ClaimOrigins.{at_number, graph_among}
use Rattle.gc_build.proofs.ClaimsWhole.{source_of, target_of}
use Rattle.gc_build.proofs.TableRows.{from_atom, of_graph, on_graph}

-- the shape of an edge of a graph
edge_shape : (g : PropertyGraph) → IsGraph g → (e : Edge) → Contains g.edges e → shape_at g e.id ≡ Some (EdgeShape e.from e.to)
edge_shape g is e m = of_member (λ (x : Edge). shape_at g x.id ≡ Some (EdgeShape x.from x.to)) g.edges e (own_shapes g is.distinct).edges m

-- an edge of two graphs that stand together has the same ends in both
same_ends : (g h : PropertyGraph) → AreCoherent g h → (id a b c d : ℕ) → shape_at g id ≡ Some (EdgeShape a b) → shape_at h id ≡ Some (EdgeShape c d) → (a ≡ c) × (b ≡ d)
same_ends g h coherent id a b c d first second =
    let here = subst (λ (o : Option ElementShape). AreSame o (shape_at h id)) first (coherent id) in
    let same : EdgeShape a b ≡ EdgeShape c d = subst (AreSame (Some (EdgeShape a b))) second here in
    (ap source_of same, ap target_of same)

same_sym : (x y : Sym) → (x.0 == y.0) ≡ true → x ≡ y
same_sym x y t = let e : x.0 ≡ y.0 = eqb-true x.0 y.0 t in λ i. record { 0 = e i }

found_in : {X : Type 0} (p : X → Bool) (xs : List X) (x : X) → find p xs ≡ Some x → Contains xs x × (p x ≡ true)
found_in p [] x h = absurd (none-some x h)
found_in p (y ∷ xs) x h =
    elim (p y) as (λ b. p y ≡ b → cond b (Some y) (find p xs) ≡ Some x → Contains (y ∷ xs) x × (p x ≡ true)) [
      | true ↦ λ t k. let same = same_Some y x k in (subst (Contains (y ∷ xs)) same (contains_here y xs), subst (λ z. p z ≡ true) same t)
      | false ↦ λ t k. let rest = found_in p xs x k in (contains_later y xs x rest.0, rest.1)
    ] refl h

-- what a row has that meets an edge pattern: an edge of the graph between its ends, one way or the other
record EdgeMet (g : PropertyGraph) (row : List Binding) (l x r : Sym) : Type 0 where
  edge : Edge
  among : Contains g.edges edge
  is : datum_at row x ≡ Some (datum.Edge edge.id)
  ends : ((datum_at row l ≡ Some (datum.Node edge.from)) × (datum_at row r ≡ Some (datum.Node edge.to)))
      ⊎ ((datum_at row l ≡ Some (datum.Node edge.to)) × (datum_at row r ≡ Some (datum.Node edge.from)))

module _ (g : PropertyGraph) (l x r : Sym) (way : Direction) (labels : List (List (List ℕ))) (row i : List Binding) where
  of_fit : (b : Bool) (e : Edge) → Contains (cond b (map (edge_bound l x r e) (ends_of way e)) []) i → (ends : Ends) × Contains (ends_of way e) ends × (i ≡ edge_bound l x r e ends)
  of_fit true e m = from_map (edge_bound l x r e) (ends_of way e) i m
  of_fit false e m = absurd (omega (arith, m.1))

  one_of : (ends : Ends) (a : Ends) → Contains (a ∷ []) ends → a ≡ ends
  one_of ends a m = ⊎_elim (λ k. k) (λ k. absurd (omega (arith, k.1))) (cons_cases a [] ends m)

  loop_or : (b : Bool) (e : Edge) (ends : Ends) → Contains (along e ∷ cond b [] (against e ∷ [])) ends → (along e ≡ ends) ⊎ (against e ≡ ends)
  loop_or true e ends m = inl (one_of ends (along e) m)
  loop_or false e ends m = ⊎_elim inl (λ k. inr (one_of ends (against e) k)) (cons_cases (along e) (against e ∷ []) ends m)

  either_way : (d : Direction) (e : Edge) (ends : Ends) → Contains (ends_of d e) ends → (along e ≡ ends) ⊎ (against e ≡ ends)
  either_way Forward e ends m = inl (one_of ends (along e) m)
  either_way Backward e ends m = inr (one_of ends (against e) m)
  either_way Either e ends m = loop_or (e.from == e.to) e ends m

  edge_met : Contains (instances g (atom.Edge l x r way labels)) i → Has row i → EdgeMet g row l x r
  edge_met m has =
      let one = from_flat_map (at_edge l x r way labels) g.edges i m in
      let by = of_fit (fit labels one.0.labels) one.0 one.2 in
      let held : Has row (edge_bound l x r one.0 by.0) = subst (Has row) by.2 has in
      record {
        edge = one.0;
        among = one.1;
        is = held.1.0;
        ends = ⊎_elim
            (λ a. inl (held.0 ∙ ap (λ (k : Ends). Some (datum.Node k.left)) (sym a), held.1.1.0 ∙ ap (λ (k : Ends). Some (datum.Node k.right)) (sym a)))
            (λ a. inr (held.0 ∙ ap (λ (k : Ends). Some (datum.Node k.left)) (sym a), held.1.1.0 ∙ ap (λ (k : Ends). Some (datum.Node k.right)) (sym a)))
            (either_way way one.0 by.0 by.1);
      }

-- of what an instance stands for, only a found path's own variable stands for a walk
abbrev BindsWalk : AtomWhat → Sym → Type 0
BindsWalk (atom.Found x p y k cost regex views) z = p ≡ z
BindsWalk what z = ⊥

abbrev TellsWalk : AtomWhat → Sym → Datum → Type 0
TellsWalk what z (datum.Found walk) = BindsWalk what z
TellsWalk what z d = ⊤

abbrev Tells : AtomWhat → List Binding → Type 0
Tells what bindings = AllByRecursion (λ b. TellsWalk what b.var b.datum) bindings

tells_if : (what : AtomWhat) (b : Bool) (is : List (List Binding)) → AllByRecursion (Tells what) is → AllByRecursion (Tells what) (cond b is [])
tells_if what true is h = h
tells_if what false is h = tt

values_tell : (what : AtomWhat) (x : Sym) (element : Datum) (name : List ℕ) (v : Sym) (properties : List Property) → TellsWalk what x element → AllByRecursion (Tells what) (at_values x element name v properties)
values_tell what x element name v properties h = AllByRecursion-map _ (value_bound x element v) _ (each_member _ _ (λ value m. (h, (tt, tt))))

cost_tells : (what : AtomWhat) (cost : Option Sym) (c : ℕ) → Tells what (cost_bound cost c)
cost_tells what None c = tt
cost_tells what (Some x) c = (by (nat_le c 9223372036854775807), tt)
  where
    by : (t : Bool) → TellsWalk what x (cond t (datum.Value (Number (pos c) ∷ [])) datum.PastRange)
    by true = tt
    by false = tt

all_tell : (g : PropertyGraph) (what : AtomWhat) → AllByRecursion (Tells what) (instances g what)
all_tell g (atom.Node x labels) =
    AllByRecursion-flat_map _ (at_node x labels) g.nodes (each_member _ g.nodes (λ n m. tells_if (atom.Node x labels) (fit labels n.labels) (node_bound x n ∷ []) ((tt, tt), tt)))
all_tell g (atom.Edge x e y way labels) =
    AllByRecursion-flat_map _ (at_edge x e y way labels) g.edges (each_member _ g.edges (λ one m.
    tells_if (atom.Edge x e y way labels) (fit labels one.labels) _ (AllByRecursion-map _ (edge_bound x e y one) (ends_of way one) (each_member _ (ends_of way one) (λ ends k. (tt, (tt, (tt, tt))))))))
all_tell g (atom.Property x kind.Node name v) = AllByRecursion-flat_map _ _ g.nodes (each_member _ g.nodes (λ n m. values_tell (atom.Property x kind.Node name v) x (datum.Node n.id) name v n.properties tt))
all_tell g (atom.Property x kind.Edge name v) = AllByRecursion-flat_map _ _ g.edges (each_member _ g.edges (λ e m. values_tell (atom.Property x kind.Edge name v) x (datum.Edge e.id) name v e.properties tt))
all_tell g (atom.Property x kind.Path name v) = AllByRecursion-flat_map _ _ g.paths (each_member _ g.paths (λ p m. values_tell (atom.Property x kind.Path name v) x (datum.Stored p.id) name v p.properties tt))
all_tell g (atom.Stored x p y labels) =
    AllByRecursion-flat_map _ (at_path x p y labels) g.paths (each_member _ g.paths (λ one m. tells_if (atom.Stored x p y labels) (fit labels one.labels) (path_bound x p y one ∷ []) ((tt, (tt, (tt, tt))), tt)))
all_tell g (atom.Reach x y regex views) = tt
all_tell g (atom.Found x p y k cost regex views) = tt
all_tell g (atom.All x p y regex views) = tt

instance_tells : (network : Network) (what : AtomWhat) (i : List Binding) → IsInstance network what i → Tells what i
instance_tells network (atom.Node x labels) i m = of_member _ (instances network.graph (atom.Node x labels)) i (all_tell network.graph (atom.Node x labels)) m
instance_tells network (atom.Edge x e y way labels) i m = of_member _ (instances network.graph (atom.Edge x e y way labels)) i (all_tell network.graph (atom.Edge x e y way labels)) m
instance_tells network (atom.Property x kind name v) i m = of_member _ (instances network.graph (atom.Property x kind name v)) i (all_tell network.graph (atom.Property x kind name v)) m
instance_tells network (atom.Stored x p y labels) i m = of_member _ (instances network.graph (atom.Stored x p y labels)) i (all_tell network.graph (atom.Stored x p y labels)) m
instance_tells network (atom.Reach x y regex views) i m = subst (Tells (atom.Reach x y regex views)) (sym m.bindings) (tt, (tt, tt))
instance_tells network (atom.Found x p y k cost regex views) i m =
    subst (Tells (atom.Found x p y k cost regex views)) (sym m.bindings) (tt, (refl, (tt, cost_tells (atom.Found x p y k cost regex views) cost m.found.cost)))
instance_tells network (atom.All x p y regex views) i m = subst (Tells (atom.All x p y regex views)) (sym m.bindings) (tt, (tt, (tt, tt)))

read_there : (reads : List ReadUse) (graph : ℕ) (what : AtomWhat) (p : Sym) → BindsWalk what p → IsReadThere reads graph what → walk_number reads p ≡ Some graph
read_there reads graph (atom.Node x labels) p h there = absurd h
read_there reads graph (atom.Edge x e y way labels) p h there = absurd h
read_there reads graph (atom.Property x kind name v) p h there = absurd h
read_there reads graph (atom.Stored x q y labels) p h there = absurd h
read_there reads graph (atom.Reach x y regex views) p h there = absurd h
read_there reads graph (atom.Found x q y k cost regex views) p h there = subst (λ (z : Sym). walk_number reads z ≡ Some graph) h there
read_there reads graph (atom.All x q y regex views) p h there = absurd h

all_there : (reads : List ReadUse) (graph : ℕ) (what : AtomWhat) (p : Sym) → is_all_of p what ≡ true → IsReadThere reads graph what → walk_number reads p ≡ Some graph
all_there reads graph (atom.Node x labels) p h there = absurd (cc h)
all_there reads graph (atom.Edge x e y way labels) p h there = absurd (cc h)
all_there reads graph (atom.Property x kind name v) p h there = absurd (cc h)
all_there reads graph (atom.Stored x q y labels) p h there = absurd (cc h)
all_there reads graph (atom.Reach x y regex views) p h there = absurd (cc h)
all_there reads graph (atom.Found x q y k cost regex views) p h there = absurd (cc h)
all_there reads graph (atom.All x q y regex views) p h there = subst (λ (z : Sym). walk_number reads z ≡ Some graph) (same_sym q p h) there

-- a place of a chain that a row binds to a node
has_node : (r : Recipe) (c : Chain) (x : Sym) → IsBoundPlace r c x → (row : List Binding) (id : ℕ) → datum_at row x ≡ Some (datum.Node id) → HasNode r c row id
has_node r c x place row id h = record {
  variable = place.variable;
  among = place.among;
  kind = place.kind;
  bound = place.bound;
  place = subst (λ (z : Sym). lists c.places z ≡ true) (sym place.is) place.place;
  node = ap (datum_at row) place.is ∙ h;
}

abbrev edge_number : Datum → ℕ
edge_number (datum.Edge id) = id
edge_number d = 0

module _ (s : Setting) (r : Recipe) (ps : Patterns) (next : ℕ) (fits : Fits s r) (standing : AreStanding s.graphs next) (segments : AreOnGraphs s.graphs ps.segments)
    (rows : AllByRecursion (IsRowOfBlock (database s.graphs ps.segments) [] ps.block) s.rows) (links : HasLinksOf ps.block s.reads r) where
  abbrev db : Database
  db = database s.graphs ps.segments

  row_is : (row : List Binding) → Contains s.rows row → IsRowOfBlock db [] ps.block row
  row_is row m = of_member (IsRowOfBlock db [] ps.block) s.rows row rows m

  graph_is : (g : PropertyGraph) → Contains s.graphs g → IsGraph g
  graph_is g k = of_member IsGraph s.graphs g fits.graphs k

  -- a row that binds an edge meets the pattern of the edge
  pattern_met : (c : Chain) (x : Sym) (p : HasPattern ps.block r c x) (row : List Binding) → Contains s.rows row → (d : Datum) → datum_at row x ≡ Some d
      → AllByRecursion (Satisfies db row) (atoms_of p.part)
  pattern_met c x p row m d h =
      ⊎_elim
      (λ first. first_is_met db ps.block row (row_is row m) p.part first)
      (λ only.
      let met = bound_is_met db ps.block row (row_is row m) x d h in
      let has : in_part x met.part ≡ true = member_any (λ (a : Atom). lists (variables_of a.what) x) (atoms_of met.part) met.has.atom met.has.among met.has.listed in
      subst (λ (q : Tree APart). AllByRecursion (Satisfies db row) (atoms_of q)) (only met.part met.among has) met.meets)
      p.own

  -- so its ends are nodes for which the places beside it stand
  ends_met : (c : Chain) (x : Sym) (p : HasPattern ps.block r c x) (row : List Binding) (id : ℕ) (e : Edge) → datum_at row x ≡ Some (datum.Edge id)
      → (g : PropertyGraph) → Contains s.graphs g → edge_at g.edges id ≡ Some e → (o : Option Network)
      → network_of db (record { graph = p.graph; what = atom.Edge p.left x p.right p.way p.labels }) ≡ o → MeetsIn o (atom.Edge p.left x p.right p.way p.labels) row
      → HasNode r c row e.from × HasNode r c row e.to
  ends_met c x p row id e bound g among there None is m = absurd m
  ends_met c x p row id e bound g among there (Some network) is m =
      let a : Atom = record { graph = p.graph; what = atom.Edge p.left x p.right p.way p.labels } in
      let on = on_graph s.graphs ps.segments fits.graphs segments a network is in
      let met = edge_met network.graph p.left x p.right p.way p.labels row m.instance m.there m.holds in
      let same_id : met.edge.id ≡ id = ap edge_number (same_Some (datum.Edge met.edge.id) (datum.Edge id) (sym met.is ∙ bound)) in
      let coherent = standing.coherent g network.graph among (at_number s.graphs p.graph network.graph on.number) in
      let same = same_ends g network.graph coherent id e.from e.to met.edge.from met.edge.to (edge_is g (graph_is g among) id e there)
      (subst (λ n. shape_at network.graph n ≡ Some (EdgeShape met.edge.from met.edge.to)) same_id (edge_shape network.graph on.graph met.edge met.among)) in
      ⊎_elim
      (λ k. (
        has_node r c p.left p.left_place row e.from (k.0 ∙ ap (λ n. Some (datum.Node n)) (sym same.0)),
        has_node r c p.right p.right_place row e.to (k.1 ∙ ap (λ n. Some (datum.Node n)) (sym same.1)),
      ))
      (λ k. (
        has_node r c p.right p.right_place row e.from (k.1 ∙ ap (λ n. Some (datum.Node n)) (sym same.0)),
        has_node r c p.left p.left_place row e.to (k.0 ∙ ap (λ n. Some (datum.Node n)) (sym same.1)),
      ))
      met.ends

  bound_ends : (c : Chain) (x : Sym) → HasPattern ps.block r c x → HasEnds s r c x by.Bound
  bound_ends c x p row id e m bound read =
      let a : Atom = record { graph = p.graph; what = atom.Edge p.left x p.right p.way p.labels } in
      let meets = of_member (Satisfies db row) (atoms_of p.part) a (pattern_met c x p row m (datum.Edge id) bound) p.pattern in
      at (read_graph s x) refl read meets
    where
      at : (o : Option PropertyGraph) → read_graph s x ≡ o → option_and_then (λ g. edge_at g.edges id) o ≡ Some e
          → Satisfies db row (record { graph = p.graph; what = atom.Edge p.left x p.right p.way p.labels }) → HasNode r c row e.from × HasNode r c row e.to
      at None is k meets = absurd (none-some e k)
      at (Some g) is k meets =
          ends_met c x p row id e bound g (graph_among (λ read. read.own) s.reads s.graphs x g is) k
          (network_of db (record { graph = p.graph; what = atom.Edge p.left x p.right p.way p.labels })) refl meets

  linked_ends : (c : Chain) (x : Sym) (g : Grouping) → IsLinked ps.block r c x g → HasEnds s r c x g
  linked_ends c x by.Bound h = bound_ends c x h
  linked_ends c x by.EachRow h = tt
  linked_ends c x by.Walk h = tt
  linked_ends c x (by.Terms terms) h = tt
  linked_ends c x (by.Link source target terms) h = h

  all_ends : AllByRecursion (HasAllEnds s r) r.chains
  all_ends = each_member (HasAllEnds s r) r.chains (λ c m v k edge placed.
      linked_ends c v.var v.grouping (of_member (AreLinked ps.block r) r.chains c links.linked m v k edge placed))

  -- a walk that a row has goes along the graph in which it is read
  goes_along : (row : List Binding) → Contains s.rows row → GoAlong s row
  goes_along row m p walk h =
      let met = bound_is_met db ps.block row (row_is row m) p (datum.Found walk) h in
      let a : Atom = met.has.atom in
      let meets = of_member (Satisfies db row) (atoms_of met.part) a met.meets met.has.among in
      let from = from_atom db row p (datum.Found walk) a met.has.listed h meets in
      let told = of_member (λ (b : Binding). TellsWalk a.what b.var b.datum) from.instance from.binding (instance_tells from.network a.what from.instance from.there) from.among in
      let binds : BindsWalk a.what p = subst (λ (d : Datum). TellsWalk a.what p d) from.datum (subst (λ (z : Sym). TellsWalk a.what z from.binding.datum) from.var told) in
      let read = of_member (λ (b : Atom). IsReadThere s.reads b.graph b.what) (block_atoms ps.block) a links.read (to_flat_map atoms_of (items (parts_of ps.block)) met.part a met.among met.has.among) in
      let number = read_there s.reads a.graph a.what p binds read in
      let on = on_graph s.graphs ps.segments fits.graphs segments a from.network from.is in
      let along_is : along_graph s p ≡ Some from.network.graph = ap (option_and_then (slice_get s.graphs)) number ∙ on.number in
      subst (λ (o : Option PropertyGraph). IsAlong o walk) (sym along_is) (of_graph s.graphs ps.segments fits.graphs segments row p (datum.Found walk) a from)

  stands_on : StandsOn s ps
  stands_on p a h =
      let found = found_in (λ (b : Atom). is_all_of p b.what) (block_atoms ps.block) a h in
      let read = of_member (λ (b : Atom). IsReadThere s.reads b.graph b.what) (block_atoms ps.block) a links.read found.0 in
      sym (ap (option_and_then (slice_get s.graphs)) (all_there s.reads a.graph a.what p found.1 read))

  pub fits_whole : AllByRecursion (λ read. read.own ≡ read.walk) s.reads → FitsWhole s r ps next
  fits_whole reads = record {
    fits = fits;
    standing = standing;
    ends = all_ends;
    reads = reads;
    walks = each_member (GoAlong s) s.rows goes_along;
    all = stands_on;
  }
