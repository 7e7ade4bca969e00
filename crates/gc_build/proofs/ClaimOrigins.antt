-- What a CONSTRUCT claims comes from the graphs, or is new.
use Rattle.std.proofs.Common.{◌≡◌, ◌⊎◌, inl, inr, ⊎_elim, ℕ, zero, suc, ◌+◌, ◌<◌, ◌==◌, Bool, true, false, cond, List, [], ◌∷◌, ◌++◌, length, map, find, fold, Option, None, Some, refl, sym, ap, ◌∙◌, subst, slice_get, arith}
use Rattle.std.specs.List.{Contains, filter, flat_map}
use Rattle.std.specs.Option.{option_map, option_and_then}
use Rattle.std.proofs.lemmas.Bool.{eqb-true}
use Rattle.std.proofs.lemmas.List.Elements.{Contains-append_cases}
use Rattle.std.proofs.lemmas.Option.{none-some, same_Some}
use Rattle.gc_base.specs.declared.place.Sym.{Sym}
use Rattle.gc_base.specs.declared.walk.Walk.{Walk}
use Rattle.gc_ppg.specs.declared.shape.Kind.{Kind}
use Rattle.gc_ppg.specs.declared.shape.Kind.TheVariants as kind
use Rattle.gc_spec.specs.Coherence.{ElementShape, NodeShape, EdgeShape, PathShape, shape_at}
use Rattle.gc_spec.specs.PropertyGraph.{PropertyGraph, Node, Edge, Path, IsGraph, edge_at, path_at}
use Rattle.gc_sets.specs.Claims.{Claims, IsClaimed, joined, said_of}
use Rattle.gc_sets.specs.Descriptions.{united_node}
use Rattle.gc_sets.specs.Origins.{ComesFrom, IsNew, IsOfOne}
use Rattle.gc_sets.specs.Unions.{united_edge, united_path}
use Rattle.gc_sets.proofs.Shapes.{own_shapes}
use Rattle.gc_sets.proofs.ShapesOf.{Of, edge_is, edge_key, edge_shape, node_key, node_shape, of_edge, of_node, of_path, of_shape, path_is, path_key, path_shape}
use Rattle.gc_rows.specs.Rows.{datum_at}
use Rattle.gc_rows.specs.declared.datum.Datum.{Datum}
use Rattle.gc_rows.specs.declared.datum.Datum.TheVariants as datum
use Rattle.gc_rows.proofs.Members.{cons_cases, contains_here, contains_later, from_filter, from_flat_map, of_member}
use Rattle.gc_group.specs.declared.grouping.Group.{Group}
use Rattle.gc_group.specs.declared.key.Key.{Key}
use Rattle.gc_values.specs.Contexts.{graph_by}
use Rattle.gc_values.specs.Descriptions.{Description}
use Rattle.gc_values.specs.PathParts.{stored_walk}
use Rattle.gc_values.specs.declared.reads.ReadUse.{ReadUse}
use Rattle.gc_build_descriptions.specs.Faults.{elements_of, listed_elements}
use Rattle.gc_build_numbers.specs.Keys.{bound_key, groups_of, key_by, keys_of}
use Rattle.gc_build_numbers.specs.Numbers.{bound_number, elements_by, numbered_from, numbering, taken_by}
use Rattle.gc_build_numbers.specs.Settings.{Setting}
use Rattle.gc_build_numbers.specs.declared.numbered.Element.{Element}
use Rattle.gc_build_numbers.specs.declared.numbered.Numbering.{Numbering}
use Rattle.gc_build_recipe.specs.Recipes.{Recipe}
use Rattle.gc_build_recipe.specs.declared.variable.Grouping.{Grouping}
use Rattle.gc_build_recipe.specs.declared.variable.Grouping.TheVariants as by
use Rattle.gc_build_recipe.specs.declared.variable.Variable.{Variable}
use Rattle.gc_build.specs.AllPaths.{Patterns}
use Rattle.gc_build.specs.Claimed.{Ends, along_edge, claims_for, claims_of, claims_with, edge_claim, edge_claims, ends_by, in_graph, in_items, node_claim, node_claims, path_claim, path_claims, same_kind, walk_by}
use Rattle.gc_build.specs.Constructed.{IsBuilt, elements, making, needed}
use Rattle.gc_build.specs.Fitting.{BindsNodes, Fits}
use Rattle.gc_build.specs.Kept.{Kept, is_claimed, kept_of}
use Rattle.gc_build.specs.Makings.{descriptions_of, identity_by}
use Rattle.gc_build.specs.Walks.{along_graph, of_ids, read_graph, walk_edges, walk_nodes}
use Rattle.gc_build.specs.declared.all_paths.AllParts.{AllParts}
use Rattle.gc_build.specs.declared.built.Built.{Built}
use Rattle.gc_build.proofs.NumberLaws.{IsBoundIn, IsKeyAt, IsNumbered, before_of, element_in, group_key, held_key, key_at, numbered, numbered_range, taken_at}

-- what claims say of an identity is said by one of them
module _ {X : Type 0} (unite : X → X → X) (id_of : X → ℕ) (of : X → ElementShape) (same : (x y : X) → of (unite x y) ≡ of x) where
  first_kept : (x : X) (xs : List X) → of (fold unite x xs) ≡ of x
  first_kept x [] = refl
  first_kept x (y ∷ xs) = first_kept (unite x y) xs ∙ same x y

  joined_first : (xs : List X) (x : X) → joined unite xs ≡ Some x → (y : X) × Contains xs y × (of x ≡ of y)
  joined_first [] x h = absurd (none-some x h)
  joined_first (y ∷ xs) x h = (y, contains_here y xs, ap of (sym (same_Some (fold unite y xs) x h)) ∙ first_kept y xs)

  pub said_by : (claims : List X) (id : ℕ) (x : X) → said_of unite id_of claims id ≡ Some x → (y : X) × Contains claims y × (id_of y ≡ id) × (of x ≡ of y)
  said_by claims id x h =
      let first = joined_first (filter (λ y. id_of y == id) claims) x h in
      let from = from_filter (λ y. id_of y == id) claims first.0 first.1 in
      (first.0, from.0, eqb-true (id_of first.0) id from.1, first.2)

-- what a number names is among the items
pub at_number : {X : Type 0} (xs : List X) (n : ℕ) (x : X) → slice_get xs n ≡ Some x → Contains xs x
at_number [] n x h = absurd (none-some x h)
at_number (y ∷ xs) zero x h = subst (Contains (y ∷ xs)) (same_Some y x h) (contains_here y xs)
at_number (y ∷ xs) (suc n) x h = contains_later y xs x (at_number xs n x h)

-- and so is one in which a variable is read
pub graph_among : (number : ReadUse → ℕ) (reads : List ReadUse) (graphs : List PropertyGraph) (x : Sym) (g : PropertyGraph) → graph_by number reads graphs x ≡ Some g → Contains graphs g
graph_among number reads graphs x g h = at (option_map number (find (λ read. read.var.0 == x.0) reads)) h
  where
    at : (o : Option ℕ) → option_and_then (slice_get graphs) o ≡ Some g → Contains graphs g
    at None k = absurd (none-some g k)
    at (Some n) k = at_number graphs n g k

-- what is claimed for a variable is claimed for one of its elements
pub claims_from : {X : Type 0} (kept : List Kept) (x : Sym) (claim : Element → Description → List X) (es : List Element) (ds : List Description) (c : X)
    → Contains (claims_of kept x claim es ds) c → (e : Element) × (d : Description) × Contains es e × Contains (claim e d) c × (is_claimed kept x e ≡ true)
claims_from kept x claim [] ds c m = absurd (omega (arith, m.1))
claims_from kept x claim (e ∷ es) [] c m = absurd (omega (arith, m.1))
claims_from {X} kept x claim (e ∷ es) (d ∷ ds) c m =
    ⊎_elim (λ k. here (is_claimed kept x e) refl k)
    (λ k. let rest = claims_from kept x claim es ds c k in (rest.0, rest.1, contains_later e es rest.0 rest.2, rest.3, rest.4))
    (Contains-append_cases (cond (is_claimed kept x e) (claim e d) []) (claims_of kept x claim es ds) c m)
  where
    here : (t : Bool) → is_claimed kept x e ≡ t → Contains (cond t (claim e d) []) c → (f : Element) × (q : Description) × Contains (e ∷ es) f × Contains (claim f q) c × (is_claimed kept x f ≡ true)
    here true is k = (e, d, contains_here e es, k, is)
    here false is k = absurd (omega (arith, k.1))

-- the one item of a list
only : {X : Type 0} (x y : X) → Contains (x ∷ []) y → x ≡ y
only x y m = ⊎_elim (λ e. e) (λ k. absurd (omega (arith, k.1))) (cons_cases x [] y m)

-- what some identities have in a graph is of the graph
ids_from : {X : Type 0} (id_of : X → ℕ) (all : PropertyGraph → List X) (ids : List ℕ) (o : Option PropertyGraph) (x : X) → Contains (of_ids id_of all ids o) x
    → (g : PropertyGraph) × (o ≡ Some g) × Contains (all g) x
ids_from id_of all ids None x m = absurd (omega (arith, m.1))
ids_from id_of all ids (Some g) x m = (g, refl, (from_filter _ (all g) x m).0)

-- and so is what an item has
items_from : {X : Type 0} (graphs : List PropertyGraph) (numbers : List ℕ) (all : PropertyGraph → List X) (x : X) → Contains (in_items graphs numbers all) x → (g : PropertyGraph) × Contains graphs g × Contains (all g) x
items_from {X} graphs numbers all x m =
    let from = from_flat_map (λ number. in_graph all (slice_get graphs number)) numbers x m in
    at from.0 (slice_get graphs from.0) refl from.2
  where
    at : (n : ℕ) (o : Option PropertyGraph) → slice_get graphs n ≡ o → Contains (in_graph all o) x → (g : PropertyGraph) × Contains graphs g × Contains (all g) x
    at n None is k = absurd (omega (arith, k.1))
    at n (Some g) is k = (g, at_number graphs n g is, k)

-- a bound variable of nodes stands for a node, whose identity is its number
bound_node : (o : Option Datum) (key : Key) → bound_key kind.Node o ≡ Some key → (id : ℕ) × (o ≡ Some (datum.Node id)) × (bound_number key ≡ id)
bound_node None key h = absurd (none-some key h)
bound_node (Some (datum.Node id)) key h = (id, refl, ap bound_number (sym (same_Some (record { parts = Some (datum.Node id) ∷ [] }) key h)))
bound_node (Some (datum.Edge id)) key h = absurd (none-some key h)
bound_node (Some (datum.Stored id)) key h = absurd (none-some key h)
bound_node (Some (datum.Found walk)) key h = absurd (none-some key h)
bound_node (Some (datum.Span from to)) key h = absurd (none-some key h)
bound_node (Some (datum.Value values)) key h = absurd (none-some key h)
bound_node (Some datum.PastRange) key h = absurd (none-some key h)

-- what an edge claims has the ends that it has; an edge without ends claims nothing
pub edge_one : (id : ℕ) (d : Description) (o : Option Ends) (c : Edge) → Contains (edge_claim id d o) c → (ends : Ends) × (o ≡ Some ends) × (c.id ≡ id) × (edge_shape c ≡ EdgeShape ends.from ends.to)
edge_one id d None c m = absurd (omega (arith, m.1))
edge_one id d (Some ends) c m = let same = only _ c m in (ends, refl, ap (λ (e : Edge). e.id) (sym same), ap edge_shape (sym same))

pub path_one : (id : ℕ) (d : Description) (o : Option Walk) (c : Path) → Contains (path_claim id d o) c → (walk : Walk) × (o ≡ Some walk) × (c.id ≡ id) × (path_shape c ≡ PathShape walk)
path_one id d None c m = absurd (omega (arith, m.1))
path_one id d (Some walk) c m = let same = only _ c m in (walk, refl, ap (λ (p : Path). p.id) (sym same), ap path_shape (sym same))

-- the ends of an edge, and the walk of a stored path, in the graph in which a variable is read
pub read_ends : (graph : Option PropertyGraph) (n : ℕ) (ends : Ends) → option_map along_edge (option_and_then (λ (g : PropertyGraph). edge_at g.edges n) graph) ≡ Some ends
    → (g : PropertyGraph) × (graph ≡ Some g) × (e : Edge) × (edge_at g.edges n ≡ Some e) × (along_edge e ≡ ends)
read_ends None n ends h = absurd (none-some ends h)
read_ends (Some g) n ends h = at (edge_at g.edges n) refl h
  where
    at : (o : Option Edge) → edge_at g.edges n ≡ o → option_map along_edge o ≡ Some ends → (k : PropertyGraph) × (Some g ≡ Some k) × (e : Edge) × (edge_at k.edges n ≡ Some e) × (along_edge e ≡ ends)
    at None is k = absurd (none-some ends k)
    at (Some e) is k = (g, refl, e, is, same_Some (along_edge e) ends k)

pub read_walk : (graph : Option PropertyGraph) (n : ℕ) (walk : Walk) → stored_walk graph n ≡ Some walk
    → (g : PropertyGraph) × (graph ≡ Some g) × (p : Path) × (path_at g.paths n ≡ Some p) × (p.walk ≡ walk)
read_walk None n walk h = absurd (none-some walk h)
read_walk (Some g) n walk h = at (path_at g.paths n) refl h
  where
    at : (o : Option Path) → path_at g.paths n ≡ o → option_map (λ (p : Path). p.walk) o ≡ Some walk → (k : PropertyGraph) × (Some g ≡ Some k) × (p : Path) × (path_at k.paths n ≡ Some p) × (p.walk ≡ walk)
    at None is k = absurd (none-some walk k)
    at (Some p) is k = (g, refl, p, is, same_Some p.walk walk k)

-- a kind that is a kind
pub kind_is : (k l : Kind) → same_kind k l ≡ true → k ≡ l
kind_is kind.Node kind.Node h = refl
kind_is kind.Edge kind.Edge h = refl
kind_is kind.Path kind.Path h = refl
kind_is kind.Node kind.Edge h = absurd (cc h)
kind_is kind.Node kind.Path h = absurd (cc h)
kind_is kind.Edge kind.Node h = absurd (cc h)
kind_is kind.Edge kind.Path h = absurd (cc h)
kind_is kind.Path kind.Node h = absurd (cc h)
kind_is kind.Path kind.Edge h = absurd (cc h)

module _ (s : Setting) (r : Recipe) (fits : Fits s r) (next : ℕ) where
  abbrev after : ℕ
  after = next + needed s r

  pub graph_is : (g : PropertyGraph) → Contains s.graphs g → IsGraph g
  graph_is g m = of_member IsGraph s.graphs g fits.graphs m

  -- how a variable of the recipe is numbered
  abbrev pub whole : Numbering
  whole = numbering s r.variables

  abbrev pub at : Variable → Numbering
  at v = before_of s (record { next = 0; variables = [] }) r.variables v.var

  pub is_numbered : (v : Variable) → Contains r.variables v → IsNumbered s (at v) whole v
  is_numbered v m = numbered s (record { next = 0; variables = [] }) r.variables fits.distinct v m refl

  abbrev pub groups : Variable → List Group
  groups v = groups_of (keys_of s (at v).variables v)

  pub element_among : (v : Variable) → Contains r.variables v → (e : Element) → Contains (elements_of (elements s r) v.var) e → Contains (elements_by v.grouping (at v).next (groups v)) e
  element_among v m e k = subst (λ o. Contains (listed_elements o) e) (is_numbered v m).found k

  -- the shape of a new element
  abbrev pub shape_by : Kind → Variable → Element → Option ElementShape
  shape_by kind.Node v e = Some NodeShape
  shape_by kind.Edge v e = option_map (λ (ends : Ends). EdgeShape ends.from ends.to) (ends_by (making s r next) v.var v.grouping e)
  shape_by kind.Path v e = option_map PathShape (walk_by s v.var v.grouping e)

  -- an identity is that of a new element, which has this shape
  pub record MadeBy (id : ℕ) (shape : ElementShape) : Type 0 where
    pub variable : Variable
    pub among : Contains r.variables variable
    pub element : Element
    pub there : Contains (numbered_from (at variable).next (groups variable)) element
    pub taken : taken_at s (at variable).variables variable ≡ length (groups variable)
    pub number : id ≡ next + element.number
    pub is : shape_by variable.kind variable element ≡ Some shape

  -- an identity has a shape in one of the graphs, or is that of a new element
  abbrev pub Comes : ℕ → ElementShape → Type 0
  Comes id shape = IsOfOne s.graphs id shape ⊎ MadeBy id shape

  node_of : (g : PropertyGraph) → Contains s.graphs g → (n : Node) → Contains g.nodes n → Comes n.id NodeShape
  node_of g m n k =
      inl (record { graph = g; among = m; there = of_member (λ (x : Node). shape_at g x.id ≡ Some NodeShape) g.nodes n (own_shapes g (graph_is g m).distinct).nodes k })

  edge_of : (g : PropertyGraph) → Contains s.graphs g → (e : Edge) → Contains g.edges e → Comes e.id (EdgeShape e.from e.to)
  edge_of g m e k =
      inl (record { graph = g; among = m; there = of_member (λ (x : Edge). shape_at g x.id ≡ Some (EdgeShape x.from x.to)) g.edges e (own_shapes g (graph_is g m).distinct).edges k })

  path_of : (g : PropertyGraph) → Contains s.graphs g → (p : Path) → Contains g.paths p → Comes p.id (PathShape p.walk)
  path_of g m p k =
      inl (record { graph = g; among = m; there = of_member (λ (x : Path). shape_at g x.id ≡ Some (PathShape x.walk)) g.paths p (own_shapes g (graph_is g m).distinct).paths k })

  -- the identity of a new element is new
  new_id : (v : Variable) → Contains r.variables v → (count : ℕ) → taken_at s (at v).variables v ≡ count → (n : ℕ) → n < (at v).next + count → IsNew next after (next + n)
  new_id v m count is n below =
      let within = (is_numbered v m).within in
      record { later = omega arith; before = omega (arith, within, below, is) }

  -- the row by whose key an element is grouped
  pub key_row : (v : Variable) → (g : Group) → Contains (groups v) g → IsKeyAt s (at v).variables v 0 s.rows g.key
  key_row v g m = key_at s (at v).variables v 0 s.rows g.key (held_key (keys_of s (at v).variables v) g.key (group_key (keys_of s (at v).variables v) g m).0)

  -- so is that of what is made
  made_new : (id : ℕ) (shape : ElementShape) → MadeBy id shape → IsNew next after id
  made_new id shape m =
      let range = numbered_range (at m.variable).next (groups m.variable) m.element m.there in
      subst (IsNew next after) (sym m.number) (new_id m.variable m.among (length (groups m.variable)) m.taken m.element.number range.1)

  -- an element has its own identity or a new one
  pub identity_comes : (v : Variable) → Contains r.variables v → (e : Element) (g : Grouping) → v.grouping ≡ g → Contains (elements_by g (at v).next (groups v)) e → (shape : ElementShape)
      → shape_by v.kind v e ≡ Some shape → (g ≡ by.Bound → Comes e.number shape) → Comes (identity_by next g e.number) shape
  identity_comes v m e by.Bound is el shape h f = f refl
  identity_comes v m e by.EachRow is el shape h f = inr (record { variable = v; among = m; element = e; there = el; taken = ap (λ g. taken_by g (groups v)) is; number = refl; is = h })
  identity_comes v m e by.Walk is el shape h f = inr (record { variable = v; among = m; element = e; there = el; taken = ap (λ g. taken_by g (groups v)) is; number = refl; is = h })
  identity_comes v m e (by.Terms terms) is el shape h f = inr (record { variable = v; among = m; element = e; there = el; taken = ap (λ g. taken_by g (groups v)) is; number = refl; is = h })
  identity_comes v m e (by.Link source target terms) is el shape h f =
      inr (record { variable = v; among = m; element = e; there = el; taken = ap (λ g. taken_by g (groups v)) is; number = refl; is = h })

  -- what a bound variable of nodes stands for is a node of a graph
  bound_comes : (v : Variable) → Contains r.variables v → v.kind ≡ kind.Node → v.grouping ≡ by.Bound → (e : Element) → IsBoundIn (groups v) e → Comes e.number NodeShape
  bound_comes v m node bound e el =
      let row = key_row v e.group el.among in
      let key : bound_key kind.Node (datum_at row.row v.var) ≡ Some e.group.key =
      (λ i. key_by s (at v).variables v.var (sym node i) (sym bound i) (0 + row.index) row.row) ∙ row.is in
      let is = bound_node (datum_at row.row v.var) e.group.key key in
      let binds : BindsNodes s.graphs row.row = of_member (BindsNodes s.graphs) s.rows row.row fits.bound (at_number s.rows row.index row.row row.there) in
      inl (subst (λ id. IsOfOne s.graphs id NodeShape) (sym is.2 ∙ sym el.number) (binds v.var is.0 is.1))

  bound_if : (v : Variable) → Contains r.variables v → v.kind ≡ kind.Node → (e : Element) (g : Grouping) → v.grouping ≡ g → Contains (elements_by g (at v).next (groups v)) e → g ≡ by.Bound
      → Comes e.number NodeShape
  bound_if v m node e by.Bound is el h = bound_comes v m node is e (element_in by.Bound (at v).next (groups v) e el)
  bound_if v m node e by.EachRow is el h = absurd (cc h)
  bound_if v m node e by.Walk is el h = absurd (cc h)
  bound_if v m node e (by.Terms terms) is el h = absurd (cc h)
  bound_if v m node e (by.Link source target terms) is el h = absurd (cc h)

  -- what is claimed for the elements of a variable
  node_by : (v : Variable) → Contains r.variables v → v.kind ≡ kind.Node → (e : Element) → Contains (elements_of (elements s r) v.var) e → (d : Description) (c : Node)
      → Contains (node_claims (making s r next) v e d) c → Comes c.id NodeShape
  node_by v m node e k d c n =
      let el = element_among v m e k in
      subst (λ (x : Node). Comes x.id NodeShape) (only (node_claim (identity_by next v.grouping e.number) d) c n)
      (identity_comes v m e v.grouping refl el NodeShape (ap (λ k. shape_by k v e) node) (bound_if v m node e v.grouping refl el))

  read_comes : (v : Variable) (n : ℕ) (ends : Ends) → option_map along_edge (option_and_then (λ (g : PropertyGraph). edge_at g.edges n) (read_graph s v.var)) ≡ Some ends → Comes n (EdgeShape ends.from ends.to)
  read_comes v n ends h =
      let read = read_ends (read_graph s v.var) n ends h in
      let among = graph_among (λ read. read.own) s.reads s.graphs v.var read.0 read.1 in
      inl (record { graph = read.0; among = among; there = edge_is read.0 (graph_is read.0 among) n read.2 read.3 ∙ ap (λ (k : Ends). Some (EdgeShape k.from k.to)) read.4 })

  ends_bound : (v : Variable) (e : Element) (g : Grouping) (ends : Ends) → ends_by (making s r next) v.var g e ≡ Some ends → g ≡ by.Bound → Comes e.number (EdgeShape ends.from ends.to)
  ends_bound v e by.Bound ends h is = read_comes v e.number ends h
  ends_bound v e by.EachRow ends h is = absurd (cc is)
  ends_bound v e by.Walk ends h is = absurd (cc is)
  ends_bound v e (by.Terms terms) ends h is = absurd (cc is)
  ends_bound v e (by.Link source target terms) ends h is = absurd (cc is)

  edge_by : (v : Variable) → Contains r.variables v → v.kind ≡ kind.Edge → (e : Element) → Contains (elements_of (elements s r) v.var) e → (d : Description) (c : Edge)
      → Contains (edge_claims (making s r next) v e d) c → Comes c.id (edge_shape c)
  edge_by v m edge e k d c n =
      let one = edge_one (identity_by next v.grouping e.number) d (ends_by (making s r next) v.var v.grouping e) c n in
      let comes = identity_comes v m e v.grouping refl (element_among v m e k) (EdgeShape one.0.from one.0.to)
      (ap (λ k. shape_by k v e) edge ∙ ap (option_map (λ (ends : Ends). EdgeShape ends.from ends.to)) one.1) (ends_bound v e v.grouping one.0 one.1) in
      subst (λ shape. Comes c.id shape) (sym one.3) (subst (λ id. Comes id (EdgeShape one.0.from one.0.to)) (sym one.2) comes)

  walk_comes : (v : Variable) (n : ℕ) (walk : Walk) → stored_walk (read_graph s v.var) n ≡ Some walk → Comes n (PathShape walk)
  walk_comes v n walk h =
      let read = read_walk (read_graph s v.var) n walk h in
      let among = graph_among (λ read. read.own) s.reads s.graphs v.var read.0 read.1 in
      inl (record { graph = read.0; among = among; there = path_is read.0 (graph_is read.0 among) n read.2 read.3 ∙ ap (λ w. Some (PathShape w)) read.4 })

  walk_bound : (v : Variable) (e : Element) (g : Grouping) (walk : Walk) → walk_by s v.var g e ≡ Some walk → g ≡ by.Bound → Comes e.number (PathShape walk)
  walk_bound v e by.Bound walk h is = walk_comes v e.number walk h
  walk_bound v e by.EachRow walk h is = absurd (cc is)
  walk_bound v e by.Walk walk h is = absurd (cc is)
  walk_bound v e (by.Terms terms) walk h is = absurd (cc is)
  walk_bound v e (by.Link source target terms) walk h is = absurd (cc is)

  path_by : (v : Variable) → Contains r.variables v → v.kind ≡ kind.Path → (e : Element) → Contains (elements_of (elements s r) v.var) e → (d : Description) (c : Path)
      → Contains (path_claims (making s r next) v e d) c → Comes c.id (path_shape c)
  path_by v m path e k d c n =
      let one = path_one (identity_by next v.grouping e.number) d (walk_by s v.var v.grouping e) c n in
      let comes = identity_comes v m e v.grouping refl (element_among v m e k) (PathShape one.0)
      (ap (λ k. shape_by k v e) path ∙ ap (option_map PathShape) one.1) (walk_bound v e v.grouping one.0 one.1) in
      subst (λ shape. Comes c.id shape) (sym one.3) (subst (λ id. Comes id (PathShape one.0)) (sym one.2) comes)

  -- the claims of a kind for a variable
  pub claims_by : {X : Type 0} (kept : List Kept) (k : Kind) (claim : Variable → Element → Description → List X) (v : Variable) (c : X) → Contains (claims_for (making s r next) kept k claim v) c
      → (v.kind ≡ k) × (e : Element) × (d : Description) × Contains (elements_of (elements s r) v.var) e × Contains (claim v e d) c × (is_claimed kept v.var e ≡ true)
  claims_by {X} kept k claim v c m = at (same_kind v.kind k) refl m
    where
      at : (t : Bool) → same_kind v.kind k ≡ t → Contains (cond t (claims_of kept v.var (claim v) (elements_of (elements s r) v.var) (descriptions_of (making s r next).described v.var)) []) c
          → (v.kind ≡ k) × (e : Element) × (d : Description) × Contains (elements_of (elements s r) v.var) e × Contains (claim v e d) c × (is_claimed kept v.var e ≡ true)
      at true is n =
          let from = claims_from kept v.var (claim v) (elements_of (elements s r) v.var) (descriptions_of (making s r next).described v.var) c n in
          (kind_is v.kind k is, from.0, from.1, from.2, from.3, from.4)
      at false is n = absurd (omega (arith, n.1))

  -- each claim comes from the graphs, or is new
  module _ (kept : List Kept) (parts : List AllParts) (graphs : List ℕ) where
    abbrev claims : Claims
    claims = claims_with (making s r next) kept parts graphs

    pub node_comes : (c : Node) → Contains claims.nodes c → Comes c.id NodeShape
    node_comes c m =
        let of_variables = flat_map (claims_for (making s r next) kept kind.Node (node_claims (making s r next))) r.variables in
        let of_walks = flat_map (walk_nodes (making s r next) kept) parts in
        let of_graphs = in_items s.graphs graphs (λ (g : PropertyGraph). g.nodes) in
        ⊎_elim
        (λ k. ⊎_elim
        (λ n.
        let from = from_flat_map _ r.variables c n in
        let by = claims_by kept kind.Node (node_claims (making s r next)) from.0 c from.2 in
        node_by from.0 from.1 by.0 by.1 by.3 by.2 c by.4)
        (λ n.
        let from = from_flat_map _ parts c n in
        let ids = ids_from (λ (x : Node). x.id) (λ (g : PropertyGraph). g.nodes) _ (along_graph s from.0.path) c from.2 in
        node_of ids.0 (graph_among (λ read. read.walk) s.reads s.graphs from.0.path ids.0 ids.1) c ids.2)
        (Contains-append_cases of_variables of_walks c k))
        (λ k. let items = items_from s.graphs graphs (λ (g : PropertyGraph). g.nodes) c k in node_of items.0 items.1 c items.2)
        (Contains-append_cases (of_variables ++ of_walks) of_graphs c m)

    pub edge_comes : (c : Edge) → Contains claims.edges c → Comes c.id (edge_shape c)
    edge_comes c m =
        let of_variables = flat_map (claims_for (making s r next) kept kind.Edge (edge_claims (making s r next))) r.variables in
        let of_walks = flat_map (walk_edges (making s r next) kept) parts in
        let of_graphs = in_items s.graphs graphs (λ (g : PropertyGraph). g.edges) in
        ⊎_elim
        (λ k. ⊎_elim
        (λ n.
        let from = from_flat_map _ r.variables c n in
        let by = claims_by kept kind.Edge (edge_claims (making s r next)) from.0 c from.2 in
        edge_by from.0 from.1 by.0 by.1 by.3 by.2 c by.4)
        (λ n.
        let from = from_flat_map _ parts c n in
        let ids = ids_from (λ (x : Edge). x.id) (λ (g : PropertyGraph). g.edges) _ (along_graph s from.0.path) c from.2 in
        edge_of ids.0 (graph_among (λ read. read.walk) s.reads s.graphs from.0.path ids.0 ids.1) c ids.2)
        (Contains-append_cases of_variables of_walks c k))
        (λ k. let items = items_from s.graphs graphs (λ (g : PropertyGraph). g.edges) c k in edge_of items.0 items.1 c items.2)
        (Contains-append_cases (of_variables ++ of_walks) of_graphs c m)

    pub path_comes : (c : Path) → Contains claims.paths c → Comes c.id (path_shape c)
    path_comes c m =
        let of_variables = flat_map (claims_for (making s r next) kept kind.Path (path_claims (making s r next))) r.variables in
        let of_graphs = in_items s.graphs graphs (λ (g : PropertyGraph). g.paths) in
        ⊎_elim
        (λ n.
        let from = from_flat_map _ r.variables c n in
        let by = claims_by kept kind.Path (path_claims (making s r next)) from.0 c from.2 in
        path_by from.0 from.1 by.0 by.1 by.3 by.2 c by.4)
        (λ k. let items = items_from s.graphs graphs (λ (g : PropertyGraph). g.paths) c k in path_of items.0 items.1 c items.2)
        (Contains-append_cases of_variables of_graphs c m)

    -- so does what the graph of the claims has
    graph_comes : (g : PropertyGraph) → IsClaimed claims g → (id : ℕ) (shape : ElementShape) → Of g id shape → Comes id shape
    graph_comes g is id shape (of_node f) =
        let said = said_by united_node node_key node_shape (λ x y. refl) claims.nodes id f.element (sym (is.nodes id) ∙ f.found) in
        subst (λ k. Comes k shape) said.2 (subst (Comes said.0.id) f.shape (node_comes said.0 said.1))
    graph_comes g is id shape (of_edge f) =
        let said = said_by united_edge edge_key edge_shape (λ x y. refl) claims.edges id f.element (sym (is.edges id) ∙ f.found) in
        subst (λ k. Comes k shape) said.2 (subst (Comes said.0.id) (sym said.3 ∙ f.shape) (edge_comes said.0 said.1))
    graph_comes g is id shape (of_path f) =
        let said = said_by united_path path_key path_shape (λ x y. refl) claims.paths id f.element (sym (is.paths id) ∙ f.found) in
        subst (λ k. Comes k shape) said.2 (subst (Comes said.0.id) (sym said.3 ∙ f.shape) (path_comes said.0 said.1))

-- what is built comes from the graphs
pub built_comes : (s : Setting) (r : Recipe) (ps : Patterns) (next : ℕ) (b : Built) → Fits s r → IsBuilt s r ps next b → ComesFrom s.graphs next b.next b.graph
built_comes s r ps next b fits h id shape t =
    let comes = graph_comes s r fits next (map (kept_of (making s r next)) r.chains) h.due.parts r.graphs b.graph (subst (λ (c : Claims). IsClaimed c b.graph) h.due.are h.graph) id shape (of_shape b.graph id shape t) in
    subst (λ n. IsOfOne s.graphs id shape ⊎ IsNew next n id) (sym h.after) (⊎_elim (λ old. inl old) (λ made. inr (made_new s r fits next id shape made)) comes)
