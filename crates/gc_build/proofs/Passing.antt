-- What lies on the walks of an ALL pattern, between the nodes of spans.
use Rattle.std.proofs.Common.{◌≡◌, ⊎_elim, ℕ, ◌+◌, ◌<◌, Bool, true, false, cond, List, [], ◌∷◌, ◌++◌, find, length, get_or, take, Option, None, Some, sym, ap, ◌∙◌, subst, slice_get, add-one}
use Rattle.std.proofs.Math.Seq.{take-suc}
use Rattle.std.proofs.lemmas.Option.{same_Some}
use Rattle.std.proofs.lemmas.List.Elements.{Contains-append_left, Contains-append_right, Contains-append_cases}
use Rattle.std.specs.List.{AllByRecursion, Contains, flat_map}
use Rattle.std.specs.Option.{option_map}
use Rattle.std.specs.Ordering.{nat_cmp}
use Rattle.gc_base.specs.Ascending.{Ascends}
use Rattle.gc_base.specs.Walks.{edges_of}
use Rattle.gc_base.specs.declared.place.Sym.{Sym}
use Rattle.gc_base.specs.declared.walk.Walk.{Walk}
use Rattle.gc_spec.specs.PropertyGraph.{PropertyGraph, is_among, node_ids}
use Rattle.gc_regx.specs.Expressions.{HasParts}
use Rattle.gc_regx.specs.Trees.{RegexTree, ARegex}
use Rattle.gc_automata.specs.Conformance.{conforms}
use Rattle.gc_automata.specs.Machines.{IsAutomatonOf, Machine}
use Rattle.gc_automata.specs.Moves.{Network, IsNetwork, IsThere, Segment}
use Rattle.gc_automata.proofs.Inclusion.{among_none}
use Rattle.gc_automata.proofs.Lawful.{IsLawful, Lawful, conforms_lawful}
use Rattle.gc_prod.specs.Products.{Setting as Product}
use Rattle.gc_prod.specs.Segments.{Segments}
use Rattle.gc_reach.specs.OnWalks.{IsOnWalk, nodes_of}
use Rattle.gc_reach.specs.Reached.{AreThose}
use Rattle.gc_rows.specs.Tables.{HasExactly}
use Rattle.gc_rows.proofs.Members.{contains_here, cons_cases, each_member, of_member}
use Rattle.gc_alg.specs.Networks.{Database, network_of, network_on, named_segments, views_of}
use Rattle.gc_alg.specs.declared.atom.Atom.{Atom}
use Rattle.gc_alg.specs.declared.atom.AtomWhat.{AtomWhat}
use Rattle.gc_alg.specs.declared.atom.AtomWhat.TheVariants as atom
use Rattle.gc_alg.specs.declared.atom.ViewUse.{ViewUse}
use Rattle.gc_walks.specs.Databases.{database, used_segments}
use Rattle.gc_build.specs.AllPaths.{LiesBetween, LiesBy, LiesIn}
use Rattle.gc_build.specs.Passed.{AreJust, ArePassed}
use Rattle.gc_build.specs.declared.spans.Span.{Span}

-- lists of exactly what is meant
pub just_those : (P : ℕ → Type 0) (ids : List ℕ) → AreThose P ids → AreJust P ids
just_those P ids h = record { sound = λ id m. of_member P ids id h.sound m; complete = h.complete }

pub just_none : (P : ℕ → Type 0) (ids : List ℕ) → ids ≡ [] → ((id : ℕ) → P id → ⊥) → AreJust P ids
just_none P ids e never = record {
  sound = λ id m. absurd (among_none id (subst (λ (xs : List ℕ). Contains xs id) e m));
  complete = λ id h. absurd (never id h);
}

pub those_of : (P : ℕ → Type 0) (ids left : List ℕ) → AreJust P ids → Ascends nat_cmp left → HasExactly ids left → AreThose P left
those_of P ids left h up exact = record {
  ascend = up;
  sound = each_member P left (λ id m. h.sound id (exact.sound id m));
  complete = λ id p. exact.complete id (h.complete id p);
}

-- the same of what holds just where something else does
pub just_other : (P Q : ℕ → Type 0) (ids : List ℕ) → ((id : ℕ) → P id → Q id) → ((id : ℕ) → Q id → P id) → AreJust P ids → AreJust Q ids
just_other P Q ids f g h = record { sound = λ id m. f id (h.sound id m); complete = λ id q. h.complete id (g id q) }

module _ (parts_of : Walk → List ℕ) (network : Network) (tree : RegexTree ARegex) where
  -- walks lead from node to node
  module _ (is : IsNetwork network) where
    lawful : IsLawful network (conforms network tree)
    unfolding Lawful
    lawful = conforms_lawful network is {k = ARegex} tree

    pub from_there : (from to id : ℕ) → IsOnWalk parts_of network tree from to id → IsThere network from
    from_there from to id h = subst (IsThere network) h.starts (lawful.starts h.walk h.cost h.conforms)

    pub to_there : (from to id : ℕ) → IsOnWalk parts_of network tree from to id → IsThere network to
    to_there from to id h = subst (IsThere network) h.ends (lawful.ends h.walk h.cost h.conforms)

  -- between the nodes of no span lies nothing
  pub no_span : (id : ℕ) → LiesBetween parts_of network tree [] id → ⊥
  no_span id h = among_none h.span h.among

  -- what lies between the nodes of some spans, and of one more
  module _ (spans : List Span) (span : Span) where
    lies_before : (id : ℕ) → LiesBetween parts_of network tree spans id → LiesBetween parts_of network tree (spans ++ span ∷ []) id
    lies_before id h = record { span = h.span; among = Contains-append_left spans (span ∷ []) h.span h.among; lies = h.lies }

    lies_last : (id : ℕ) → IsOnWalk parts_of network tree span.from span.to id → LiesBetween parts_of network tree (spans ++ span ∷ []) id
    lies_last id h = record { span = span; among = Contains-append_right spans (span ∷ []) span (contains_here span []); lies = h }

    pub one_more : (before more : List ℕ) → AreJust (LiesBetween parts_of network tree spans) before
        → AreJust (IsOnWalk parts_of network tree span.from span.to) more → AreJust (LiesBetween parts_of network tree (spans ++ span ∷ [])) (before ++ more)
    one_more before more h k = record {
      sound = λ id m. ⊎_elim (λ b. lies_before id (h.sound id b)) (λ b. lies_last id (k.sound id b)) (Contains-append_cases before more id m);
      complete = λ id l. ⊎_elim
          (λ b. Contains-append_left before more id (h.complete id (record { span = l.span; among = b; lies = l.lies })))
          (λ b. Contains-append_right before more id (k.complete id (last id l b)))
          (Contains-append_cases spans (span ∷ []) l.span l.among);
    }
      where
        last : (id : ℕ) (l : LiesBetween parts_of network tree (spans ++ span ∷ []) id) → Contains (span ∷ []) l.span → IsOnWalk parts_of network tree span.from span.to id
        last id l b = ⊎_elim
            (λ same. subst (λ (s : Span). IsOnWalk parts_of network tree s.from s.to id) (sym same) l.lies)
            (λ none. absurd (among_none l.span none)) (cons_cases span [] l.span b)

-- what lies between the nodes of some spans, lies between those of others among which they all are
module _ (parts_of : Walk → List ℕ) (xs ys : List Span) (all : (s : Span) → Contains xs s → Contains ys s) (id : ℕ) where
  lies_in : (network : Option Network) (what : AtomWhat) → LiesIn parts_of network what xs id → LiesIn parts_of network what ys id
  lies_in None what h = absurd h
  lies_in (Some network) (atom.All x p y regex views) h = record { span = h.span; among = all h.span h.among; lies = h.lies }
  lies_in (Some network) (atom.Node x labels) h = absurd h
  lies_in (Some network) (atom.Edge x e y way labels) h = absurd h
  lies_in (Some network) (atom.Property x kind name v) h = absurd h
  lies_in (Some network) (atom.Stored x p y labels) h = absurd h
  lies_in (Some network) (atom.Reach x y regex views) h = absurd h
  lies_in (Some network) (atom.Found x p y k cost regex views) h = absurd h

  lies_by : (db : Database) (o : Option Atom) → LiesBy parts_of db o xs id → LiesBy parts_of db o ys id
  lies_by db None h = absurd h
  lies_by db (Some a) h = lies_in (network_of db a) a.what h

pub just_spans : (parts_of : Walk → List ℕ) (db : Database) (o : Option Atom) (spans once : List Span) (ids : List ℕ) → HasExactly spans once
    → AreJust (LiesBy parts_of db o once) ids → AreJust (LiesBy parts_of db o spans) ids
just_spans parts_of db o spans once ids exact h =
    just_other (LiesBy parts_of db o once) (LiesBy parts_of db o spans) ids
    (λ id l. lies_by parts_of once spans exact.sound id db o l) (λ id l. lies_by parts_of spans once exact.complete id db o l) h

-- what lies between spans by an ALL pattern, in its network
module _ (graphs : List PropertyGraph) (table : List Segments) (a : Atom) (spans : List Span) (nodes edges : List ℕ) where
  pub in_network : (g : PropertyGraph) (x p y : Sym) (regex : RegexTree ARegex) (views : List ViewUse) → a.what ≡ atom.All x p y regex views → slice_get graphs a.graph ≡ Some g
      → ArePassed (λ parts_of. LiesBetween parts_of (record { graph = g; segments = used_segments table a.graph views }) regex spans) nodes edges
      → ArePassed (λ parts_of. LiesBy parts_of (database graphs table) (Some a) spans) nodes edges
  in_network g x p y regex views is there h =
      let db : Database = database graphs table in
      subst (λ (o : Option PropertyGraph). ArePassed (λ parts_of id. LiesIn parts_of (option_map (network_on db a) o) a.what spans id) nodes edges) (sym there)
      (subst (λ (w : AtomWhat). ArePassed (λ parts_of id. LiesIn parts_of (Some (record { graph = g; segments = flat_map (named_segments db a.graph) (views_of w) })) w spans id) nodes edges) (sym is) h)

  -- without its graph there is nothing
  pub no_graph : slice_get graphs a.graph ≡ None → (parts_of : Walk → List ℕ) (id : ℕ) → LiesBy parts_of (database graphs table) (Some a) spans id → ⊥
  no_graph none parts_of id h =
      let db : Database = database graphs table in
      subst (λ (o : Option PropertyGraph). LiesIn parts_of (option_map (network_on db a) o) a.what spans id) none h

-- a graph that lacks one of two nodes has nothing between them
module _ (network : Network) (is : IsNetwork network) (tree : RegexTree ARegex) (from to : ℕ) (ns es : List ℕ) (no_nodes : ns ≡ []) (no_edges : es ≡ []) where
  pub nothing_from : is_among (node_ids network.graph.nodes) from ≡ false → ArePassed (λ parts_of. IsOnWalk parts_of network tree from to) ns es
  nothing_from lacks =
      let never : (parts_of : Walk → List ℕ) (id : ℕ) → IsOnWalk parts_of network tree from to id → ⊥ =
      λ parts_of id h. let there = from_there parts_of network tree is from to id h in cc in
      record { nodes = just_none _ ns no_nodes (never nodes_of); edges = just_none _ es no_edges (never edges_of) }

  pub nothing_to : is_among (node_ids network.graph.nodes) to ≡ false → ArePassed (λ parts_of. IsOnWalk parts_of network tree from to) ns es
  nothing_to lacks =
      let never : (parts_of : Walk → List ℕ) (id : ℕ) → IsOnWalk parts_of network tree from to id → ⊥ =
      λ parts_of id h. let there = to_there parts_of network tree is from to id h in cc in
      record { nodes = just_none _ ns no_nodes (never nodes_of); edges = just_none _ es no_edges (never edges_of) }

-- one span more
pub next_span : (network : Network) (tree : RegexTree ARegex) (spans : List Span) (i : ℕ) (span : Span) → i < length spans → span ≡ get_or spans i span
    → (ns es more_ns more_es added_ns added_es all_ns all_es : List ℕ) → added_ns ≡ more_ns → added_es ≡ more_es → all_ns ≡ ns ++ added_ns → all_es ≡ es ++ added_es
    → ArePassed (λ parts_of. LiesBetween parts_of network tree (take i spans)) ns es → ArePassed (λ parts_of. IsOnWalk parts_of network tree span.from span.to) more_ns more_es
    → ArePassed (λ parts_of. LiesBetween parts_of network tree (take (i + 1) spans)) all_ns all_es
next_span network tree spans i span within is ns es more_ns more_es added_ns added_es all_ns all_es n_added e_added n_is e_is h k =
    let longer : take i spans ++ span ∷ [] ≡ take (i + 1) spans = (λ j. take i spans ++ is j ∷ []) ∙ (sym (take-suc spans i span within) ∙ ap (λ n. take n spans) (sym (add-one i))) in
    let nodes : ns ++ more_ns ≡ all_ns = sym (n_is ∙ ap (λ xs. ns ++ xs) n_added) in
    let edges : es ++ more_es ≡ all_es = sym (e_is ∙ ap (λ xs. es ++ xs) e_added) in
    subst (λ (xs : List Span). ArePassed (λ parts_of. LiesBetween parts_of network tree xs) all_ns all_es) longer (record {
      nodes = subst (AreJust (LiesBetween nodes_of network tree (take i spans ++ span ∷ []))) nodes (one_more nodes_of network tree (take i spans) span ns more_ns h.nodes k.nodes);
      edges = subst (AreJust (LiesBetween edges_of network tree (take i spans ++ span ∷ []))) edges (one_more edges_of network tree (take i spans) span es more_es h.edges k.edges);
    })

-- what a product tells of an ALL pattern
pub by_product : (graphs : List PropertyGraph) (table : List Segments) (a : Atom) (spans : List Span) (ns es : List ℕ) (p : Product) (machine : Machine) (segments : List Segment)
    (g : PropertyGraph) (x q y : Sym) (regex : RegexTree ARegex) (views : List ViewUse) → p ≡ record { network = record { graph = g; segments = segments }; machine = machine }
    → segments ≡ used_segments table a.graph views → a.what ≡ atom.All x q y regex views → slice_get graphs a.graph ≡ Some g → HasParts regex → IsAutomatonOf regex machine
    → ((tree : RegexTree ARegex) → HasParts tree → IsAutomatonOf tree p.machine → ArePassed (λ parts_of. LiesBetween parts_of p.network tree spans) ns es)
    → ArePassed (λ parts_of. LiesBy parts_of (database graphs table) (Some a) spans) ns es
by_product graphs table a spans ns es p machine segments g x q y regex views made used is there parts automaton h =
    let own : IsAutomatonOf regex p.machine = subst (λ (s : Product). IsAutomatonOf regex s.machine) (sym made) automaton in
    let network : p.network ≡ record { graph = g; segments = used_segments table a.graph views } = ap (λ (s : Product). s.network) made ∙ (λ i. record { graph = g; segments = used i }) in
    in_network graphs table a spans ns es g x q y regex views is there
    (subst (λ (n : Network). ArePassed (λ parts_of. LiesBetween parts_of n regex spans) ns es) network (h regex parts own))

-- what is found is one of those of which something holds
pub found_so : {X : Type 0} (p : X → Bool) (P : X → Type 0) (xs : List X) (x : X) → Some x ≡ find p xs → AllByRecursion P xs → P x
found_so p P [] x e h = absurd (cc)
found_so p P (y ∷ xs) x e h =
    elim (p y) as (λ b. Some x ≡ cond b (Some y) (find p xs) → P x) [
      | true ↦ λ e. subst P (sym (same_Some _ _ e)) h.0
      | false ↦ λ e. found_so p P xs x e h.1
    ] e
