-- What the instances of an atom stand for is of its graph.
use Rattle.std.proofs.Common.{◌≡◌, ℕ, pos, nat_le, Bool, true, false, cond, ◌==◌, List, [], ◌∷◌, map, Option, None, Some, sym, subst}
use Rattle.std.specs.Prelude.{⊤}
use Rattle.std.specs.List.{AllByRecursion}
use Rattle.gc_base.specs.declared.literal.Literal.TheVariants.{Number}
use Rattle.gc_base.specs.declared.place.Direction.{Direction}
use Rattle.gc_base.specs.declared.place.Direction.TheVariants.{Forward, Backward, Either}
use Rattle.gc_base.specs.declared.place.Sym.{Sym}
use Rattle.gc_base.specs.declared.properties.Property.{Property}
use Rattle.gc_ppg.specs.declared.shape.Kind.TheVariants as kind
use Rattle.gc_spec.specs.PropertyGraph.{PropertyGraph, Edge, IsEdge, IsGraph, IsPath, is_among, is_walk, node_ids}
use Rattle.gc_rows.specs.declared.datum.Datum.{Datum}
use Rattle.gc_rows.specs.declared.datum.Datum.TheVariants as datum
use Rattle.gc_rows.specs.declared.row.Binding.{Binding}
use Rattle.gc_rows.proofs.Members.{AllByRecursion-flat_map, AllByRecursion-map, each_member, of_member}
use Rattle.gc_automata.specs.Moves.{Network}
use Rattle.gc_prod.specs.Segments.{AreSegments}
use Rattle.gc_prod.proofs.Networks.{among_all}
use Rattle.gc_alg.specs.FirstWalks.{IsConforming}
use Rattle.gc_alg.specs.Instances.{Ends, IsInstance, along, against, at_edge, at_node, at_path, at_values, cost_bound, edge_bound, ends_of, fit, instances, node_bound, path_bound, search, value_bound}
use Rattle.gc_alg.specs.declared.atom.AtomWhat.{AtomWhat}
use Rattle.gc_alg.specs.declared.atom.AtomWhat.TheVariants as atom
use Rattle.gc_build.proofs.WalksIn.{conforming, end_there, node_there, start_there}

-- a node is one of a graph, and a walk that was found is a walk of it; of other data nothing is said
abbrev pub IsOf : PropertyGraph → Datum → Type 0
IsOf g (datum.Node id) = is_among (node_ids g.nodes) id ≡ true
IsOf g (datum.Found walk) = is_walk g.nodes g.edges walk ≡ true
IsOf g d = ⊤

abbrev pub AreOf : PropertyGraph → List Binding → Type 0
AreOf g bindings = AllByRecursion (λ b. IsOf g b.datum) bindings

all_if : {X : Type 0} (P : X → Type 0) (t : Bool) (xs : List X) → AllByRecursion P xs → AllByRecursion P (cond t xs [])
all_if P true xs h = h
all_if P false xs h = tt

value_fine : (g : PropertyGraph) (x : Sym) (element : Datum) (name : List ℕ) (v : Sym) (properties : List Property) → IsOf g element → AllByRecursion (AreOf g) (at_values x element name v properties)
value_fine g x element name v properties h = AllByRecursion-map _ (value_bound x element v) _ (each_member _ _ (λ value m. (h, (tt, tt))))

cost_fine : (g : PropertyGraph) (cost : Option Sym) (c : ℕ) → AreOf g (cost_bound cost c)
cost_fine g None c = tt
cost_fine g (Some x) c = (by (nat_le c 9223372036854775807), tt)
  where
    by : (t : Bool) → IsOf g (cond t (datum.Value (Number (pos c) ∷ [])) datum.PastRange)
    by true = tt
    by false = tt

module _ (network : Network) (graph : IsGraph network.graph) (segments : AreSegments network.graph network.segments) where
  abbrev g : PropertyGraph
  g = network.graph

  edge_ends : (x e y : Sym) (one : Edge) (ends : Ends) → is_among (node_ids g.nodes) ends.left ≡ true → is_among (node_ids g.nodes) ends.right ≡ true → AreOf g (edge_bound x e y one ends)
  edge_ends x e y one ends l r = (l, (tt, (r, tt)))

  loop_or_not : (x e y : Sym) (one : Edge) (t : Bool) → IsEdge g.nodes one → AllByRecursion (AreOf g) (map (edge_bound x e y one) (cond t [] (against one ∷ [])))
  loop_or_not x e y one true is = tt
  loop_or_not x e y one false is = (edge_ends x e y one (against one) is.target is.source, tt)

  edge_ways : (x e y : Sym) (way : Direction) (one : Edge) → IsEdge g.nodes one → AllByRecursion (AreOf g) (map (edge_bound x e y one) (ends_of way one))
  edge_ways x e y Forward one is = (edge_ends x e y one (along one) is.source is.target, tt)
  edge_ways x e y Backward one is = (edge_ends x e y one (against one) is.target is.source, tt)
  edge_ways x e y Either one is = (edge_ends x e y one (along one) is.source is.target, loop_or_not x e y one (one.from == one.to) is)

  all_fine : (what : AtomWhat) → AllByRecursion (AreOf g) (instances g what)
  all_fine (atom.Node x labels) =
      AllByRecursion-flat_map _ (at_node x labels) g.nodes (each_member _ g.nodes (λ n m. all_if _ (fit labels n.labels) (node_bound x n ∷ []) ((node_there g.nodes n m, tt), tt)))
  all_fine (atom.Edge x e y way labels) =
      AllByRecursion-flat_map _ (at_edge x e y way labels) g.edges (each_member _ g.edges (λ one m.
      all_if _ (fit labels one.labels) _ (edge_ways x e y way one (among_all (IsEdge g.nodes) g.edges one graph.edges m))))
  all_fine (atom.Property x kind.Node name v) = AllByRecursion-flat_map _ _ g.nodes (each_member _ g.nodes (λ n m. value_fine g x (datum.Node n.id) name v n.properties (node_there g.nodes n m)))
  all_fine (atom.Property x kind.Edge name v) = AllByRecursion-flat_map _ _ g.edges (each_member _ g.edges (λ e m. value_fine g x (datum.Edge e.id) name v e.properties tt))
  all_fine (atom.Property x kind.Path name v) = AllByRecursion-flat_map _ _ g.paths (each_member _ g.paths (λ p m. value_fine g x (datum.Stored p.id) name v p.properties tt))
  all_fine (atom.Stored x p y labels) =
      AllByRecursion-flat_map _ (at_path x p y labels) g.paths (each_member _ g.paths (λ one m.
      let is = among_all (IsPath g.nodes g.edges) g.paths one graph.paths m in
      all_if _ (fit labels one.labels) (path_bound x p y one ∷ [])
      ((start_there g.nodes g.edges graph.edges one.walk is.walk, (tt, (end_there g.nodes g.edges graph.edges one.walk is.walk, tt))), tt)))
  all_fine (atom.Reach x y regex views) = tt
  all_fine (atom.Found x p y k cost regex views) = tt
  all_fine (atom.All x p y regex views) = tt

  abbrev There : ℕ → Type 0
  There id = is_among (node_ids g.nodes) id ≡ true

  -- what an instance stands for is of the graph
  pub instance_fine : (what : AtomWhat) (i : List Binding) → IsInstance network what i → AreOf g i
  instance_fine (atom.Node x labels) i m = of_member _ (instances g (atom.Node x labels)) i (all_fine (atom.Node x labels)) m
  instance_fine (atom.Edge x e y way labels) i m = of_member _ (instances g (atom.Edge x e y way labels)) i (all_fine (atom.Edge x e y way labels)) m
  instance_fine (atom.Property x kind name v) i m = of_member _ (instances g (atom.Property x kind name v)) i (all_fine (atom.Property x kind name v)) m
  instance_fine (atom.Stored x p y labels) i m = of_member _ (instances g (atom.Stored x p y labels)) i (all_fine (atom.Stored x p y labels)) m
  instance_fine (atom.Reach x y regex views) i m =
      let walks = conforming network graph segments regex m.reached.walk m.reached.cost m.reached.conforms in
      subst (AreOf g) (sym m.bindings)
      (subst There m.reached.starts (start_there g.nodes g.edges graph.edges m.reached.walk walks), (subst There m.reached.ends (end_there g.nodes g.edges graph.edges m.reached.walk walks), tt))
  instance_fine (atom.Found x p y k cost regex views) i m =
      let is : IsConforming (search network regex m.start m.target) m.found = m.first.sound m.found m.among in
      let walks = conforming network graph segments regex m.found.walk m.found.cost is.conforms in
      subst (AreOf g) (sym m.bindings)
      (subst There is.starts (start_there g.nodes g.edges graph.edges m.found.walk walks), (walks, (subst There is.ends (end_there g.nodes g.edges graph.edges m.found.walk walks), cost_fine g cost m.found.cost)))
  instance_fine (atom.All x p y regex views) i m =
      let walks = conforming network graph segments regex m.reached.walk m.reached.cost m.reached.conforms in
      subst (AreOf g) (sym m.bindings)
      (subst There m.reached.starts (start_there g.nodes g.edges graph.edges m.reached.walk walks), (tt, (subst There m.reached.ends (end_there g.nodes g.edges graph.edges m.reached.walk walks), tt)))
