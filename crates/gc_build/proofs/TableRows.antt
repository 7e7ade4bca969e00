-- What the rows of the table of a block bind is of the graphs.
use Rattle.std.proofs.Common.{◌≡◌, ℕ, Bool, true, false, ◌||◌, ◌==◌, List, [], ◌∷◌, Option, None, Some, is_some, refl, sym, ap, ◌∙◌, subst, slice_get}
use Rattle.std.specs.List.{AllByRecursion, Contains}
use Rattle.std.specs.Option.{option_map}
use Rattle.std.proofs.lemmas.Bool.{eqb-true}
use Rattle.std.proofs.lemmas.Option.{same_Some}
use Rattle.gc_automata.specs.Moves.{Network}
use Rattle.gc_base.specs.declared.place.Sym.{Sym}
use Rattle.gc_spec.specs.PropertyGraph.{PropertyGraph, Node, IsGraph, is_among, node_ids, node_at}
use Rattle.gc_sets.proofs.ShapesOf.{node_is}
use Rattle.gc_sets.proofs.Turns.{found-is_among}
use Rattle.gc_rows.specs.Rows.{datum_at, lists}
use Rattle.gc_rows.specs.Tables.{Relation}
use Rattle.gc_rows.specs.declared.datum.Datum.{Datum}
use Rattle.gc_rows.specs.declared.datum.Datum.TheVariants as datum
use Rattle.gc_rows.specs.declared.row.Binding.{Binding}
use Rattle.gc_rows.proofs.Members.{contains_here, contains_later, each_member, of_member}
use Rattle.gc_prod.specs.Segments.{AreSegments, Segments}
use Rattle.gc_alg.specs.Blocks.{IsRowOfBlock, bound_by}
use Rattle.gc_alg.specs.Instances.{Has, IsInstance, MeetsIn, Satisfies, variables_of}
use Rattle.gc_alg.specs.Networks.{Database, network_of, network_on, views_of}
use Rattle.gc_alg.specs.Tables.{IsTableOfBlock}
use Rattle.gc_alg.specs.Trees.{Tree, ABlock}
use Rattle.gc_alg.specs.declared.atom.Atom.{Atom}
use Rattle.gc_alg.proofs.Schemas.{instance_binds}
use Rattle.gc_walks.specs.Databases.{AreOnGraphs, database}
use Rattle.gc_walks.proofs.UsedSegments.{used_are}
use Rattle.gc_build.specs.Fitting.{BindsNodes}
use Rattle.gc_build.proofs.BoundRows.{bound_is_met}
use Rattle.gc_build.proofs.ClaimOrigins.{at_number}
use Rattle.gc_build.proofs.InstanceData.{IsOf, instance_fine}

-- the binding of a variable that bindings have
pub record HasBinding (bindings : List Binding) (x : Sym) : Type 0 where
  pub binding : Binding
  pub among : Contains bindings binding
  pub var : binding.var ≡ x

either : (a b : Bool) (P : Type 0) → (a ≡ true → P) → (b ≡ true → P) → (a || b) ≡ true → P
either true b P f g h = f refl
either false b P f g h = g h

same_var : (x y : Sym) → (x.0 == y.0) ≡ true → x ≡ y
same_var x y h = let e : x.0 ≡ y.0 = eqb-true x.0 y.0 h in λ i. record { 0 = e i }

pub binding_of : (bindings : List Binding) (x : Sym) → lists (bound_by bindings) x ≡ true → HasBinding bindings x
binding_of [] x h = absurd (cc h)
binding_of (b ∷ bindings) x h =
    either (b.var.0 == x.0) (lists (bound_by bindings) x) (HasBinding (b ∷ bindings) x)
    (λ k. record { binding = b; among = contains_here b bindings; var = same_var b.var x k })
    (λ k. let rest = binding_of bindings x k in record { binding = rest.binding; among = contains_later b bindings rest.binding rest.among; var = rest.var }) h

-- a datum that a row has by an atom comes from an instance of it in its network
pub record FromInstance (db : Database) (row : List Binding) (x : Sym) (d : Datum) (a : Atom) : Type 0 where
  pub network : Network
  pub is : network_of db a ≡ Some network
  pub instance : List Binding
  pub there : IsInstance network a.what instance
  pub holds : Has row instance
  pub binding : Binding
  pub among : Contains instance binding
  pub var : binding.var ≡ x
  pub datum : binding.datum ≡ d

from_meets : (db : Database) (row : List Binding) (x : Sym) (d : Datum) (a : Atom) → lists (variables_of a.what) x ≡ true → datum_at row x ≡ Some d → (o : Option Network) → network_of db a ≡ o → MeetsIn o a.what row
    → FromInstance db row x d a
from_meets db row x d a listed h None is m = absurd m
from_meets db row x d a listed h (Some network) is m =
    let has = binding_of m.instance x (ap (λ xs. lists xs x) (instance_binds network a.what m.instance m.there) ∙ listed) in
    let held : datum_at row has.binding.var ≡ Some has.binding.datum = of_member (λ (b : Binding). datum_at row b.var ≡ Some b.datum) m.instance has.binding m.holds has.among in
    record {
      network = network;
      is = is;
      instance = m.instance;
      there = m.there;
      holds = m.holds;
      binding = has.binding;
      among = has.among;
      var = has.var;
      datum = same_Some has.binding.datum d (sym held ∙ (ap (datum_at row) has.var ∙ h));
    }

pub from_atom : (db : Database) (row : List Binding) (x : Sym) (d : Datum) (a : Atom) → lists (variables_of a.what) x ≡ true → datum_at row x ≡ Some d → Satisfies db row a → FromInstance db row x d a
from_atom db row x d a listed h m = from_meets db row x d a listed h (network_of db a) refl m

module _ (graphs : List PropertyGraph) (segments : List Segments) (are : AllByRecursion IsGraph graphs) (there : AreOnGraphs graphs segments) where
  -- the network of an atom is of one of the graphs, with segments of it
  pub record OnGraph (a : Atom) (network : Network) : Type 0 where
    pub number : slice_get graphs a.graph ≡ Some network.graph
    pub graph : IsGraph network.graph
    pub own : AreSegments network.graph network.segments

  pub on_graph : (a : Atom) (network : Network) → network_of (database graphs segments) a ≡ Some network → OnGraph a network
  on_graph a network h = at (slice_get graphs a.graph) refl h
    where
      at : (o : Option PropertyGraph) → slice_get graphs a.graph ≡ o → option_map (network_on (database graphs segments) a) o ≡ Some network → OnGraph a network
      at None is k = absurd (cc k)
      at (Some g) is k =
          let same : network_on (database graphs segments) a g ≡ network = same_Some (network_on (database graphs segments) a g) network k in
          subst (OnGraph a) same (record {
            number = is;
            graph = of_member IsGraph graphs g are (at_number graphs a.graph g is);
            own = used_are graphs g a.graph is segments (views_of a.what) there;
          })

  -- a datum that comes from an instance is of the graph of its atom
  pub of_graph : (row : List Binding) (x : Sym) (d : Datum) (a : Atom) (f : FromInstance (database graphs segments) row x d a) → IsOf f.network.graph d
  of_graph row x d a f =
      let on = on_graph a f.network f.is in
      subst (IsOf f.network.graph) f.datum
      (of_member (λ (b : Binding). IsOf f.network.graph b.datum) f.instance f.binding (instance_fine f.network on.graph on.own a.what f.instance f.there) f.among)

  node_found : (g : PropertyGraph) (id : ℕ) → is_among (node_ids g.nodes) id ≡ true → (n : Node) × (node_at g.nodes id ≡ Some n)
  node_found g id h = at (node_at g.nodes id) refl (found-is_among (λ n. n.id) g.nodes id ∙ h)
    where
      at : (o : Option Node) → node_at g.nodes id ≡ o → is_some o ≡ true → (n : Node) × (node_at g.nodes id ≡ Some n)
      at None is k = absurd (cc k)
      at (Some n) is k = (n, is)

  row_binds : (block : Tree ABlock) (row : List Binding) → IsRowOfBlock (database graphs segments) [] block row → BindsNodes graphs row
  row_binds block row h x id k =
      let met = bound_is_met (database graphs segments) block row h x (datum.Node id) k in
      let meets = of_member (Satisfies (database graphs segments) row) _ met.has.atom met.meets met.has.among in
      let from = from_atom (database graphs segments) row x (datum.Node id) met.has.atom met.has.listed k meets in
      let on = on_graph met.has.atom from.network from.is in
      let node = node_found from.network.graph id (of_graph row x (datum.Node id) met.has.atom from) in
      record {
        graph = from.network.graph;
        among = at_number graphs met.has.atom.graph from.network.graph on.number;
        there = node_is from.network.graph on.graph id node.0 node.1;
      }

  pub rows_bind : (block : Tree ABlock) (table : Relation) → IsTableOfBlock (record { database = database graphs segments; block = block; given = [] }) table → AllByRecursion (BindsNodes graphs) table.rows
  rows_bind block table h = each_member (BindsNodes graphs) table.rows (λ row m. row_binds block row (h.sound row m))
