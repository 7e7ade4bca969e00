-- When a recipe can be made on a table.
use Rattle.std.specs.Prelude.{◌≡◌, ℕ, ◌==◌, true, false, ⊤, List, [], ◌∷◌, Option, Some, None, slice_get}
use Rattle.std.specs.List.{AllByRecursion, Contains, list_any}
use Rattle.std.specs.Option.{option_and_then}
use Rattle.gc_alg.specs.declared.atom.Atom.{Atom}
use Rattle.gc_base.specs.declared.place.Sym.{Sym}
use Rattle.gc_base.specs.declared.walk.Walk.{Walk}
use Rattle.gc_build_numbers.specs.Settings.{Setting}
use Rattle.gc_build_recipe.specs.Recipes.{Chain, Recipe}
use Rattle.gc_build_recipe.specs.declared.variable.Grouping.{Grouping}
use Rattle.gc_build_recipe.specs.declared.variable.Grouping.TheVariants as by
use Rattle.gc_build_recipe.specs.declared.variable.Variable.{Variable}
use Rattle.gc_ppg.specs.declared.shape.Kind.TheVariants as kind
use Rattle.gc_rows.specs.Rows.{datum_at, lists}
use Rattle.gc_rows.specs.declared.datum.Datum.TheVariants as datum
use Rattle.gc_rows.specs.declared.row.Binding.{Binding}
use Rattle.gc_sets.specs.Origins.{AreStanding, IsOfOne}
use Rattle.gc_spec.specs.Coherence.{NodeShape}
use Rattle.gc_spec.specs.PropertyGraph.{PropertyGraph, Edge, IsGraph, edge_at, is_walk}
use Rattle.gc_build.specs.AllPaths.{Patterns, all_atom}
use Rattle.gc_build.specs.Walks.{along_graph, read_graph}

-- the nodes for which the variables of a row stand are nodes of some graphs
abbrev pub BindsNodes : List PropertyGraph → List Binding → Type 0
BindsNodes graphs row = (x : Sym) (id : ℕ) → datum_at row x ≡ Some (datum.Node id) → IsOfOne graphs id NodeShape

-- no variable comes twice
abbrev pub AreDistinct : List Variable → Type 0
AreDistinct [] = ⊤
AreDistinct (v ∷ variables) = (list_any (λ w. w.var.0 == v.var.0) variables ≡ false) × AreDistinct variables

-- rows bind nodes of the graphs, and the variables of a recipe are distinct
pub record Fits (s : Setting) (r : Recipe) : Type 0 where
  pub graphs : AllByRecursion IsGraph s.graphs
  pub bound : AllByRecursion (BindsNodes s.graphs) s.rows
  pub distinct : AreDistinct r.variables

-- a variable of nodes is a place of a chain, and so is one that stands for this node in a row
pub record IsNodePlace (r : Recipe) (c : Chain) (x : Sym) : Type 0 where
  pub variable : Variable
  pub among : Contains r.variables variable
  pub is : variable.var ≡ x
  pub kind : variable.kind ≡ kind.Node
  pub place : lists c.places x ≡ true

pub record HasNode (r : Recipe) (c : Chain) (row : List Binding) (id : ℕ) : Type 0 where
  pub variable : Variable
  pub among : Contains r.variables variable
  pub kind : variable.kind ≡ kind.Node
  pub bound : variable.grouping ≡ by.Bound
  pub place : lists c.places variable.var ≡ true
  pub node : datum_at row variable.var ≡ Some (datum.Node id)

-- an edge of a chain has its ends there: a new one, as variables of nodes; a bound one, on each row, as nodes that variables stand for
abbrev pub HasEnds : Setting → Recipe → Chain → Sym → Grouping → Type 0
HasEnds s r c x by.Bound =
    (row : List Binding) (id : ℕ) (e : Edge) → Contains s.rows row → datum_at row x ≡ Some (datum.Edge id)
    → option_and_then (λ g. edge_at g.edges id) (read_graph s x) ≡ Some e → HasNode r c row e.from × HasNode r c row e.to
HasEnds s r c x (by.Link source target terms) = IsNodePlace r c source × IsNodePlace r c target
HasEnds s r c x grouping = ⊤

abbrev pub HasAllEnds : Setting → Recipe → Chain → Type 0
HasAllEnds s r c = (v : Variable) → Contains r.variables v → v.kind ≡ kind.Edge → lists c.places v.var ≡ true → HasEnds s r c v.var v.grouping

-- a walk that a row has goes along the graph in which its variable is read
abbrev pub IsAlong : Option PropertyGraph → Walk → Type 0
IsAlong None walk = ⊥
IsAlong (Some g) walk = is_walk g.nodes g.edges walk ≡ true

abbrev pub GoAlong : Setting → List Binding → Type 0
GoAlong s row = (p : Sym) (walk : Walk) → datum_at row p ≡ Some (datum.Found walk) → IsAlong (along_graph s p) walk

-- the ALL pattern of a path stands on the graph in which the path is read
abbrev pub StandsOn : Setting → Patterns → Type 0
StandsOn s ps = (p : Sym) (a : Atom) → all_atom ps.block p ≡ Some a → slice_get s.graphs a.graph ≡ along_graph s p

-- what is claimed is of one graph: the graphs stand together; the edges of chains have their ends there; the elements on the walk of a
-- path are read in its own graph; walks that were found go along it, and so do those of ALL paths
pub record FitsWhole (s : Setting) (r : Recipe) (ps : Patterns) (next : ℕ) : Type 0 where
  pub fits : Fits s r
  pub standing : AreStanding s.graphs next
  pub ends : AllByRecursion (HasAllEnds s r) r.chains
  pub reads : AllByRecursion (λ read. read.own ≡ read.walk) s.reads
  pub walks : AllByRecursion (GoAlong s) s.rows
  pub all : StandsOn s ps
