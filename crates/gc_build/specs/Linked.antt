-- A recipe whose links are those of the block of its MATCH.
use Rattle.std.specs.Prelude.{◌≡◌, ⊤, ◌⊎◌, ℕ, ◌==◌, Bool, true, List, [], ◌∷◌, Option, Some, None}
use Rattle.std.specs.List.{AllByRecursion, Contains, find, list_any}
use Rattle.std.specs.Option.{option_map}
use Rattle.gc_base.specs.declared.place.Direction.{Direction}
use Rattle.gc_base.specs.declared.place.Sym.{Sym}
use Rattle.gc_alg.specs.Instances.{variables_of}
use Rattle.gc_alg.specs.Tables.{block_atoms}
use Rattle.gc_alg.specs.Trees.{Tree, ABlock, APart, atoms_of, items, parts_of}
use Rattle.gc_alg.specs.declared.atom.Atom.{Atom}
use Rattle.gc_alg.specs.declared.atom.AtomWhat.{AtomWhat}
use Rattle.gc_alg.specs.declared.atom.AtomWhat.TheVariants as atom
use Rattle.gc_build_recipe.specs.Recipes.{Chain, Recipe}
use Rattle.gc_build_recipe.specs.declared.variable.Grouping.{Grouping}
use Rattle.gc_build_recipe.specs.declared.variable.Grouping.TheVariants as by
use Rattle.gc_build_recipe.specs.declared.variable.Variable.{Variable}
use Rattle.gc_ppg.specs.declared.shape.Kind.TheVariants as kind
use Rattle.gc_rows.specs.Rows.{lists}
use Rattle.gc_values.specs.declared.reads.ReadUse.{ReadUse}
use Rattle.gc_build.specs.Fitting.{IsNodePlace}

-- Take `CONSTRUCT (x)-[e]->(y) MATCH (x)-[e]->(y)`: the chain has e, which the MATCH binds, between x and y, as the pattern has it; so
-- the ends of e are there on each row. Without `-[e]->(y)` in the CONSTRUCT's pattern being the MATCH's, as in `(y)-[e]->(x)`, they
-- need not be.

-- whether a part of a block has a variable
abbrev pub in_part : Sym → Tree APart → Bool
in_part x part = list_any (λ a. lists (variables_of a.what) x) (atoms_of part)

-- a part that each row with the variable meets: the first one of its block, or the only one that has the variable
abbrev pub IsFirst : List (Tree APart) → Tree APart → Type 0
IsFirst [] part = ⊥
IsFirst (first ∷ later) part = first ≡ part

abbrev pub IsOwn : List (Tree APart) → Sym → Tree APart → Type 0
IsOwn parts x part = IsFirst parts part ⊎ ((other : Tree APart) → Contains parts other → in_part x other ≡ true → other ≡ part)

-- a variable of nodes that the MATCH binds is a place of a chain
pub record IsBoundPlace (r : Recipe) (c : Chain) (x : Sym) : Type 0 where
  pub variable : Variable
  pub among : Contains r.variables variable
  pub is : variable.var ≡ x
  pub kind : variable.kind ≡ kind.Node
  pub bound : variable.grouping ≡ by.Bound
  pub place : lists c.places x ≡ true

-- an edge stands in a chain between the nodes between which a pattern of the MATCH binds it
pub record HasPattern (block : Tree ABlock) (r : Recipe) (c : Chain) (x : Sym) : Type 0 where
  pub part : Tree APart
  pub among : Contains (items (parts_of block)) part
  pub own : IsOwn (items (parts_of block)) x part
  pub graph : ℕ
  pub left : Sym
  pub right : Sym
  pub way : Direction
  pub labels : List (List (List ℕ))
  pub pattern : Contains (atoms_of part) (record { graph = graph; what = atom.Edge left x right way labels })
  pub left_place : IsBoundPlace r c left
  pub right_place : IsBoundPlace r c right

-- so does one that the MATCH binds; the ends of a new one are nodes of its chain
abbrev pub IsLinked : Tree ABlock → Recipe → Chain → Sym → Grouping → Type 0
IsLinked block r c x by.Bound = HasPattern block r c x
IsLinked block r c x (by.Link source target terms) = IsNodePlace r c source × IsNodePlace r c target
IsLinked block r c x grouping = ⊤

abbrev pub AreLinked : Tree ABlock → Recipe → Chain → Type 0
AreLinked block r c = (v : Variable) → Contains r.variables v → v.kind ≡ kind.Edge → lists c.places v.var ≡ true → IsLinked block r c v.var v.grouping

-- the graph in which the elements on a variable's walk are read, by its number
abbrev pub walk_number : List ReadUse → Sym → Option ℕ
walk_number reads x = option_map (λ read. read.walk) (find (λ read. read.var.0 == x.0) reads)

-- the walks that a pattern binds are read on the graph on which it stands
abbrev pub IsReadThere : List ReadUse → (graph : ℕ) → AtomWhat → Type 0
IsReadThere reads graph (atom.Found x p y k cost regex views) = walk_number reads p ≡ Some graph
IsReadThere reads graph (atom.All x p y regex views) = walk_number reads p ≡ Some graph
IsReadThere reads graph what = ⊤

-- the edges of a recipe stand as the MATCH binds them, and its walks are read where they were found
pub record HasLinksOf (block : Tree ABlock) (reads : List ReadUse) (r : Recipe) : Type 0 where
  pub linked : AllByRecursion (AreLinked block r) r.chains
  pub read : AllByRecursion (λ a. IsReadThere reads a.graph a.what) (block_atoms block)
