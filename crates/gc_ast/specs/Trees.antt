-- Query files as plain trees.
use Rattle.std.specs.Prelude.{ℕ, List, [], ◌∷◌, Option, Some, None}
use Rattle.gc_base.specs.declared.place.Direction.{Direction}
use Rattle.gc_regx.specs.Trees.{RegexTree, ARegex}
use Rattle.gc_expr.specs.Trees.{AnExpr}
use Rattle.gc_expr.specs.Trees as expr
use Rattle.gc_ast.specs.declared.pattern.CountAt.{CountAt}
use Rattle.gc_ast.specs.declared.query.SetOp.{SetOp}

-- a name, by what stands for one, and the number of its token
pub record NamedOf (N : Type 0) : Type 0 where
  pub name : N
  pub token : ℕ

-- a name by its bytes, and the number of its token
abbrev pub Named : Type 0
Named = NamedOf (List ℕ)

-- the kinds of trees: one for each type of a syntax tree, and rows
pub data Kind : Type 0 where
  AStatement : Kind
  AQuery : Kind
  ANextTerm : Kind
  ATerm : Kind
  AHead : Kind
  AFormula : Kind
  ABasic : Kind
  ABlock : Kind
  AnOptional : Kind
  ALocated : Kind
  APattern : Kind
  AnElement : Kind
  APropertyUse : Kind
  APathBody : Kind
  AnItem : Kind
  AConstructPart : Kind
  ANewElement : Kind
  AGroupTerm : Kind
  AnAssign : Kind
  AChange : Kind
  RowOf : Kind → Kind

-- the trees of query files, by what stands for a name in them; words are their bytes, and what may
-- be absent is a row of at most one
pub data TreeOf (N : Type 0) : Kind → Type 0 where
  -- statements: a name for a query's answer, or a query
  View : NamedOf N → TreeOf N AQuery → TreeOf N AStatement
  Ask : TreeOf N AQuery → TreeOf N AStatement
  -- a query: its heads, its first term, and the later ones
  Query : TreeOf N (RowOf AHead) → TreeOf N ATerm → TreeOf N (RowOf ANextTerm) → TreeOf N AQuery
  NextTerm : SetOp → TreeOf N ATerm → TreeOf N ANextTerm
  BasicTerm : TreeOf N ABasic → TreeOf N ATerm
  GraphTerm : NamedOf N → TreeOf N ATerm
  QueryTerm : TreeOf N AQuery → TreeOf N ATerm
  -- heads: a view with its chains, its condition and its cost; a named graph
  PathHead : NamedOf N → TreeOf N (RowOf (RowOf APattern)) → TreeOf N (RowOf AFormula) → TreeOf N (RowOf AFormula) → TreeOf N AHead
  GraphHead : NamedOf N → TreeOf N AQuery → TreeOf N AHead
  -- an expression, and the queries of its own EXISTS in text order
  Formula : expr.TreeOf N AnExpr → TreeOf N (RowOf AQuery) → TreeOf N AFormula
  -- CONSTRUCT: its token, its items, its MATCH block and the OPTIONAL ones
  Basic : ℕ → TreeOf N (RowOf AnItem) → TreeOf N ABlock → TreeOf N (RowOf AnOptional) → TreeOf N ABasic
  Block : TreeOf N (RowOf ALocated) → TreeOf N (RowOf AFormula) → TreeOf N ABlock
  Optional : ℕ → TreeOf N ABlock → TreeOf N AnOptional
  Located : TreeOf N (RowOf APattern) → Option (NamedOf N) → TreeOf N ALocated
  -- patterns: a node, an edge, and a path with its token and that of its expression
  Node : TreeOf N AnElement → TreeOf N APattern
  Edge : Direction → TreeOf N AnElement → TreeOf N APattern
  Path : (token regex_at : ℕ) → TreeOf N APathBody → TreeOf N APattern
  Element : (token : ℕ) → Option (NamedOf N) → (labels : List (List (List ℕ))) → TreeOf N (RowOf APropertyUse) → TreeOf N AnElement
  PropertyUse : (token : ℕ) → (property : List ℕ) → (value : NamedOf N) → TreeOf N APropertyUse
  -- paths, with the names after `~` in text order
  Reach : RegexTree ARegex → (views : List (NamedOf N)) → TreeOf N APathBody
  Found : Option CountAt → NamedOf N → RegexTree ARegex → (views : List (NamedOf N)) → (cost : Option (NamedOf N)) → TreeOf N APathBody
  All : NamedOf N → RegexTree ARegex → (views : List (NamedOf N)) → TreeOf N APathBody
  Stored : NamedOf N → (labels : List (List (List ℕ))) → TreeOf N APathBody
  -- items: all of a graph; a chain, its changes and its condition
  GraphItem : NamedOf N → TreeOf N AnItem
  ChainItem : TreeOf N (RowOf AConstructPart) → TreeOf N (RowOf AChange) → TreeOf N (RowOf AFormula) → TreeOf N AnItem
  NewNode : TreeOf N ANewElement → TreeOf N AConstructPart
  NewEdge : Direction → TreeOf N ANewElement → TreeOf N AConstructPart
  Projected : (token : ℕ) → NamedOf N → TreeOf N AConstructPart
  NewStored : (token : ℕ) → NamedOf N → (labels : List (List ℕ)) → TreeOf N (RowOf AnAssign) → TreeOf N AConstructPart
  NewElement : (token : ℕ) → (name copy : Option (NamedOf N)) → TreeOf N (RowOf AGroupTerm) → (labels : List (List ℕ)) → TreeOf N (RowOf AnAssign) → TreeOf N ANewElement
  GroupTerm : NamedOf N → (property : Option (List ℕ)) → TreeOf N AGroupTerm
  Assign : (token : ℕ) → (property : List ℕ) → TreeOf N AFormula → TreeOf N AnAssign
  -- changes: SET of a property or a label, REMOVE of a property or a label
  SetProperty : NamedOf N → TreeOf N AnAssign → TreeOf N AChange
  AddLabel : NamedOf N → List ℕ → TreeOf N AChange
  DropProperty : NamedOf N → List ℕ → TreeOf N AChange
  DropLabel : NamedOf N → List ℕ → TreeOf N AChange
  -- no tree, and a tree before a row
  none : {k : Kind} → TreeOf N (RowOf k)
  more : {k : Kind} → TreeOf N k → TreeOf N (RowOf k) → TreeOf N (RowOf k)

-- the trees of query files whose names are their bytes
abbrev pub Tree : Kind → Type 0
Tree = TreeOf (List ℕ)

-- a list of trees as a row
abbrev pub row : {N : Type 0} {k : Kind} → List (TreeOf N k) → TreeOf N (RowOf k)
row [] = none
row (tree ∷ trees) = more tree (row trees)

-- a list of chains as a row of rows
abbrev pub rows : {N : Type 0} {k : Kind} → List (List (TreeOf N k)) → TreeOf N (RowOf (RowOf k))
rows [] = none
rows (trees ∷ more_trees) = more (row trees) (rows more_trees)

-- what may be absent, as a row of at most one
abbrev pub maybe : {N : Type 0} {k : Kind} → Option (TreeOf N k) → TreeOf N (RowOf k)
maybe None = none
maybe (Some tree) = more tree none
