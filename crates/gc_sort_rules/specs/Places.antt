-- The places of a query file of which a sort rule may speak: what stands at a token, and what is in scope there.
use Rattle.std.specs.Prelude.{ℕ, ℤ, List, Option}
use Rattle.gc_base.specs.declared.place.Direction.{Direction}
use Rattle.gc_regx.specs.Trees.{RegexTree, ARegex}
use Rattle.gc_ast.specs.Trees.{Tree, RowOf, AQuery, APattern}
use Rattle.gc_sorts.specs.declared.form.Form.{Form}
use Rattle.gc_sorts.specs.declared.form.Takes.{Takes}
use Rattle.gc_sorts.specs.declared.sort.Role.{Role}
use Rattle.gc_sorts.specs.Links.{Link}
use Rattle.gc_sorts.specs.Variables.{Use}

-- what is in scope: the names of the graphs that are known, those of the views, and the places of the variables in text
-- order. A variable has the sort of its first place
pub record Scope : Type 0 where
  pub graphs : List (List ℕ)
  pub views : List (List ℕ)
  pub variables : List Use

-- what an expression is part of: the right side of `:=`, an aggregate in whatever, or neither
pub data Around : Type 0 where
  Assigned : Around
  Aggregated : Around
  Elsewhere : Around

-- what stands at a token
pub data Place : Type 0 where
  -- the name of a graph, behind ON, as a term or as an item; the name of a view, behind `~`
  GraphName : (name : List ℕ) → Place
  ViewName : (name : List ℕ) → Place
  -- the name that a GRAPH or a GRAPH VIEW gives; the name that a PATH gives to its chains
  NewGraph : (name : List ℕ) → Place
  NewView : (name : List ℕ) → (chains : Tree (RowOf (RowOf APattern))) → Place
  -- the number before SHORTEST; a regular path expression
  Count : ℤ → Place
  Regex : RegexTree ARegex → Place
  -- a node, an edge, a path or a property of the patterns of a block, and an OPTIONAL of a query, each behind so many others
  Pattern : (before : ℕ) → Place
  Optional : (before : ℕ) → Place
  -- a variable in a pattern, as what it stands there; the places in the mandatory patterns, with those that the block sees
  -- around it, and the places in the OPTIONAL blocks before
  Binding : (name : List ℕ) → Role → (mandatory earlier : List Use) → Place
  -- a variable that is named elsewhere
  Name : (name : List ℕ) → Place
  -- an expression or a name: what its place takes, and what it is
  Operand : Takes → Form → Place
  -- the path of `-/p/->` in a CONSTRUCT, by what it is
  Projected : Form → Place
  -- a target of SET or REMOVE, by what the MATCH has it for; the nodes and edges of the CONSTRUCT, and the paths that it stores
  Target : (name : List ℕ) → Form → (made : List Use) → (stored : List (List ℕ)) → Place
  -- an aggregate in an expression; an EXISTS with its query, if it stands in the WHERE of a block
  Aggregate : Around → Place
  Exists : Option (Tree AQuery) → Place
  -- an edge of a CONSTRUCT between its neighbours, which may have no name, and a path of one; the links of the MATCH
  EdgeLink : (name left right : Option (List ℕ)) → Direction → (links : List Link) → Place
  PathLink : Link → (links : List Link) → Place
  -- a GROUP, a copy, and the name of an edge of a CONSTRUCT; the places of all GROUPs, of all copies, and of all its nodes
  -- and edges
  Group : (name : List ℕ) → (groups : List Use) → Place
  Copy : (name : List ℕ) → (copies : List Use) → Place
  EdgeName : (name : List ℕ) → (made : List Use) → Place

-- a place with the number of its token and what is in scope there
pub data Occurrence : Type 0 where
  At : (token : ℕ) → Place → Scope → Occurrence

abbrev pub token_of : Occurrence → ℕ
token_of (At token place seen) = token
