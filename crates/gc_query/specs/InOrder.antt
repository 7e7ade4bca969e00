-- The tokens at which the CONSTRUCTs, the names and the elements of a query file stand, in the order of the text.
use Rattle.std.specs.Prelude.{◌≡◌, ◌<◌, ◌≤◌, ℕ, ◌+◌, true, Option, Some, None}
use Rattle.std.specs.List.{list_any}
use Rattle.gc_expr.specs.Views.{Names}
use Rattle.gc_ast.specs.Names.{same_name}
use Rattle.gc_ast.specs.Trees.{Tree, Kind, Named, View, Ask, Query, NextTerm, BasicTerm, QueryTerm, PathHead, GraphHead, Basic, Block, Optional, Located}
use Rattle.gc_ast.specs.Trees.{Node, Edge, Path, Element, PropertyUse, Reach, Found, All, Stored, ChainItem, NewNode, NewEdge, NewStored, NewElement, none, more}

-- Take `CONSTRUCT (x) MATCH (x)-[]->()`: the CONSTRUCT stands at the token 0, the elements at 1, 5, 8 and 13, and the names at 2 and 6; the
-- unnamed edge has the token 8 and the unnamed node the token 13. In `PATH v = (x)-[]->(y)` the name v of the view stands at the token 1.

-- a name of a table, at a token between two numbers: from one on, and below the other
pub record IsNameIn (names : Names) (from : ℕ) (x : Named) (upto : ℕ) : Type 0 where
  pub low : from ≤ x.token
  pub high : x.token < upto
  pub there : list_any (same_name x.name) names ≡ true

abbrev pub IsNameIf : Names → (from : ℕ) → Option Named → (upto : ℕ) → Type 0
IsNameIf names from None upto = from ≤ upto
IsNameIf names from (Some x) upto = IsNameIn names from x upto

-- the CONSTRUCTs, names and elements of a tree stand between two numbers, each behind the one before, and the names are of a table; what an
-- EXISTS and an assignment have is left out, and of a PATH view all but where its name stands
unfoldable pub IsInOrder : Names → {k : Kind} → (from : ℕ) → Tree k → (upto : ℕ) → Type 0
IsInOrder names from (View name query) upto = IsInOrder names from query upto
IsInOrder names from (Ask query) upto = IsInOrder names from query upto
IsInOrder names from (Query heads first rest) upto =
    (mid : ℕ) × (late : ℕ) × IsInOrder names from heads mid × IsInOrder names mid first late × IsInOrder names late rest upto
IsInOrder names from (NextTerm op term) upto = IsInOrder names from term upto
IsInOrder names from (BasicTerm basic) upto = IsInOrder names from basic upto
IsInOrder names from (QueryTerm query) upto = IsInOrder names from query upto
IsInOrder names from (PathHead name chains filter cost) upto = (from ≤ name.token) × (name.token < upto)
IsInOrder names from (GraphHead name query) upto = IsInOrder names from query upto
IsInOrder names from (Basic token items main optionals) upto =
    (mid : ℕ) × (late : ℕ) × (from ≤ token) × IsInOrder names (token + 1) items mid × IsInOrder names mid main late
    × IsInOrder names late optionals upto
IsInOrder names from (Block patterns filter) upto = (mid : ℕ) × IsInOrder names from patterns mid × (mid ≤ upto)
IsInOrder names from (Optional token block) upto = IsInOrder names from block upto
IsInOrder names from (Located parts on) upto = (mid : ℕ) × IsInOrder names from parts mid × (mid ≤ upto)
IsInOrder names from (Node element) upto = IsInOrder names from element upto
IsInOrder names from (Edge way element) upto = IsInOrder names from element upto
IsInOrder names from (Path token regex_at body) upto = IsInOrder names from body upto
IsInOrder names from (Element token name labels properties) upto =
    (mid : ℕ) × (from ≤ token) × IsNameIf names (token + 1) name mid × IsInOrder names mid properties upto
IsInOrder names from (PropertyUse token property value) upto = IsNameIn names from value upto
IsInOrder names from (Reach regex views) upto = from ≤ upto
IsInOrder names from (Found k path regex views cost) upto = (mid : ℕ) × IsNameIn names from path mid × IsNameIf names mid cost upto
IsInOrder names from (All path regex views) upto = IsNameIn names from path upto
IsInOrder names from (Stored path labels) upto = IsNameIn names from path upto
IsInOrder names from (ChainItem parts changes condition) upto = (mid : ℕ) × IsInOrder names from parts mid × (mid ≤ upto)
IsInOrder names from (NewNode element) upto = IsInOrder names from element upto
IsInOrder names from (NewEdge way element) upto = IsInOrder names from element upto
IsInOrder names from (NewStored token path labels assigns) upto = IsNameIn names from path upto
IsInOrder names from (NewElement token name copy group labels assigns) upto = (from ≤ token) × IsNameIf names (token + 1) name upto
IsInOrder names from none upto = from ≤ upto
IsInOrder names from (more t ts) upto = (mid : ℕ) × IsInOrder names from t mid × IsInOrder names mid ts upto
IsInOrder names from other upto = from ≤ upto
