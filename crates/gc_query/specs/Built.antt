-- Which query files are built.
use Rattle.std.specs.Prelude.{◌≡◌, ℕ, ⊤, Bool, true, ◌&&◌, List, [], ◌∷◌, Some, slice_get}
use Rattle.std.specs.List.{AllByRecursion, list_all}
use Rattle.gc_alg.specs.Tables.{block_variables}
use Rattle.gc_alg.specs.Trees as alg
use Rattle.gc_alg.specs.Trees.{ABlock, BlockOf, PartOf, ConjunctOf, ExistsOf}
use Rattle.gc_alg.specs.declared.atom.AtomWhat.{AtomWhat}
use Rattle.gc_alg.specs.declared.atom.AtomWhat.TheVariants as atom
use Rattle.gc_ast.specs.Trees as ast
use Rattle.gc_ast.specs.Trees.{Tree, AHead, View, Ask, Query, NextTerm, BasicTerm, GraphTerm, QueryTerm, PathHead, GraphHead}
use Rattle.gc_build.specs.Linked.{HasLinksOf}
use Rattle.gc_build_reading.specs.Recipes.{recipe_of}
use Rattle.gc_build_recipe.specs.Recipes.{Recipe}
use Rattle.gc_cert_searches.specs.Patterns.{AreOnly}
use Rattle.gc_rows.specs.Algebra.{joined_schema}
use Rattle.gc_walks.specs.Expressions.{is_searchable}
use Rattle.gc_sorts.specs.Blocks.{Block, MatchBlock, ViewBlock, block_at, token_of}
use Rattle.gc_lower.specs.Blocks.{block_of}
use Rattle.gc_lower.specs.Namings.{QueryFile, scope_in}
use Rattle.gc_lower.specs.Scopes.{Scope}

-- whether an atom looks for walks by an expression that has an automaton, or for none
abbrev pub is_searched : AtomWhat → Bool
is_searched (atom.Node x labels) = true
is_searched (atom.Edge x e y way labels) = true
is_searched (atom.Property x kind name v) = true
is_searched (atom.Stored x p y labels) = true
is_searched (atom.Reach x y regex views) = is_searchable regex
is_searched (atom.Found x p y k cost regex views) = is_searchable regex
is_searched (atom.All x p y regex views) = is_searchable regex

-- the same of all atoms of a block, and of the EXISTS queries in it
unfoldable pub are_searched : {k : alg.Kind} → alg.Tree k → Bool
are_searched (BlockOf parts reads) = are_searched parts
are_searched (PartOf atoms conjuncts) = list_all (λ a. is_searched a.what) atoms && are_searched conjuncts
are_searched (ConjunctOf condition queries) = are_searched queries
are_searched (ExistsOf outer block tree) = are_searched block
are_searched alg.none = true
are_searched (alg.more t ts) = are_searched t && are_searched ts

-- what a CONSTRUCT asks for on the table of the block of its MATCH
abbrev pub asked_on : Scope → ast.Tree ast.ABasic → alg.Tree ABlock → Recipe
asked_on s basic block = recipe_of s (joined_schema [] (block_variables block)) basic

-- a block that stands in no WHERE is found by its token
pub record IsNumbered (s : Scope) (block : Block) : Type 0 where
  pub number : ℕ
  pub at : block_at s.blocks (token_of block) ≡ Some number
  pub there : slice_get s.blocks number ≡ Some (record { around = []; block = block })

-- those of views are, by the heads that declare these
abbrev pub AreNumbered : Scope → List (Tree AHead) → Type 0
AreNumbered s [] = ⊤
AreNumbered s (PathHead name chains filter cost ∷ heads) = IsNumbered s (ViewBlock name.token chains filter) × AreNumbered s heads
AreNumbered s (GraphHead name query ∷ heads) = AreNumbered s heads

-- the same of one head
abbrev pub IsHeadNumbered : Scope → Tree AHead → Type 0
IsHeadNumbered s (PathHead name chains filter cost) = IsNumbered s (ViewBlock name.token chains filter)
IsHeadNumbered s (GraphHead name query) = ⊤

-- a CONSTRUCT is built where its MATCH looks for walks by expressions that have automata, each found path stands at one pattern of it, and
-- what it asks for has the links of the block: so what it claims is of one graph; and where its MATCH and the views of the file are found by
-- their tokens
pub record IsBasicBuilt (s : Scope) (basic : ast.Tree ast.ABasic) : Type 0 where
  pub searched : are_searched (block_of s [] basic) ≡ true
  pub only : AreOnly (block_of s [] basic)
  pub links : HasLinksOf (block_of s [] basic) (alg.reads_of (block_of s [] basic)) (asked_on s basic (block_of s [] basic))
  pub numbered : IsNumbered s (MatchBlock basic)
  pub views : AreNumbered s s.views

-- a file is built, as the grammar and the sort rules let none not be
unfoldable pub IsBuilt : {k : ast.Kind} → Scope → Tree k → Type 0
IsBuilt s (Ask query) = IsBuilt s query
IsBuilt s (View name query) = IsBuilt s query
IsBuilt s (Query heads first rest) = IsBuilt s heads × IsBuilt s first × IsBuilt s rest
IsBuilt s (PathHead name chains filter cost) = ⊤
IsBuilt s (GraphHead name query) = IsBuilt s query
IsBuilt s (BasicTerm basic) = IsBasicBuilt s basic
IsBuilt s (GraphTerm g) = ⊤
IsBuilt s (QueryTerm query) = IsBuilt s query
IsBuilt s (NextTerm op term) = IsBuilt s term
IsBuilt s ast.none = ⊤
IsBuilt s (ast.more t ts) = IsBuilt s t × IsBuilt s ts
IsBuilt s t = ⊤

-- each statement of a query file is built
abbrev pub AreBuilt : QueryFile → Type 0
AreBuilt f = AllByRecursion (IsBuilt (scope_in f 0)) f.statements
