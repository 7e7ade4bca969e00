-- The way to each block of a query file: from the statements through queries, terms and EXISTS queries.
use Rattle.std.specs.Prelude.{ℕ, zero, suc, ◌+◌, List, [], ◌∷◌, ◌++◌, Bool, true, false, Option, Some, None}
use Rattle.std.specs.Option.{option_map}
use Rattle.gc_ast.specs.Trees as tree
use Rattle.gc_ast.specs.Trees.{Tree, RowOf, AStatement, AQuery, AHead, ATerm, ANextTerm, ABasic, ABlock, AnOptional}
use Rattle.gc_sorts.specs.declared.step.Step.{Step}
use Rattle.gc_sorts.specs.declared.step.Step.TheVariants.{Statement, Head, Term, Exists}
use Rattle.gc_sorts.specs.Blocks.{Block, MatchBlock, ViewBlock, Around, Placed, around_uses, nth, own_uses, part_of}
use Rattle.gc_sorts.specs.Variables.{Use}

-- ways in text order: none, one, or those of two parts
pub data Ways : Type 0 where
  none : Ways
  one : List Step → Ways
  both : Ways → Ways → Ways

-- the ways to the blocks of a tree, to which this way leads; trees of a row are numbered on from n
unfoldable mutual
  pub query_ways : (here : List Step) → Tree AQuery → Ways
  query_ways here (tree.Query heads first rest) =
      both (head_ways here 0 heads) (both (term_ways (here ++ Term 0 ∷ []) first) (later_ways here 1 rest))

  pub head_ways : (here : List Step) → (n : ℕ) → Tree (RowOf AHead) → Ways
  head_ways here n tree.none = none
  head_ways here n (tree.more head heads) = both (of_head (here ++ Head n ∷ []) head) (head_ways here (n + 1) heads)

  pub of_head : (here : List Step) → Tree AHead → Ways
  of_head here (tree.PathHead v chains filter cost) = one here
  of_head here (tree.GraphHead g query) = query_ways here query

  pub later_ways : (here : List Step) → (n : ℕ) → Tree (RowOf ANextTerm) → Ways
  later_ways here n tree.none = none
  later_ways here n (tree.more (tree.NextTerm op term) terms) = both (term_ways (here ++ Term n ∷ []) term) (later_ways here (n + 1) terms)

  pub term_ways : (here : List Step) → Tree ATerm → Ways
  term_ways here (tree.BasicTerm basic) = basic_ways here basic
  term_ways here (tree.GraphTerm g) = none
  term_ways here (tree.QueryTerm query) = query_ways here query

  pub basic_ways : (here : List Step) → Tree ABasic → Ways
  basic_ways here (tree.Basic token items main optionals) = both (one here) (both (part_ways here 0 main) (optional_ways here 1 optionals))

  pub optional_ways : (here : List Step) → (part : ℕ) → Tree (RowOf AnOptional) → Ways
  optional_ways here part tree.none = none
  optional_ways here part (tree.more (tree.Optional token block) later) = both (part_ways here part block) (optional_ways here (part + 1) later)

  pub part_ways : (here : List Step) → (part : ℕ) → Tree ABlock → Ways
  part_ways here part (tree.Block patterns tree.none) = none
  part_ways here part (tree.Block patterns (tree.more (tree.Formula condition queries) others)) = exists_ways here part 0 queries

  pub exists_ways : (here : List Step) → (part n : ℕ) → Tree (RowOf AQuery) → Ways
  exists_ways here part n tree.none = none
  exists_ways here part n (tree.more query queries) = both (query_ways (here ++ Exists part n ∷ []) query) (exists_ways here part (n + 1) queries)

-- those of statements, which are numbered on from n
unfoldable pub statement_ways : (n : ℕ) → Tree (RowOf AStatement) → Ways
statement_ways n tree.none = none
statement_ways n (tree.more (tree.View g query) later) = both (query_ways (Statement n ∷ []) query) (statement_ways (n + 1) later)
statement_ways n (tree.more (tree.Ask query) later) = both (query_ways (Statement n ∷ []) query) (statement_ways (n + 1) later)

-- ways by the number of the block, behind others
abbrev pub with_ways : List (List Step) → Ways → List (List Step)
with_ways before none = before
with_ways before (one way) = before ++ way ∷ []
with_ways before (both left right) = with_ways (with_ways before left) right

abbrev pub file_ways : Tree (RowOf AStatement) → List (List Step)
file_ways statements = with_ways [] (statement_ways 0 statements)

-- where a way leads: to the statements of a file, a query or a block
pub data Node : Type 0 where
  AtStatements : Tree (RowOf AStatement) → Node
  AtQuery : Tree AQuery → Node
  AtBlock : Block → Node

-- what a statement asks, what a head declares, and where a term leads
abbrev pub asked : Tree AStatement → Tree AQuery
asked (tree.View g query) = query
asked (tree.Ask query) = query

abbrev pub declared : Tree AHead → Node
declared (tree.PathHead v chains filter cost) = AtBlock (ViewBlock v.token chains filter)
declared (tree.GraphHead g query) = AtQuery query

abbrev pub from_term : Option (Tree ATerm) → Option Node
from_term None = None
from_term (Some (tree.BasicTerm basic)) = Some (AtBlock (MatchBlock basic))
from_term (Some (tree.GraphTerm g)) = None
from_term (Some (tree.QueryTerm query)) = Some (AtQuery query)

-- the term of a number: 0 is the first one
abbrev pub operand : Tree ANextTerm → Tree ATerm
operand (tree.NextTerm op term) = term

abbrev pub term_at : (first : Tree ATerm) → Tree (RowOf ANextTerm) → (n : ℕ) → Option (Tree ATerm)
term_at first rest zero = Some first
term_at first rest (suc n) = option_map operand (nth rest n)

-- the EXISTS query of a number in a part
abbrev pub queries_in : Tree ABlock → Tree (RowOf AQuery)
queries_in (tree.Block patterns tree.none) = tree.none
queries_in (tree.Block patterns (tree.more (tree.Formula condition queries) others)) = queries

abbrev pub query_in : Option (Tree ABlock) → (n : ℕ) → Option (Tree AQuery)
query_in None n = None
query_in (Some part) n = nth (queries_in part) n

-- the head and the term of a number, and one step on
abbrev pub head_of : Tree AQuery → (n : ℕ) → Option Node
head_of (tree.Query heads first rest) n = option_map declared (nth heads n)

abbrev pub term_of : Tree AQuery → (n : ℕ) → Option Node
term_of (tree.Query heads first rest) n = from_term (term_at first rest n)

abbrev pub next : Node → Step → Option Node
next (AtStatements all) (Statement n) = option_map (λ s. AtQuery (asked s)) (nth all n)
next (AtQuery query) (Head n) = head_of query n
next (AtQuery query) (Term n) = term_of query n
next (AtBlock (MatchBlock basic)) (Exists part n) = option_map AtQuery (query_in (part_of basic part) n)
next from step = None

-- whether a step goes into a WHERE
abbrev pub is_inside : Step → Bool
is_inside (Exists part n) = true
is_inside step = false

-- the part in whose WHERE a step goes, and the parts around what lies behind it
abbrev pub part_left : Node → Step → Option Around
part_left (AtBlock (MatchBlock basic)) (Exists part n) = Some (record { basic = basic; part = part })
part_left node step = None

abbrev pub with_part : List Around → Option Around → List Around
with_part around None = around
with_part around (Some part) = around ++ part ∷ []

abbrev pub around_next : List Around → Node → Step → List Around
around_next around node step = with_part around (part_left node step)

-- the block at which a way ends, with the parts around it
abbrev pub arrived : List Around → Option Node → Option Placed
arrived around (Some (AtBlock block)) = Some (record { around = around; block = block })
arrived around at = None

abbrev pub next_if : Option Node → Step → Option Node
next_if None step = None
next_if (Some node) step = next node step

abbrev pub around_next_if : List Around → Option Node → Step → List Around
around_next_if around None step = around
around_next_if around (Some node) step = around_next around node step

abbrev pub follow : List Around → Option Node → List Step → Option Placed
follow around node [] = arrived around node
follow around node (step ∷ way) = follow (around_next_if around node step) (next_if node step) way

-- the block to which a way over statements leads, if it leads to one
abbrev pub led : Tree (RowOf AStatement) → List Step → Option Placed
led statements way = follow [] (Some (AtStatements statements)) way

abbrev pub led_if : Tree (RowOf AStatement) → Option (List Step) → Option Placed
led_if statements None = None
led_if statements (Some way) = led statements way

-- a walk over a file: the ways to the blocks so far, and the way to where it stands
pub record Walk : Type 0 where
  pub ways : List (List Step)
  pub here : List Step

-- the places of variables in the part in whose WHERE a step goes, and in the block that is reached
abbrev pub uses_around : Option Around → List Use
uses_around None = []
uses_around (Some part) = around_uses part

abbrev pub around_uses_at : Node → Step → List Use
around_uses_at node step = uses_around (part_left node step)

abbrev pub own_uses_at : Node → List Use
own_uses_at (AtBlock block) = own_uses block
own_uses_at node = []
