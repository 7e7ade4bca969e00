-- The blocks of a query file in text order: the MATCH of each CONSTRUCT with its OPTIONAL blocks, and the chains and the WHERE of
-- each PATH view. The MATCH of an EXISTS query comes behind the block in whose WHERE the query stands.
use Rattle.std.specs.Prelude.{ℕ, zero, suc, ◌+◌, List, [], ◌∷◌, ◌++◌, Bool, true, false, ◌&&◌, Option, Some, None, nat_eq, slice_get}
use Rattle.std.specs.List.{flat_map, position_from}
use Rattle.std.specs.Option.{option_map}
use Rattle.gc_ast.specs.Trees as tree
use Rattle.gc_ast.specs.Trees.{Tree, RowOf, AStatement, ABasic, ABlock, AnOptional, AFormula, APattern}
use Rattle.gc_sorts.specs.declared.sort.Sort.{Sort}
use Rattle.gc_sorts.specs.Uses.{all_of, block_uses, optional_uses, pattern_uses}
use Rattle.gc_sorts.specs.Variables.{Use, first_sort}

-- Take `CONSTRUCT (n) MATCH (n) WHERE EXISTS (CONSTRUCT () MATCH (n)-[]->(m)) OPTIONAL (n)-[]->(p)`. Block 0 is the MATCH of n with
-- its OPTIONAL block. Block 1 is the MATCH of the EXISTS query, around which part 0 of block 0 stands: there m is a node, and so is n,
-- which is seen; p is not seen.

-- a block by what it is made of: a CONSTRUCT, whose MATCH it is; the name's token of a PATH head, with its chains and its WHERE
pub data Block : Type 0 where
  MatchBlock : Tree ABasic → Block
  ViewBlock : (token : ℕ) → Tree (RowOf (RowOf APattern)) → Tree (RowOf AFormula) → Block

-- a part of a MATCH in whose WHERE an EXISTS query stands: part 0 is the mandatory one, and the OPTIONAL blocks follow
pub record Around : Type 0 where
  pub basic : Tree ABasic
  pub part : ℕ

-- a block, and the parts in whose WHERE it stands, from the outermost on
pub record Placed : Type 0 where
  pub around : List Around
  pub block : Block

-- blocks in text order: none, one, or those of two parts
pub data Blocks : Type 0 where
  none : Blocks
  one : Placed → Blocks
  both : Blocks → Blocks → Blocks

unfoldable mutual
  -- those of a tree around which these parts stand
  pub blocks : {k : tree.Kind} → (around : List Around) → Tree k → Blocks
  blocks around (tree.View g query) = blocks around query
  blocks around (tree.Ask query) = blocks around query
  blocks around (tree.Query heads first rest) = both (blocks around heads) (both (blocks around first) (blocks around rest))
  blocks around (tree.NextTerm op term) = blocks around term
  blocks around (tree.BasicTerm basic) = blocks around basic
  blocks around (tree.QueryTerm query) = blocks around query
  blocks around (tree.PathHead v chains filter cost) = one (record { around = around; block = ViewBlock v.token chains filter })
  blocks around (tree.GraphHead g query) = blocks around query
  blocks around (tree.Basic token items main optionals) =
      both (one (record { around = around; block = MatchBlock (tree.Basic token items main optionals) }))
      (both (blocks (around ++ record { basic = tree.Basic token items main optionals; part = 0 } ∷ []) main)
      (optional_blocks around (tree.Basic token items main optionals) 1 optionals))
  blocks around (tree.Block patterns tree.none) = none
  blocks around (tree.Block patterns (tree.more (tree.Formula condition queries) others)) = blocks around queries
  blocks around tree.none = none
  blocks around (tree.more t ts) = both (blocks around t) (blocks around ts)
  blocks around other = none

  -- those of the OPTIONAL blocks of a MATCH, of which the first is the part of this number
  pub optional_blocks : (around : List Around) → Tree ABasic → (part : ℕ) → Tree (RowOf AnOptional) → Blocks
  optional_blocks around basic part tree.none = none
  optional_blocks around basic part (tree.more (tree.Optional token block) later) =
      both (blocks (around ++ record { basic = basic; part = part } ∷ []) block) (optional_blocks around basic (part + 1) later)

-- blocks by number, behind others
abbrev pub with_blocks : List Placed → Blocks → List Placed
with_blocks before none = before
with_blocks before (one placed) = before ++ placed ∷ []
with_blocks before (both left right) = with_blocks (with_blocks before left) right

-- the blocks of a file by number
abbrev pub file_blocks : Tree (RowOf AStatement) → List Placed
file_blocks statements = with_blocks [] (blocks [] statements)

-- the tree of a row by its number, from 0 on
abbrev pub nth : {k : tree.Kind} → Tree (RowOf k) → ℕ → Option (Tree k)
nth tree.none n = None
nth (tree.more t ts) zero = Some t
nth (tree.more t ts) (suc n) = nth ts n

-- the part of a MATCH of a number
abbrev pub optional_part : Tree AnOptional → Tree ABlock
optional_part (tree.Optional token block) = block

abbrev pub part_of : Tree ABasic → (part : ℕ) → Option (Tree ABlock)
part_of (tree.Basic token items main optionals) zero = Some main
part_of (tree.Basic token items main optionals) (suc n) = option_map optional_part (nth optionals n)

-- the places of variables in a part around a block, and in a block
abbrev pub uses_if : Option (Tree ABlock) → List Use
uses_if None = []
uses_if (Some block) = block_uses block

abbrev pub around_uses : Around → List Use
around_uses a = uses_if (part_of a.basic a.part)

abbrev pub own_uses : Block → List Use
own_uses (MatchBlock (tree.Basic token items main optionals)) = block_uses main ++ all_of optional_uses optionals
own_uses (ViewBlock token chains filter) = all_of (all_of pattern_uses) chains

-- those that a block sees or has
abbrev pub places_in : Option Placed → List Use
places_in None = []
places_in (Some placed) = flat_map around_uses placed.around ++ own_uses placed.block

-- a block that is placed, and the parts around it
abbrev pub block_in : Option Placed → Option Block
block_in placed = option_map (λ p. p.block) placed

abbrev pub around_in : Option Placed → List Around
around_in None = []
around_in (Some placed) = placed.around

-- the sort of a variable in the block of a number, if the block sees or has it: that of its first place there
abbrev pub sort_in : List Placed → (number : ℕ) → (name : List ℕ) → Option Sort
sort_in all number name = first_sort (places_in (slice_get all number)) name

-- the token of a block: that of CONSTRUCT, or of the name of a view
abbrev pub token_of : Block → ℕ
token_of (MatchBlock (tree.Basic token items main optionals)) = token
token_of (ViewBlock token chains filter) = token

-- whether a block stands in no WHERE and has this token
abbrev pub is_outermost : List Around → Bool
is_outermost [] = true
is_outermost around = false

abbrev pub is_at : (token : ℕ) → Placed → Bool
is_at token placed = is_outermost placed.around && nat_eq token (token_of placed.block)

-- the number of the first block that stands in no WHERE and has this token
abbrev pub block_at : List Placed → (token : ℕ) → Option ℕ
block_at all token = position_from (is_at token) 0 all
