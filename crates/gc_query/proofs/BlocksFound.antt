-- What is found at the tokens of CONSTRUCTs and PATH heads.
use Rattle.std.proofs.Common.{◌≡◌, ℕ, zero, suc, subst, List, [], ◌∷◌, Option, Some, None, sym, ap, ◌∙◌, rules, slice_get, unwrap_or}
use Rattle.std.specs.Option.{option_map}
use Rattle.gc_ast.specs.declared.construct.Change.{the_lemmas}
use Rattle.gc_ast.specs.declared.query.Basic.{Basic, out-Basic}
use Rattle.gc_ast.specs.QueryViews.{basic_by, basic_tree}
use Rattle.gc_ast.specs.Trees.{Tree, AHead, PathHead, GraphHead}
use Rattle.gc_base.specs.declared.place.BlockNo.{BlockNo}
use Rattle.gc_expr.specs.Views.{Names}
use Rattle.gc_sorts.specs.Blocks.{Block, MatchBlock, block_at, token_of}
use Rattle.gc_sorts.specs.declared.checked.Checked.{Checked}
use Rattle.gc_lower.specs.Lowerings.{asked_block, lowered, lowered_if}
use Rattle.gc_lower.specs.Namings.{scope_in, scope_of}
use Rattle.gc_lower.specs.Scopes.{Scope}
use Rattle.gc_query.specs.Built.{AreNumbered, IsHeadNumbered, IsNumbered}

-- a CONSTRUCT has the token of its block
pub construct_at : (names : Names) (b : Basic) → token_of (MatchBlock (basic_tree names b)) ≡ (out-Basic b).token
unfolding basic_by
construct_at names b = search (rules, the_lemmas)

-- the number that is read at a token
number_is : (read : Option BlockNo) (other : BlockNo) (n : ℕ) → option_map (λ (b : BlockNo). b.0) read ≡ Some n → (unwrap_or read other).0 ≡ n
number_is None other n h = cc
number_is (Some b) other n h = cc

-- what is due for the block that is found at a token
pub due_at : (c : Checked) (on : ℕ) (read : Option BlockNo) (other : BlockNo) (token : ℕ) → option_map (λ (b : BlockNo). b.0) read ≡ block_at (scope_of c 0).blocks token
    → (block : Block) → IsNumbered (scope_of c 0) block → token_of block ≡ token → asked_block c (unwrap_or read other).0 on ≡ lowered c on [] block
unfolding scope_in
due_at c on read other token is block found at =
    let number : (unwrap_or read other).0 ≡ found.number = number_is read other found.number (is ∙ (ap (block_at (scope_of c 0).blocks) (sym at) ∙ found.at)) in
    ap (λ n. asked_block c n on) number ∙ ap (lowered_if c on) found.there

-- one of the heads
pub head_numbered : (s : Scope) (heads : List (Tree AHead)) (n : ℕ) (head : Tree AHead) → AreNumbered s heads → slice_get heads n ≡ Some head → IsHeadNumbered s head
head_numbered s [] n head all at = absurd (cc)
head_numbered s (PathHead name chains filter cost ∷ heads) zero head all at = let e : PathHead name chains filter cost ≡ head = cc in subst (IsHeadNumbered s) e all.0
head_numbered s (PathHead name chains filter cost ∷ heads) (suc n) head all at = head_numbered s heads n head all.1 at
head_numbered s (GraphHead name query ∷ heads) zero head all at = let e : GraphHead name query ≡ head = cc in subst (IsHeadNumbered s) e tt
head_numbered s (GraphHead name query ∷ heads) (suc n) head all at = head_numbered s heads n head all at
