-- The block of each CONSTRUCT that is evaluated and of each view is found by its token: it is the first of its file that stands in no
-- WHERE and has this token.
use Rattle.std.proofs.Common.{◌≡◌, ◌≤◌, ℕ, ◌+◌, true, false, ◌&&◌, cond, List, [], ◌∷◌, ◌++◌, length, Some, refl, sym, ap, ◌∙◌, nat_eq, slice_get, arith}
use Rattle.std.specs.Prelude.{⊤}
use Rattle.std.specs.List.{AllByRecursion, position_from}
use Rattle.std.proofs.lemmas.Bool.{eq-eqb, ne_eqb}
use Rattle.std.proofs.lemmas.List.{append-nil, append_assoc}
use Rattle.gc_base.proofs.SetLaws.{AllByRecursion-append}
use Rattle.gc_ast.specs.Trees as tree
use Rattle.gc_ast.specs.Trees.{Kind, Tree, AHead, ABasic, ABlock, AnOptional, RowOf}
use Rattle.gc_expr.specs.Views.{Names}
use Rattle.gc_sorts.specs.Blocks.{Around, Block, Blocks, MatchBlock, Placed, ViewBlock, none, one, both, block_at, blocks, is_at, is_outermost, optional_blocks, token_of, with_blocks}
use Rattle.gc_lower.specs.PathHeads.{path_heads}
use Rattle.gc_lower.specs.Scopes.{Scope}
use Rattle.gc_query.specs.Built.{AreNumbered, IsNumbered}
use Rattle.gc_query.specs.InOrder.{IsInOrder}
use Rattle.gc_query.proofs.InOrderLaws.{order_up}

-- what holds of each of some blocks
abbrev AllIn : (Placed → Type 0) → Blocks → Type 0
AllIn P none = ⊤
AllIn P (one placed) = P placed
AllIn P (both left right) = AllIn P left × AllIn P right

all_with : (P : Placed → Type 0) (before : List Placed) (bs : Blocks) → AllByRecursion P before → AllIn P bs → AllByRecursion P (with_blocks before bs)
all_with P before none h k = h
all_with P before (one placed) h k = AllByRecursion-append P before (placed ∷ []) h (k, tt)
all_with P before (both left right) h k = all_with P (with_blocks before left) right (all_with P before left h k.0) k.1

-- blocks stand behind others as they stand alone
with_behind : (before : List Placed) (bs : Blocks) → with_blocks before bs ≡ before ++ with_blocks [] bs
with_behind before none = sym (append-nil before)
with_behind before (one placed) = refl
with_behind before (both left right) =
    with_behind (with_blocks before left) right
    ∙ (ap (λ ps. ps ++ with_blocks [] right) (with_behind before left)
    ∙ (append_assoc before (with_blocks [] left) (with_blocks [] right) ∙ ap (λ ps. before ++ ps) (sym (with_behind (with_blocks [] left) right))))

-- the first block at a token, behind others that do not stand there
abbrev Passes : (token : ℕ) → Placed → Type 0
Passes token p = is_at token p ≡ false

passed : (token n : ℕ) (before : List Placed) (p : Placed) (later : List Placed) → AllByRecursion (Passes token) before → is_at token p ≡ true
    → position_from (is_at token) n (before ++ p ∷ later) ≡ Some (length before + n)
passed token n [] p later h is = ap (λ b. cond b (Some n) (position_from (is_at token) (n + 1) later)) is ∙ ap Some (omega arith)
passed token n (q ∷ before) p later h is =
    ap (λ b. cond b (Some n) (position_from (is_at token) (n + 1) (before ++ p ∷ later))) h.0 ∙ (passed token (n + 1) before p later h.1 is ∙ ap Some (omega arith))

seam : (before : List Placed) (p : Placed) (later : List Placed) → slice_get (before ++ p ∷ later) (length before) ≡ Some p
seam [] p later = refl
seam (q ∷ before) p later = seam before p later

-- where some blocks stand among all of a file: none before them stands in no WHERE and has the token of a number, or one behind it
pub record Stands (all : List Placed) (from : ℕ) (bs : Blocks) : Type 0 where
  pub before : List Placed
  pub later : List Placed
  pub whole : all ≡ with_blocks before bs ++ later
  pub below : (token : ℕ) → from ≤ token → AllByRecursion (Passes token) before

pub stands_left : (all : List Placed) (from : ℕ) (left right : Blocks) → Stands all from (both left right) → Stands all from left
stands_left all from left right st = record {
  before = st.before;
  later = with_blocks [] right ++ st.later;
  whole = st.whole ∙ (ap (λ ps. ps ++ st.later) (with_behind (with_blocks st.before left) right) ∙ append_assoc (with_blocks st.before left) (with_blocks [] right) st.later);
  below = st.below;
}

stands_right : (all : List Placed) (from mid : ℕ) (left right : Blocks) → from ≤ mid → ((token : ℕ) → mid ≤ token → AllIn (Passes token) left) → Stands all from (both left right) → Stands all mid right
stands_right all from mid left right up passes st = record {
  before = with_blocks st.before left;
  later = st.later;
  whole = st.whole;
  below = λ token high. all_with (Passes token) st.before left (st.below token (omega (arith, up, high))) (passes token high);
}

-- a block that stands there is found by its token
pub found_at : (s : Scope) (from : ℕ) (b : Block) → from ≤ token_of b → Stands s.blocks from (one (record { around = []; block = b })) → IsNumbered s b
found_at s from b low st =
    let p : Placed = record { around = []; block = b } in
    let whole : s.blocks ≡ st.before ++ p ∷ st.later = st.whole ∙ append_assoc st.before (p ∷ []) st.later in
    record {
      number = length st.before;
      at = ap (λ ps. block_at ps (token_of b)) whole
          ∙ (passed (token_of b) 0 st.before p st.later (st.below (token_of b) low) (eq-eqb (token_of b) (token_of b) refl) ∙ ap Some (omega arith));
      there = ap (λ ps. slice_get ps (length st.before)) whole ∙ seam st.before p st.later;
    }

-- blocks in a WHERE stand at no token
deep : (around : List Around) (a : Around) → is_outermost (around ++ a ∷ []) ≡ false
deep [] a = refl
deep (b ∷ around) a = refl

mutual
  unfolding blocks

  deep_pass : {k : Kind} (token : ℕ) (around : List Around) (t : Tree k) → is_outermost around ≡ false → AllIn (Passes token) (blocks around t)
  deep_pass token around (tree.View g query) h = deep_pass token around query h
  deep_pass token around (tree.Ask query) h = deep_pass token around query h
  deep_pass token around (tree.Query heads first rest) h = (deep_pass token around heads h, (deep_pass token around first h, deep_pass token around rest h))
  deep_pass token around (tree.NextTerm op term) h = deep_pass token around term h
  deep_pass token around (tree.BasicTerm basic) h = deep_pass token around basic h
  deep_pass token around (tree.QueryTerm query) h = deep_pass token around query h
  deep_pass token around (tree.PathHead v chains filter cost) h = ap (λ b. b && nat_eq token v.token) h
  deep_pass token around (tree.GraphHead g query) h = deep_pass token around query h
  deep_pass token around (tree.Basic at items main optionals) h =
      let basic = tree.Basic at items main optionals in (
        ap (λ b. b && nat_eq token at) h,
        (
          deep_pass token (around ++ record { basic = basic; part = 0 } ∷ []) main (deep around (record { basic = basic; part = 0 })),
          optionals_pass token around basic 1 optionals,
        ),
      )
  deep_pass token around (tree.Block patterns tree.none) h = tt
  deep_pass token around (tree.Block patterns (tree.more (tree.Formula condition queries) others)) h = deep_pass token around queries h
  deep_pass token around tree.none h = tt
  deep_pass token around (tree.more t ts) h = (deep_pass token around t h, deep_pass token around ts h)
  deep_pass token around other h = tt

  optionals_pass : (token : ℕ) (around : List Around) (basic : Tree ABasic) (part : ℕ) (optionals : Tree (RowOf AnOptional)) → AllIn (Passes token) (optional_blocks around basic part optionals)
  optionals_pass token around basic part tree.none = tt
  optionals_pass token around basic part (tree.more (tree.Optional at block) later) =
      (deep_pass token (around ++ record { basic = basic; part = part } ∷ []) block (deep around (record { basic = basic; part = part })), optionals_pass token around basic (part + 1) later)

-- the kinds of trees that stand in no MATCH
abbrev pub IsOuter : Kind → Type 0
IsOuter ABlock = ⊥
IsOuter (RowOf k) = IsOuter k
IsOuter k = ⊤

-- a tree that stands in order before a number has no block at a token from this number on
tree_passes : {k : Kind} (names : Names) (from : ℕ) (t : Tree k) (upto : ℕ) → IsOuter k → IsInOrder names from t upto → (token : ℕ) → upto ≤ token → AllIn (Passes token) (blocks [] t)
unfolding IsInOrder blocks
tree_passes names from (tree.View g query) upto o h token high = tree_passes names from query upto tt h token high
tree_passes names from (tree.Ask query) upto o h token high = tree_passes names from query upto tt h token high
tree_passes names from (tree.Query heads first rest) upto o h token high =
    let b = order_up names h.0 first h.1 h.3 in
    let c = order_up names h.1 rest upto h.4 in (
      tree_passes names from heads h.0 tt h.2 token (omega (arith, b, c, high)),
      (tree_passes names h.0 first h.1 tt h.3 token (omega (arith, c, high)), tree_passes names h.1 rest upto tt h.4 token high),
    )
tree_passes names from (tree.NextTerm op term) upto o h token high = tree_passes names from term upto tt h token high
tree_passes names from (tree.BasicTerm basic) upto o h token high = tree_passes names from basic upto tt h token high
tree_passes names from (tree.QueryTerm query) upto o h token high = tree_passes names from query upto tt h token high
tree_passes names from (tree.PathHead v chains filter cost) upto o h token high = let low = h.1 in ne_eqb token v.token (λ e. omega (arith, low, high, e))
tree_passes names from (tree.GraphHead g query) upto o h token high = tree_passes names from query upto tt h token high
tree_passes names from (tree.Basic at items main optionals) upto o h token high =
    let a = order_up names (at + 1) items h.0 h.3 in
    let b = order_up names h.0 main h.1 h.4 in
    let c = order_up names h.1 optionals upto h.5 in
    let basic = tree.Basic at items main optionals in (
      ne_eqb token at (λ e. omega (arith, a, b, c, high, e)),
      (deep_pass token (record { basic = basic; part = 0 } ∷ []) main refl, optionals_pass token [] basic 1 optionals),
    )
tree_passes names from (tree.Block patterns filter) upto o h token high = absurd o
tree_passes names from tree.none upto o h token high = tt
tree_passes names from (tree.more t ts) upto o h token high =
    let up = order_up names h.0 ts upto h.2 in
    (tree_passes names from t h.0 o h.1 token (omega (arith, up, high)), tree_passes names h.0 ts upto o h.2 token high)
tree_passes names from other upto o h token high = tt

-- so what stands behind a tree stands from this number on
pub stands_behind : {k : Kind} (names : Names) (all : List Placed) (from : ℕ) (t : Tree k) (upto : ℕ) (right : Blocks) → IsOuter k → IsInOrder names from t upto → Stands all from (both (blocks [] t) right)
    → Stands all upto right
stands_behind names all from t upto right o h st = stands_right all from upto (blocks [] t) right (order_up names from t upto h) (tree_passes names from t upto o h) st

-- a CONSTRUCT
pub match_found : (s : Scope) (names : Names) (from : ℕ) (basic : Tree ABasic) (upto : ℕ) → IsInOrder names from basic upto → Stands s.blocks from (blocks [] basic) → IsNumbered s (MatchBlock basic)
unfolding IsInOrder blocks
match_found s names from (tree.Basic token items main optionals) upto h st =
    let basic = tree.Basic token items main optionals in
    found_at s from (MatchBlock basic) h.2
    (stands_left s.blocks from (one (record { around = []; block = MatchBlock basic }))
    (both (blocks (record { basic = basic; part = 0 } ∷ []) main) (optional_blocks [] basic 1 optionals)) st)

-- the views of a tree
views_append : (s : Scope) (xs ys : List (Tree AHead)) → AreNumbered s xs → AreNumbered s ys → AreNumbered s (xs ++ ys)
views_append s [] ys h k = k
views_append s (tree.PathHead name chains filter cost ∷ xs) ys h k = (h.0, views_append s xs ys h.1 k)
views_append s (tree.GraphHead name query ∷ xs) ys h k = views_append s xs ys h k

pub views_found : {k : Kind} (s : Scope) (names : Names) (from : ℕ) (t : Tree k) (upto : ℕ) → IsOuter k → IsInOrder names from t upto → Stands s.blocks from (blocks [] t) → AreNumbered s (path_heads t)
unfolding IsInOrder blocks path_heads
views_found s names from (tree.View g query) upto o h st = views_found s names from query upto tt h st
views_found s names from (tree.Ask query) upto o h st = views_found s names from query upto tt h st
views_found s names from (tree.Query heads first rest) upto o h st =
    let late = both (blocks [] first) (blocks [] rest) in
    let behind = stands_behind names s.blocks from heads h.0 late tt h.2 st in
    views_append s (path_heads heads ++ path_heads first) (path_heads rest)
    (views_append s (path_heads heads) (path_heads first) (views_found s names from heads h.0 tt h.2 (stands_left s.blocks from (blocks [] heads) late st))
    (views_found s names h.0 first h.1 tt h.3 (stands_left s.blocks h.0 (blocks [] first) (blocks [] rest) behind)))
    (views_found s names h.1 rest upto tt h.4 (stands_behind names s.blocks h.0 first h.1 (blocks [] rest) tt h.3 behind))
views_found s names from (tree.NextTerm op term) upto o h st = views_found s names from term upto tt h st
views_found s names from (tree.QueryTerm query) upto o h st = views_found s names from query upto tt h st
views_found s names from (tree.PathHead v chains filter cost) upto o h st = (found_at s from (ViewBlock v.token chains filter) h.0 st, tt)
views_found s names from (tree.GraphHead g query) upto o h st = views_found s names from query upto tt h st
views_found s names from tree.none upto o h st = tt
views_found s names from (tree.more t ts) upto o h st =
    views_append s (path_heads t) (path_heads ts) (views_found s names from t h.0 o h.1 (stands_left s.blocks from (blocks [] t) (blocks [] ts) st))
    (views_found s names h.0 ts upto o h.2 (stands_behind names s.blocks from t h.0 (blocks [] ts) o h.1 st))
views_found s names from other upto o h st = tt
