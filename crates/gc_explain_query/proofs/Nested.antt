-- The EXISTS queries of blocks, parts, conjuncts and EXISTS queries in memory, and their lines.
use Rattle.std.proofs.Common.{◌≡◌, ℕ, ◌+◌, ◌<◌, suc, List, [], ◌∷◌, ◌++◌, add-one, append_assoc}
use Rattle.std.proofs.Common.{append-nil, codes, get_or, length, length-append, map, take, refl, sym, ap, ◌∙◌, subst, arith, Result, Ok, Err, OnOk}
use Rattle.std.proofs.Math.Seq.{take-suc}
use Rattle.std.proofs.lemmas.Grind.{flat_map-append}
use Rattle.std.specs.List.{flat_map}
use Rattle.gc_base.specs.declared.place.Sym.{Sym}
use Rattle.gc_spec.specs.PropertyGraph.{PropertyGraph}
use Rattle.gc_alg.specs.Trees.{Kind, Tree, row}
use Rattle.gc_alg.specs.Views.{block_tree, conjunct_tree, exists_tree, part_tree}
use Rattle.gc_alg.specs.declared.block.Block.{Block, out-Block}
use Rattle.gc_alg.specs.declared.block.Conjunct.{Conjunct, out-Conjunct}
use Rattle.gc_alg.specs.declared.block.ExistsBlock.{ExistsBlock, out-ExistsBlock}
use Rattle.gc_alg.specs.declared.block.Part.{Part, out-Part}
use Rattle.gc_alg.proofs.Layers.{block_is, conjunct_is, exists_is, part_is}
use Rattle.gc_explain.specs.WholePlans.{seen}
use Rattle.gc_explain_query.specs.NestedLines.{AddsQueries}
use Rattle.gc_explain_query.specs.NestedQueries.{NestedQuery, nested}
use Rattle.gc_explain_query.specs.QueryLines.{block_lines, exists_lines, numbered_line}

row_nested : {X : Type 0} {k : Kind} (around : List Sym) (tree_of : X → Tree k) (xs : List X)
    → nested around (row (map tree_of xs)) ≡ flat_map (λ x. nested around (tree_of x)) xs
unfolding nested
row_nested around tree_of [] = refl
row_nested around tree_of (x ∷ xs) = ap (λ all. nested around (tree_of x) ++ all) (row_nested around tree_of xs)

pub block_nested : (around : List Sym) (b : Block) → nested around (block_tree b) ≡ flat_map (λ p. nested around (part_tree p)) (out-Block b).parts.items
unfolding nested
block_nested around b = ap (nested around) (block_is b) ∙ row_nested around part_tree (out-Block b).parts.items

pub part_nested : (around : List Sym) (p : Part)
    → nested around (part_tree p) ≡ flat_map (λ c. nested (seen around (part_tree p)) (conjunct_tree c)) (out-Part p).conjuncts.items
unfolding nested
part_nested around p =
    ap (nested around) (part_is p)
    ∙ (ap (λ t. nested (seen around t) (row (map conjunct_tree (out-Part p).conjuncts.items))) (sym (part_is p))
    ∙ row_nested (seen around (part_tree p)) conjunct_tree (out-Part p).conjuncts.items)

pub conjunct_nested : (around : List Sym) (c : Conjunct)
    → nested around (conjunct_tree c) ≡ flat_map (λ q. nested around (exists_tree q)) (out-Conjunct c).subqueries.items
unfolding nested
conjunct_nested around c = ap (nested around) (conjunct_is c) ∙ row_nested around exists_tree (out-Conjunct c).subqueries.items

-- an EXISTS query alone
abbrev pub only : (around : List Sym) → ExistsBlock → List NestedQuery
only around e = record { around = around; block = block_tree (out-ExistsBlock e).block } ∷ []

pub query_nested : (around : List Sym) (e : ExistsBlock)
    → nested around (exists_tree e) ≡ only around e ++ nested around (block_tree (out-ExistsBlock e).block)
unfolding nested
query_nested around e = ap (nested around) (exists_is e)

-- the lines of queries and of those behind them
exists_append : (graphs : List PropertyGraph) (number : ℕ) (queries later : List NestedQuery)
    → exists_lines graphs number (queries ++ later) ≡ exists_lines graphs number queries ++ exists_lines graphs (number + length queries) later
exists_append graphs number [] later = ap (λ n. exists_lines graphs n later) (omega arith)
exists_append graphs number (q ∷ queries) later =
    let own : List ℕ = numbered_line (codes "exists") number in
    let lines : List ℕ = block_lines graphs q.around q.block in
    let first : List ℕ = exists_lines graphs (number + 1) queries in
    let rest : List ℕ = exists_lines graphs (number + suc (length queries)) later in
    let same : number + 1 + length queries ≡ number + suc (length queries) = omega arith in
    ap (λ all. own ++ (lines ++ all)) (exists_append graphs (number + 1) queries later ∙ ap (λ n. first ++ exists_lines graphs n later) same)
    ∙ (ap (λ all. own ++ all) (sym (append_assoc lines first rest)) ∙ sym (append_assoc own (lines ++ first) rest))

-- queries, and those behind them
pub adds_both : (graphs : List PropertyGraph) (queries later : List NestedQuery) (number next last : ℕ) (text more whole : List ℕ)
    → AddsQueries graphs queries number next text more → AddsQueries graphs later next last more whole
    → AddsQueries graphs (queries ++ later) number last text whole
adds_both graphs queries later number next last text more whole a b = record {
  written = b.written
      ∙ ((λ j. a.written j ++ exists_lines graphs (a.counted j) later)
      ∙ (append_assoc text (exists_lines graphs number queries) (exists_lines graphs (number + length queries) later)
      ∙ ap (λ all. text ++ all) (sym (exists_append graphs number queries later))));
  counted = omega (arith, a.counted, b.counted, length-append queries later);
}

pub on_ok : {A E P Q : Type 0} → (P → Q) → (r : Result A E) → OnOk r P → OnOk r Q
on_ok f (Ok x) h = f h
on_ok f (Err e) h = tt

-- what is made of the items so far, one item later
flat_map_next : {X A : Type 0} (f : X → List A) (xs : List X) (i : ℕ) (x : X) → i < length xs → x ≡ get_or xs i x
    → flat_map f (take (i + 1) xs) ≡ flat_map f (take i xs) ++ f x
flat_map_next f xs i x within at =
    ap (λ n. flat_map f (take n xs)) (add-one i)
    ∙ (ap (flat_map f) (take-suc xs i x within ∙ ap (λ y. take i xs ++ y ∷ []) (sym at))
    ∙ (flat_map-append f (take i xs) (x ∷ []) ∙ ap (λ ys. flat_map f (take i xs) ++ ys) (append-nil (f x))))

-- the queries in the items so far, one item later
pub adds_next : {X : Type 0} (f : X → List NestedQuery) (graphs : List PropertyGraph) (xs : List X) (i : ℕ) (x : X)
    → (number next last : ℕ) (text more whole : List ℕ) → i < length xs → x ≡ get_or xs i x
    → AddsQueries graphs (flat_map f (take i xs)) number next text more → AddsQueries graphs (f x) next last more whole
    → AddsQueries graphs (flat_map f (take (i + 1) xs)) number last text whole
adds_next f graphs xs i x number next last text more whole within at a b =
    subst (λ queries. AddsQueries graphs queries number last text whole) (sym (flat_map_next f xs i x within at))
    (adds_both graphs (flat_map f (take i xs)) (f x) number next last text more whole a b)

-- an EXISTS query, and those in its block
pub adds_query : (graphs : List PropertyGraph) (around : List Sym) (e : ExistsBlock) (number next last : ℕ) (text more whole : List ℕ)
    → AddsQueries graphs (only around e) number next text more
    → AddsQueries graphs (nested around (block_tree (out-ExistsBlock e).block)) next last more whole
    → AddsQueries graphs (nested around (exists_tree e)) number last text whole
adds_query graphs around e number next last text more whole a b =
    subst (λ queries. AddsQueries graphs queries number last text whole) (sym (query_nested around e))
    (adds_both graphs (only around e) (nested around (block_tree (out-ExistsBlock e).block)) number next last text more whole a b)
