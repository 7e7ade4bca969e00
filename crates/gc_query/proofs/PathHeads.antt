-- The PATH heads of trees, part by part.
use Rattle.std.proofs.Common.{◌≡◌, ℕ, ◌+◌, List, [], ◌∷◌, ◌++◌, length, map, drop, append-nil, append_assoc, Some, Bor, Box, Global, refl, sym, ap, ◌∙◌, subst, slice_get}
use Rattle.std.proofs.lemmas.List.{length-map}
use Rattle.std.proofs.lemmas.Option.{slice_get-map}
use Rattle.std.specs.Option.{option_map}
use Rattle.gc_ast.specs.declared.file.File.{File}
use Rattle.gc_ast.specs.declared.construct.Change.TheViews as part
use Rattle.gc_ast.specs.declared.pattern.Chain as pattern
use Rattle.gc_ast.specs.declared.query.Basic.{Basic}
use Rattle.gc_ast.specs.declared.query.Head.{Head}
use Rattle.gc_ast.specs.declared.query.NextTerm.{NextTerm, out-NextTerm}
use Rattle.gc_ast.specs.declared.query.Query.{Query, out-Query}
use Rattle.gc_ast.specs.QueryViews.{file_trees, head_tree, next_term_tree, query_tree, term_tree}
use Rattle.gc_ast.specs.Trees.{Tree, AHead, row}
use Rattle.gc_base.specs.declared.place.NameAt.{NameAt}
use Rattle.gc_expr.specs.Views.{Names}
use Rattle.gc_lower.specs.PathHeads.{path_heads}
use Rattle.gc_lower.proofs.TreeParts.{basic_term, query_parts, query_term}
use Rattle.gc_query.proofs.AllOf.{drop_at}
use Rattle.gc_query.proofs.QueryParts.{next_parts, path_head}

abbrev pub shown : Names → List (Bor Head) → List (Tree AHead)
shown names heads = map (λ h. head_tree names h.now) heads

shown_more : (names : Names) (heads : List (Bor Head)) (h : Bor Head) → shown names (heads ++ h ∷ []) ≡ shown names heads ++ head_tree names h.now ∷ []
shown_more names [] h = refl
shown_more names (x ∷ heads) h = ap (λ hs. head_tree names x.now ∷ hs) (shown_more names heads h)

module _ (names : Names) where
  heads_of_query : (q : Query) → path_heads (query_tree names q)
      ≡ path_heads (row (map (head_tree names) (out-Query q).heads.items)) ++ path_heads (term_tree names (out-Query q).first) ++ path_heads (row (map (next_term_tree names) (out-Query q).rest.items))
  unfolding path_heads
  heads_of_query q = ap path_heads (query_parts names q)

  of_path : (name : NameAt) (chains : List pattern.Chain) (filter cost : _) → path_heads (head_tree names (part.Path name chains filter cost)) ≡ head_tree names (part.Path name chains filter cost) ∷ []
  unfolding path_heads
  of_path name chains filter cost = subst (λ (t : Tree AHead). path_heads t ≡ t ∷ []) (sym (path_head names name chains filter cost)) refl

  of_basic : (b : Box Basic Global) → path_heads (term_tree names (part.Basic b)) ≡ []
  unfolding path_heads
  of_basic b = ap path_heads (basic_term names b)

  of_inner : (q : Box Query Global) → path_heads (term_tree names (part.Query q)) ≡ path_heads (query_tree names q.value)
  unfolding path_heads
  of_inner q = ap path_heads (query_term names q)

  pub of_next : (n : NextTerm) → path_heads (next_term_tree names n) ≡ path_heads (term_tree names (out-NextTerm n).term)
  unfolding path_heads
  of_next n = ap path_heads (next_parts names n)

  -- a head, behind those before
  pub one_head : (before after : List (Bor Head)) (h : Bor Head) (name : NameAt) (chains : List pattern.Chain) (filter cost : _)
      → after ≡ before ++ h ∷ [] → h.now ≡ part.Path name chains filter cost → shown names after ≡ shown names before ++ path_heads (head_tree names h.now)
  one_head before after h name chains filter cost e is =
      ap (shown names) e ∙ (shown_more names before h ∙ ap (λ hs. shown names before ++ hs)
      (subst (λ (x : Head). head_tree names x ∷ [] ≡ path_heads (head_tree names x)) (sym is) (sym (of_path name chains filter cost))))

  -- the heads of a query: of its heads, of its first term and of those behind it
  pub three : (a b c d : List (Bor Head)) (q : Query) (items : _) (rest : _) → items ≡ (out-Query q).heads.items → rest ≡ (out-Query q).rest.items
      → shown names b ≡ shown names a ++ path_heads (row (map (head_tree names) items))
      → shown names c ≡ shown names b ++ path_heads (term_tree names (out-Query q).first)
      → shown names d ≡ shown names c ++ path_heads (row (map (next_term_tree names) rest))
      → shown names d ≡ shown names a ++ path_heads (query_tree names q)
  three a b c d q items rest i r x y z =
      let first = path_heads (row (map (head_tree names) items)) in
      let second = path_heads (term_tree names (out-Query q).first) in
      let third = path_heads (row (map (next_term_tree names) rest)) in
      z ∙ (ap (λ hs. hs ++ third) (y ∙ ap (λ hs. hs ++ second) x)
      ∙ (append_assoc (shown names a ++ first) second third
      ∙ (append_assoc (shown names a) first (second ++ third)
      ∙ ap (λ hs. shown names a ++ hs)
      (sym (append_assoc first second third)
      ∙ (ap (λ xs. (path_heads (row (map (head_tree names) xs)) ++ second) ++ third) i
      ∙ (ap (λ xs. (path_heads (row (map (head_tree names) (out-Query q).heads.items)) ++ second) ++ path_heads (row (map (next_term_tree names) xs))) r ∙ sym (heads_of_query q)))))))

  -- a term that is a CONSTRUCT has none, one that is a query has those of the query
  pub in_basic : (a : List (Bor Head)) (b : Box Basic Global) (t : _) → t ≡ part.Basic b → shown names a ≡ shown names a ++ path_heads (term_tree names t)
  in_basic a b t is = sym (append-nil (shown names a)) ∙ ap (λ hs. shown names a ++ hs) (sym (ap (λ x. path_heads (term_tree names x)) is ∙ of_basic b))

  pub in_query : (q : Box Query Global) (t : _) → t ≡ part.Query q → path_heads (query_tree names q.value) ≡ path_heads (term_tree names t)
  in_query q t is = sym (ap (λ x. path_heads (term_tree names x)) is ∙ of_inner q)

  -- of terms behind another, the next one and those behind it
  pub next_term : (rest : List NextTerm) (i : ℕ) (n : NextTerm) → slice_get rest i ≡ Some n
      → path_heads (row (map (next_term_tree names) (drop i rest))) ≡ path_heads (term_tree names (out-NextTerm n).term) ++ path_heads (row (map (next_term_tree names) (drop (i + 1) rest)))
  unfolding path_heads
  next_term rest i n at =
      ap (λ xs. path_heads (row (map (next_term_tree names) xs))) (drop_at rest i n at)
      ∙ ap (λ hs. hs ++ path_heads (row (map (next_term_tree names) (drop (i + 1) rest)))) (of_next n)

  pub joined_on : (a b c : List (Bor Head)) (one rest whole : List (Tree AHead)) → shown names b ≡ shown names a ++ one → shown names a ++ (one ++ rest) ≡ whole → shown names b ++ rest ≡ whole
  joined_on a b c one rest whole x y = ap (λ hs. hs ++ rest) x ∙ (append_assoc (shown names a) one rest ∙ y)

-- the head of a number, and how many there are
module _ (file read : File) (same : read ≡ file) (heads items : List (Bor Head)) (all : shown read.names heads ≡ path_heads (row (file_trees read))) (are : items ≡ heads) where
  those : path_heads (row (file_trees file)) ≡ shown file.names items
  those =
      subst (λ (f : File). path_heads (row (file_trees f)) ≡ shown f.names heads) same (sym all) ∙ ap (shown file.names) (sym are)

  pub head_at : (i : ℕ) (h : Bor Head) → slice_get items i ≡ Some h → slice_get (path_heads (row (file_trees file))) i ≡ Some (head_tree file.names h.now)
  head_at i h at = ap (λ hs. slice_get hs i) those ∙ (slice_get-map (λ (x : Bor Head). head_tree file.names x.now) items i ∙ ap (option_map (λ (x : Bor Head). head_tree file.names x.now)) at)

  pub head_count : length (path_heads (row (file_trees file))) ≡ length items
  head_count = ap length those ∙ length-map items (λ (x : Bor Head). head_tree file.names x.now)
