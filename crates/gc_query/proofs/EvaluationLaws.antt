-- What queries evaluate, part by part, and what a log gains of it.
use Rattle.std.proofs.Common.{◌≡◌, ℕ, suc, ◌+◌, List, [], ◌∷◌, ◌++◌, length, map, drop, append-nil, append_assoc, Option, Some, OnOk, Result, Ok, Err, Box, Global, refl, sym, ap, ◌∙◌, subst, arith, slice_get}
use Rattle.std.proofs.lemmas.List.{length-append}
use Rattle.gc_ast.specs.declared.construct.Change.TheViews as term
use Rattle.gc_ast.specs.declared.query.Basic.{Basic}
use Rattle.gc_ast.specs.declared.query.NextTerm.{NextTerm, out-NextTerm}
use Rattle.gc_ast.specs.declared.query.Query.{Query, out-Query}
use Rattle.gc_ast.specs.declared.query.SetOp.{SetOp}
use Rattle.gc_ast.specs.QueryViews.{basic_tree, head_tree, next_term_tree, query_tree, term_tree}
use Rattle.gc_ast.specs.Trees.{Tree, ABasic, AFormula, AHead, APattern, AQuery, ATerm, ANextTerm, Named, RowOf, PathHead, GraphHead, row}
use Rattle.gc_ast.specs.Trees as tree
use Rattle.gc_cert.specs.declared.document.SearchDoc.{SearchDoc}
use Rattle.gc_expr.specs.Views.{Names}
use Rattle.gc_lower.specs.Scopes.{Scope}
use Rattle.gc_lower.proofs.TreeParts.{basic_term, query_parts, query_term}
use Rattle.gc_spec.specs.PropertyGraph.{PropertyGraph}
use Rattle.gc_prod.specs.Segments.{Segments}
use Rattle.gc_rows.specs.Tables.{Relation}
use Rattle.gc_lower.specs.Blocks.{block_of}
use Rattle.gc_query.specs.Evaluations.{evaluation, Evaluates, EvaluatesBasic, EvaluatesHead, EvaluatesHeads, EvaluatesLater, EvaluatesTerm, Evaluation, InTurn, names_under, names_under_all}
use Rattle.gc_query.specs.Logs.{AreAllSearched, GainsAs, IsGained, IsToldOf, Log, Tells, ToldAs, behind, explained, explained_after, with_told}
use Rattle.gc_query.specs.Queries.{Combines, DenotesTerm, Heads}
use Rattle.gc_query.specs.Standings.{Made, Standing}
use Rattle.gc_query.specs.declared.log.Wants.{Wants}
use Rattle.gc_query.specs.declared.log.Wants.TheVariants.{Nothing, Plans, Searches}
use Rattle.gc_query.proofs.BuiltRests.{next_row}

abbrev Named-graphs : Type 0
Named-graphs = List (Option (List ℕ))

-- what follows of an outcome, and what holds whatever it is
pub if_told : {A E : Type 0} (result : Result A E) (P Q : Type 0) → (P → Q) → OnOk result P → OnOk result Q
if_told (Ok x) P Q f h = f h
if_told (Err e) P Q f h = tt

pub always : {A E : Type 0} (result : Result A E) (P : Type 0) → P → OnOk result P
always (Ok x) P h = h
always (Err e) P h = tt

module _ (s : Scope) where
  -- lines of some CONSTRUCTs, and of others behind them
  pub after_more : (before : ℕ) (xs ys : List Evaluation) → explained_after s before (xs ++ ys) ≡ explained_after s before xs ++ explained_after s (before + length xs) ys
  after_more before [] ys = let e : before ≡ before + 0 = omega arith in ap (λ n. explained_after s n ys) e
  after_more before (x ∷ xs) ys =
      let e : before + 1 + length xs ≡ before + length (x ∷ xs) = omega arith in
      ap (λ rest. explained s (before + 1) x ∷ rest) (after_more (before + 1) xs ys ∙ ap (λ n. explained_after s (before + 1) xs ++ explained_after s n ys) e)

  pub as_many : (before : ℕ) (xs : List Evaluation) → length (explained_after s before xs) ≡ length xs
  as_many before [] = refl
  as_many before (x ∷ xs) = ap suc (as_many (before + 1) xs)

  -- nothing is gained of nothing
  pub gained_none : (log : Log) → IsGained s log [] log
  gained_none log = by log.wants
    where
      by : (w : Wants) → GainsAs w s log [] log
      by Nothing = refl
      by Plans = ap (λ lines. record log { lines = lines }) (sym (append-nil log.lines))
      by Searches = ([], refl, ap (λ docs. record log { searches = docs }) (sym (append-nil log.searches)))

  -- what is told of a CONSTRUCT is what is gained of it
  pub told_of : (log after : Log) (basic : Tree ABasic) (names : Named-graphs) (graphs : List PropertyGraph) (segments : List Segments) (table : Relation)
      → IsToldOf s names graphs (block_of s [] basic) segments table log after → IsGained s log (evaluation basic names graphs segments table ∷ []) after
  told_of log after basic names graphs segments table h = by log.wants h
    where
      by : (w : Wants) → ToldAs w s names graphs (block_of s [] basic) segments table log after → GainsAs w s log (evaluation basic names graphs segments table ∷ []) after
      by Nothing h = h
      by Plans h = h
      by Searches (docs, are, is) = (docs, (docs, [], sym (append-nil docs), are, refl), is)

  -- lines behind lines
  more_lines : (before : ℕ) (lines : List (List ℕ)) (xs ys : List Evaluation)
      → (lines ++ explained_after s (before + length lines) xs) ++ explained_after s (before + length (lines ++ explained_after s (before + length lines) xs)) ys
      ≡ lines ++ explained_after s (before + length lines) (xs ++ ys)
  more_lines before lines xs ys =
      let n = before + length lines in
      let here = explained_after s n xs in
      let count : before + length (lines ++ here) ≡ n + length xs = omega (arith, length-append lines here, as_many n xs) in
      append_assoc lines here (explained_after s (before + length (lines ++ here)) ys)
      ∙ ap (λ rest. lines ++ rest) (ap (λ k. here ++ explained_after s k ys) count ∙ sym (after_more n xs ys))

  -- documents of some CONSTRUCTs, and of others behind them
  searched_more : (xs ys : List Evaluation) (a b : List SearchDoc) → AreAllSearched s xs a → AreAllSearched s ys b → AreAllSearched s (xs ++ ys) (a ++ b)
  searched_more [] ys a b h k = subst (λ docs. AreAllSearched s ys (docs ++ b)) (sym h) k
  searched_more (x ∷ xs) ys a b (here, rest, whole, first, later) k =
      (here, rest ++ b, ap (λ docs. docs ++ b) whole ∙ append_assoc here rest b, first, searched_more xs ys rest b later k)

  gains_more : (w : Wants) (before : ℕ) (lines : List (List ℕ)) (searches : List SearchDoc) (xs ys : List Evaluation) (b c : Log)
      → IsGained s (record { wants = w; before = before; lines = lines; searches = searches }) xs b → IsGained s b ys c
      → IsGained s (record { wants = w; before = before; lines = lines; searches = searches }) (xs ++ ys) c
  gains_more Nothing before lines searches xs ys b c h k = subst (λ (l : Log). IsGained s l ys c) h k
  gains_more Plans before lines searches xs ys b c h k =
      subst (λ (l : Log). IsGained s l ys c) h k ∙ ap (λ ls. record { wants = Plans; before = before; lines = ls; searches = searches }) (more_lines before lines xs ys)
  gains_more Searches before lines searches xs ys b c (found, are, is) k =
      let more : (docs : List SearchDoc) × AreAllSearched s ys docs × (c ≡ record { wants = Searches; before = before; lines = lines; searches = (searches ++ found) ++ docs }) = subst (λ (l : Log). IsGained s l ys c) is k in (
        found ++ more.0,
        searched_more xs ys found more.0 are more.1,
        more.2 ∙ ap (λ docs. record { wants = Searches; before = before; lines = lines; searches = docs }) (append_assoc searches found more.0),
      )

  -- what is gained one after another
  pub gained_more : (a b c : Log) (xs ys : List Evaluation) → IsGained s a xs b → IsGained s b ys c → IsGained s a (xs ++ ys) c
  gained_more a b c xs ys h k = gains_more a.wants a.before a.lines a.searches xs ys b c h k

  -- what is gained behind a log is gained by it once it takes that
  takes : (w : Wants) (lines : List (List ℕ)) (searches : List SearchDoc) (xs : List Evaluation) (told : Log)
      → IsGained s (behind (record { wants = w; before = 0; lines = lines; searches = searches })) xs told
      → IsGained s (record { wants = w; before = 0; lines = lines; searches = searches }) xs (with_told (record { wants = w; before = 0; lines = lines; searches = searches }) told)
  takes Nothing lines searches xs told h = refl
  takes Plans lines searches xs told h =
      let n : length lines + 0 ≡ 0 + length lines = omega arith in
      ap (λ (l : Log). record { wants = Plans; before = 0; lines = lines ++ l.lines; searches = searches }) h
      ∙ ap (λ k. record { wants = Plans; before = 0; lines = lines ++ explained_after s k xs; searches = searches }) n
  takes Searches lines searches xs told (docs, are, is) =
      (docs, are, ap (λ (l : Log). record { wants = Searches; before = 0; lines = lines; searches = searches ++ l.searches }) is)

  pub tells_taken : (Are : List Evaluation → Type 0) (log told : Log) → log.before ≡ 0 → Tells s Are (behind log) told → Tells s Are log (with_told log told)
  tells_taken Are log told none (xs, are, h) =
      let whole : log ≡ record { wants = log.wants; before = 0; lines = log.lines; searches = log.searches } =
      λ i. record { wants = log.wants; before = none i; lines = log.lines; searches = log.searches } in
      (xs, are, subst (λ l. IsGained s l xs (with_told l told)) (sym whole) (takes log.wants log.lines log.searches xs told h))

  pub tells_none : (Are : List Evaluation → Type 0) (log : Log) → Are [] → Tells s Are log log
  tells_none Are log are = ([], are, gained_none log)

  pub tells_turn : (First Later : List Evaluation → Type 0) (a b c : Log) → Tells s First a b → Tells s Later b c → Tells s (InTurn First Later) a c
  tells_turn First Later a b c (xs, f, h) (ys, l, k) = (xs ++ ys, (xs, ys, f, l, refl), gained_more a b c xs ys h k)

  pub tells_as : (Are Were : List Evaluation → Type 0) (a b : Log) → ((all : List Evaluation) → Are all → Were all) → Tells s Are a b → Tells s Were a b
  tells_as Are Were a b f (xs, are, h) = (xs, f xs are, h)

  -- heads, one after another
  pub no_heads : (names : Named-graphs) (at : Standing) → EvaluatesHeads s names at tree.none []
  unfolding Evaluates
  no_heads names at = refl

  pub one_head : (names : Named-graphs) (at now : Standing) (head : Tree AHead) (later : Tree (RowOf AHead)) (all : List Evaluation) → Heads s at (tree.more head tree.none) (Ok now)
      → InTurn (EvaluatesHead s names at head) (EvaluatesHeads s (names_under names head) now later) all → EvaluatesHeads s names at (tree.more head later) all
  unfolding Evaluates
  one_head names at now head later all h t = (now, h, t)

  pub no_head : (names : Named-graphs) (at : Standing) (name : Named) (chains : Tree (RowOf (RowOf APattern))) (filter cost : Tree (RowOf AFormula)) → EvaluatesHead s names at (PathHead name chains filter cost) []
  unfolding Evaluates
  no_head names at name chains filter cost = refl

  pub graph_head : (names : Named-graphs) (at : Standing) (name : Named) (query : Tree AQuery) (all : List Evaluation) → Evaluates s names at query all → EvaluatesHead s names at (GraphHead name query) all
  unfolding Evaluates
  graph_head names at name query all e = e

  -- terms
  pub basic_evaluates : (names : Names) (named : Named-graphs) (at : Standing) (b : Box Basic Global) (all : List Evaluation) → EvaluatesBasic s named at.graphs (basic_tree names b.value) all
      → EvaluatesTerm s named at (term_tree names (term.Basic b)) all
  unfolding Evaluates
  basic_evaluates names named at b all e = subst (λ x. EvaluatesTerm s named at x all) (sym (basic_term names b)) e

  pub inner_evaluates : (names : Names) (named : Named-graphs) (at : Standing) (q : Box Query Global) (all : List Evaluation) → Evaluates s named at (query_tree names q.value) all
      → EvaluatesTerm s named at (term_tree names (term.Query q)) all
  unfolding Evaluates
  inner_evaluates names named at q all e = subst (λ x. EvaluatesTerm s named at x all) (sym (query_term names q)) e

  pub graph_evaluates : (named : Named-graphs) (at : Standing) (g : Named) → EvaluatesTerm s named at (tree.GraphTerm g) []
  unfolding Evaluates
  graph_evaluates named at g = refl

  -- terms behind others
  pub none_later : (named : Named-graphs) (graphs : List PropertyGraph) (left : Made) → EvaluatesLater s named graphs left tree.none []
  unfolding Evaluates
  none_later named graphs left = refl

  one_later : (named : Named-graphs) (graphs : List PropertyGraph) (left right both : Made) (op : SetOp) (first : Tree ATerm) (later : Tree (RowOf ANextTerm)) (all : List Evaluation)
      → DenotesTerm s (record { graphs = graphs; next = left.next }) first (Ok right) → Combines op left.graph right both
      → InTurn (EvaluatesTerm s named (record { graphs = graphs; next = left.next }) first) (EvaluatesLater s named graphs both later) all
      → EvaluatesLater s named graphs left (tree.more (tree.NextTerm op first) later) all
  unfolding Evaluates
  one_later named graphs left right both op first later all d c t = (right, both, d, c, t)

  pub next_later : (names : Names) (named : Named-graphs) (graphs : List PropertyGraph) (rest : List NextTerm) (i : ℕ) (x : NextTerm) → slice_get rest i ≡ Some x → (left right both : Made) (all : List Evaluation)
      → DenotesTerm s (record { graphs = graphs; next = left.next }) (term_tree names (out-NextTerm x).term) (Ok right) → Combines (out-NextTerm x).op left.graph right both
      → InTurn (EvaluatesTerm s named (record { graphs = graphs; next = left.next }) (term_tree names (out-NextTerm x).term)) (EvaluatesLater s named graphs both (row (map (next_term_tree names) (drop (i + 1) rest)))) all
      → EvaluatesLater s named graphs left (row (map (next_term_tree names) (drop i rest))) all
  next_later names named graphs rest i x at left right both all d c t =
      subst (λ rows. EvaluatesLater s named graphs left rows all) (sym (next_row s names rest i x at)) (one_later named graphs left right both (out-NextTerm x).op _ _ all d c t)

  -- a query, by its heads and its terms
  whole : (named : Named-graphs) (at under : Standing) (left : Made) (heads : Tree (RowOf AHead)) (first : Tree ATerm) (rest : Tree (RowOf ANextTerm)) (all : List Evaluation)
      → Heads s at heads (Ok under) → DenotesTerm s under first (Ok left)
      → InTurn (EvaluatesHeads s named at heads) (InTurn (EvaluatesTerm s (names_under_all named heads) under first) (EvaluatesLater s (names_under_all named heads) under.graphs left rest)) all
      → Evaluates s named at (tree.Query heads first rest) all
  unfolding Evaluates
  whole named at under left heads first rest all h d t = (under, left, h, d, t)

  module _ (names : Names) (named later : Named-graphs) (at under : Standing) (q : Query) (left : Made) where
    abbrev heads : Tree (RowOf AHead)
    heads = row (map (head_tree names) (out-Query q).heads.items)

    abbrev first : Tree ATerm
    first = term_tree names (out-Query q).first

    abbrev rest : Tree (RowOf ANextTerm)
    rest = row (map (next_term_tree names) (out-Query q).rest.items)

    -- what the parts of a query tell, one after another
    pub query_tells : (a b c d : Log) → later ≡ names_under_all named heads → Heads s at heads (Ok under) → DenotesTerm s under first (Ok left) → Tells s (EvaluatesHeads s named at heads) a b
        → Tells s (EvaluatesTerm s later under first) b c → Tells s (EvaluatesLater s later under.graphs left rest) c d → Tells s (Evaluates s named at (query_tree names q)) a d
    query_tells a b c d same stands denotes h t l =
        let own : (ns : Named-graphs) → Type 0 = λ ns. Tells s (InTurn (EvaluatesTerm s ns under first) (EvaluatesLater s ns under.graphs left rest)) b d in
        let terms : own (names_under_all named heads) = subst own same (tells_turn _ _ b c d t l) in
        tells_as _ _ a d (λ all x. subst (λ t. Evaluates s named at t all) (sym (query_parts names q)) (whole named at under left heads first rest all stands denotes x)) (tells_turn _ _ a b d h terms)
