-- A query file whose expressions have parts, and that breaks no sort rule, is built.
use Rattle.std.proofs.Common.{◌≡◌, inl, inr, ⊎_elim, ℕ, zero, suc, ◌+◌, true, List, [], ◌∷◌, ◌++◌, length, take, drop, None, refl, sym, subst, ◌∙◌, arith}
use Rattle.std.specs.List.{AllByRecursion, flat_map, list_any}
use Rattle.std.proofs.lemmas.List.{append-nil}
use Rattle.std.proofs.lemmas.List.Elements.{Contains-append_cases}
use Rattle.gc_ast.specs.Names.{same_name}
use Rattle.gc_rows.proofs.Members.{from_map, of_member}
use Rattle.gc_base.specs.declared.place.Sym.{Sym}
use Rattle.gc_expr.specs.Trees.{TreeOf, AnExpr, renamed}
use Rattle.gc_ast.specs.Trees as tree
use Rattle.gc_ast.specs.Trees.{Kind, Tree, AStatement, AQuery, ATerm, AFormula, ABasic, ABlock, AnItem, AnOptional, RowOf, row}
use Rattle.gc_values.specs.declared.reads.ReadUse.{ReadUse}
use Rattle.gc_sorts.specs.Blocks.{both, blocks, file_blocks}
use Rattle.gc_sorts.specs.Constructs.{item_made, item_stored}
use Rattle.gc_sorts.specs.Occurrences.{Occurrences, occurrences}
use Rattle.gc_sorts.specs.Reads.{hidden_from}
use Rattle.gc_sorts.specs.Scopes as occurrence
use Rattle.gc_sorts.specs.SortRules.{Sights, behind, behind_all, breaches, construct_breaches, first_breach, graphs_in, match_breaches, seen_in}
use Rattle.gc_sorts.specs.Uses.{all_of, block_uses, optional_uses}
use Rattle.gc_sorts.specs.Variables.{Use, use_names}
use Rattle.gc_alg.specs.Trees as alg
use Rattle.gc_alg.specs.Trees.{AnExists}
use Rattle.gc_lower.specs.Blocks.{block_atoms, block_of, optional_parts, part_of, queries_of, query_block, sight, term_block, where_conjuncts}
use Rattle.gc_lower.specs.Chains.{atoms_of}
use Rattle.gc_lower.specs.Conditions.{and_parts, dealt, exists_count}
use Rattle.gc_lower.specs.Namings.{QueryFile, occurrences_of, scope_in}
use Rattle.gc_lower.specs.Reads.{reads_of}
use Rattle.gc_lower.specs.Scopes.{Scope, variable_of}
use Rattle.gc_query.specs.Built.{AreBuilt, AreNumbered, IsBasicBuilt, IsBuilt, are_searched}
use Rattle.gc_query.specs.Expressions.{EachExpression, EachHasParts}
use Rattle.gc_query.specs.InOrder.{IsInOrder}
use Rattle.gc_query.proofs.BlockNumbers.{IsOuter, Stands, match_found, stands_behind, stands_left, views_found}
use Rattle.gc_query.proofs.BasicLinks.{IsDistinctBasic, all_names, all_tokens, basic_links, match_tokens, optional_tokens, site_token}
use Rattle.gc_query.proofs.HiddenLaws.{IsUnnamedIn, are_apart}
use Rattle.gc_query.proofs.InOrderLaws.{items_made_named, items_sites_lie, match_fine}
use Rattle.gc_query.proofs.MakeSites.{sites_of}
use Rattle.gc_query.proofs.MatchParts.{block_tokens}
use Rattle.gc_query.proofs.OccurrenceLaws.{block_in, items_in, optionals_in}
use Rattle.gc_query.proofs.OnlyPatterns.{only_patterns}
use Rattle.gc_query.proofs.PlanRuns.{left, right}
use Rattle.gc_query.proofs.SearchedAtoms.{IsUnbroken, both_true, located_searched, unbroken}
use Rattle.gc_query.proofs.WalkEntries.{match_lies}

-- the first of some EXISTS queries, and those behind them
take_searched : (n : ℕ) (queries : List (alg.Tree AnExists)) → are_searched (alg.row queries) ≡ true → are_searched (alg.row (take n queries)) ≡ true
unfolding are_searched
take_searched zero queries h = refl
take_searched (suc n) [] h = refl
take_searched (suc n) (q ∷ queries) h =
    both_true (are_searched q) _ (left (are_searched q) (are_searched (alg.row queries)) h) (take_searched n queries (right (are_searched q) (are_searched (alg.row queries)) h))

drop_searched : (n : ℕ) (queries : List (alg.Tree AnExists)) → are_searched (alg.row queries) ≡ true → are_searched (alg.row (drop n queries)) ≡ true
unfolding are_searched
drop_searched zero queries h = h
drop_searched (suc n) [] h = refl
drop_searched (suc n) (q ∷ queries) h = drop_searched n queries (right (are_searched q) (are_searched (alg.row queries)) h)

-- conjuncts to which EXISTS queries are dealt out
dealt_searched : (before : ℕ) (es : List (TreeOf Sym AnExpr)) (queries : List (alg.Tree AnExists)) → are_searched (alg.row queries) ≡ true
    → are_searched (alg.row (dealt before es queries)) ≡ true
unfolding are_searched
dealt_searched before [] queries h = refl
dealt_searched before (e ∷ es) queries h =
    both_true _ _ (take_searched (exists_count e) queries h)
    (dealt_searched (before + exists_count e) es (drop (exists_count e) queries) (drop_searched (exists_count e) queries h))

mutual
  unfolding EachExpression breaches block_of optional_parts part_of where_conjuncts queries_of query_block term_block are_searched

  -- the block of a MATCH, whatever is in scope
  pub block_searched : (s : Scope) (v : Sights) (around : List ReadUse) (basic : Tree ABasic) → EachHasParts basic → IsUnbroken (breaches v basic)
      → are_searched (block_of s around basic) ≡ true
  block_searched s v around (tree.Basic token items main optionals) parts h =
      both_true (are_searched (part_of s around around main)) _ (part_searched s v around around main parts.1 h.1.1.0)
      (optionals_searched s v around (around ++ reads_of (block_atoms s main)) optionals parts.2 h.1.1.1)

  optionals_searched : (s : Scope) (v : Sights) (around before : List ReadUse) (optionals : Tree (RowOf AnOptional)) → EachHasParts optionals → IsUnbroken (breaches v optionals)
      → are_searched (alg.row (optional_parts s around before optionals)) ≡ true
  optionals_searched s v around before tree.none parts h = refl
  optionals_searched s v around before (tree.more (tree.Optional token block) later) parts h =
      both_true (are_searched (part_of s around before block)) _ (part_searched s v around before block parts.0 h.0)
      (optionals_searched s v around (before ++ reads_of (block_atoms s block)) later parts.1 h.1)

  part_searched : (s : Scope) (v : Sights) (around before : List ReadUse) (block : Tree ABlock) → EachHasParts block → IsUnbroken (breaches v block)
      → are_searched (part_of s around before block) ≡ true
  part_searched s v around before (tree.Block patterns filter) parts h =
      both_true _ _ (located_searched s v.views _ patterns parts.0 h.0.0)
      (where_searched s (record v { uses = seen_in v patterns }) (sight around before (atoms_of s patterns)) filter parts.1 h.1)

  where_searched : (s : Scope) (v : Sights) (around : List ReadUse) (filter : Tree (RowOf AFormula)) → EachHasParts filter → IsUnbroken (breaches v filter)
      → are_searched (alg.row (where_conjuncts s around filter)) ≡ true
  where_searched s v around tree.none parts h = refl
  where_searched s v around (tree.more (tree.Formula condition queries) others) parts h =
      dealt_searched 0 (and_parts (renamed (variable_of s) condition)) (queries_of s around queries) (queries_searched s v around queries parts.0 h.0.1)

  queries_searched : (s : Scope) (v : Sights) (around : List ReadUse) (queries : Tree (RowOf AQuery)) → EachHasParts queries → IsUnbroken (breaches v queries)
      → are_searched (alg.row (queries_of s around queries)) ≡ true
  queries_searched s v around tree.none parts h = refl
  queries_searched s v around (tree.more query queries) parts h =
      both_true (are_searched (query_block s around query)) _ (query_searched s v around query parts.0 h.0)
      (queries_searched s (behind v query) around queries parts.1 h.1)

  query_searched : (s : Scope) (v : Sights) (around : List ReadUse) (query : Tree AQuery) → EachHasParts query → IsUnbroken (breaches v query)
      → are_searched (query_block s around query) ≡ true
  query_searched s v around (tree.Query heads first later) parts h = term_searched s (behind_all v heads) around first parts.1 h.1.0

  term_searched : (s : Scope) (v : Sights) (around : List ReadUse) (term : Tree ATerm) → EachHasParts term → IsUnbroken (breaches v term)
      → are_searched (term_block s around term) ≡ true
  term_searched s v around (tree.BasicTerm basic) parts h = block_searched s v around basic parts h
  term_searched s v around (tree.GraphTerm g) parts h = refl
  term_searched s v around (tree.QueryTerm query) parts h = refl

-- what is seen of the blocks around stays es it is
pub behind_uses : {k : Kind} (v : Sights) (t : Tree k) → (behind v t).uses ≡ v.uses
behind_uses v (tree.View g query) = refl
behind_uses v (tree.GraphHead g query) = refl
behind_uses v (tree.PathHead name chains filter cost) = refl
behind_uses v other = refl

pub all_behind : {k : Kind} (v : Sights) (ts : Tree (RowOf k)) → (behind_all v ts).uses ≡ v.uses
all_behind v tree.none = refl
all_behind v (tree.more t ts) = all_behind (behind v t) ts ∙ behind_uses v t

-- a file, by the occurrences in which its unnamed elements are
module _ (s : Scope) (os : Occurrences) (is : (t : ℕ) → s.hidden_at t ≡ hidden_from (length s.names) os t) where
  -- the names, the elements and the places of a CONSTRUCT are told apart
  pub distinct : (o : occurrence.Scope) (token : ℕ) (items : Tree (RowOf AnItem)) (main : Tree ABlock) (optionals : Tree (RowOf AnOptional)) (from upto : ℕ)
      → IsInOrder s.names from (tree.Basic token items main optionals) upto → ((n : ℕ) → IsUnnamedIn n (occurrences o (tree.Basic token items main optionals)) → IsUnnamedIn n os)
      → IsDistinctBasic s items main optionals
  unfolding IsInOrder occurrences
  distinct o token items main optionals from upto order whole =
      let mid : ℕ = order.0 in
      let sites = items_sites_lie s.names s (token + 1) items mid order.3 in
      let match = match_fine s.names s mid order.1 main optionals upto order.4 order.5 in
      let made = items_made_named s.names (token + 1) items mid order.3 in
      let uses = block_uses main ++ all_of optional_uses optionals in
      record {
        apart = are_apart s os is (all_names items main optionals) (all_tokens s items main optionals)
            (λ n m. ⊎_elim
            (λ k. let u = from_map (λ (w : Use). w.name) uses n k in subst (λ x. list_any (same_name x) s.names ≡ true) (sym u.2) (of_member (λ (w : Use). list_any (same_name w.name) s.names ≡ true) uses u.0 match.fine.named u.1))
            (λ k. ⊎_elim
            (λ l. let u = from_map (λ (w : Use). w.name) (all_of item_made items) n l in
            subst (λ x. list_any (same_name x) s.names ≡ true) (sym u.2) (of_member (λ (w : Use). list_any (same_name w.name) s.names ≡ true) (all_of item_made items) u.0 made u.1))
            (λ l. sites.stored_named n l)
            (Contains-append_cases (use_names (all_of item_made items)) (all_of item_stored items) n k))
            (Contains-append_cases (use_names uses) (use_names (all_of item_made items) ++ all_of item_stored items) n m))
            (λ t m. whole t (⊎_elim
            (λ k. inr (⊎_elim (λ l. inl (block_in o main t l)) (λ l. inr (optionals_in (occurrence.behind o main) optionals t l)) (Contains-append_cases (block_tokens main) (all_of optional_tokens optionals) t k)))
            (λ k. inl (items_in s o items t k))
            (Contains-append_cases (match_tokens main optionals) (flat_map site_token (sites_of s items)) t m)));
        places = match.places_lie.one;
        sites = sites.tokens.one;
        named_sites = λ a b k l x y e f g. sites.one_named a b x y k l e f g;
        sides = λ t a k l e. let low = match.fine.unnamed.low t k in let high = sites.tokens.high a l in absurd (omega (arith, low, high, e));
      }

  abbrev pub Among : Occurrences → Type 0
  Among part = (n : ℕ) → IsUnnamedIn n part → IsUnnamedIn n os

  -- each tree, whatever is in scope, where its blocks stand among those of the file and those of the views are found by their tokens
  module _ (views : AreNumbered s s.views) where
    basic_built : (v : Sights) → v.uses ≡ [] → (o : occurrence.Scope) (basic : Tree ABasic) (from upto : ℕ) → EachHasParts basic → IsUnbroken (breaches v basic) → IsInOrder s.names from basic upto
        → Stands s.blocks from (blocks [] basic) → Among (occurrences o basic) → IsBasicBuilt s basic
    unfolding breaches IsInOrder
    basic_built v none o (tree.Basic token items main optionals) from upto parts h order stands among = record {
      searched = block_searched s v [] (tree.Basic token items main optionals) parts h;
      only = only_patterns s (graphs_in v) token items main optionals (distinct o token items main optionals from upto order among)
          (subst (λ us. IsUnbroken (match_breaches us main optionals)) none h.0) (subst (λ us. IsUnbroken (construct_breaches (graphs_in v) us items main optionals)) none h.1.0)
          (match_lies s.names s order.0 order.1 main optionals upto order.4 order.5).one;
      links = basic_links s (graphs_in v) token items main optionals (distinct o token items main optionals from upto order among)
          (subst (λ us. IsUnbroken (match_breaches us main optionals)) none h.0) (subst (λ us. IsUnbroken (construct_breaches (graphs_in v) us items main optionals)) none h.1.0)
          (match_found s s.names from (tree.Basic token items main optionals) upto order stands);
      numbered = match_found s s.names from (tree.Basic token items main optionals) upto order stands;
      views = views;
    }

    built_of : {k : Kind} (v : Sights) → v.uses ≡ [] → (o : occurrence.Scope) (t : Tree k) (from upto : ℕ) → IsOuter k → EachHasParts t → IsUnbroken (breaches v t) → IsInOrder s.names from t upto
        → Stands s.blocks from (blocks [] t) → Among (occurrences o t) → IsBuilt s t
    unfolding EachExpression breaches IsBuilt IsInOrder occurrences blocks
    built_of v none o (tree.Ask query) from upto outer parts h order stands among = built_of v none o query from upto tt parts h order stands among
    built_of v none o (tree.View g query) from upto outer parts h order stands among = built_of v none o query from upto tt parts h.1 order stands among
    built_of v none o (tree.Query heads first rest) from upto outer parts h order stands among =
        let later = all_behind v heads ∙ none in
        let late = both (blocks [] first) (blocks [] rest) in
        let next = stands_behind s.names s.blocks from heads order.0 late tt order.2 stands in (
          built_of v none o heads from order.0 tt parts.0 h.0 order.2 (stands_left s.blocks from (blocks [] heads) late stands) (λ n k. among n (inl k)),
          built_of (behind_all v heads) later (occurrence.behind o heads) first order.0 order.1 tt parts.1 h.1.0 order.3
              (stands_left s.blocks order.0 (blocks [] first) (blocks [] rest) next) (λ n k. among n (inr (inl k))),
          built_of (behind_all v heads) later (occurrence.behind (occurrence.behind o heads) first) rest order.1 upto tt parts.2 h.1.1 order.4
              (stands_behind s.names s.blocks order.0 first order.1 (blocks [] rest) tt order.3 next) (λ n k. among n (inr (inr k))),
        )
    built_of v none o (tree.PathHead name chains filter cost) from upto outer parts h order stands among = tt
    built_of v none o (tree.GraphHead g query) from upto outer parts h order stands among = built_of v none o query from upto tt parts h.1 order stands among
    built_of v none o (tree.BasicTerm basic) from upto outer parts h order stands among = basic_built v none o basic from upto parts h order stands among
    built_of v none o (tree.GraphTerm g) from upto outer parts h order stands among = tt
    built_of v none o (tree.QueryTerm query) from upto outer parts h order stands among = built_of v none o query from upto tt parts h order stands among
    built_of v none o (tree.NextTerm op term) from upto outer parts h order stands among = built_of v none o term from upto tt parts h order stands among
    built_of v none o tree.none from upto outer parts h order stands among = tt
    built_of v none o (tree.more t ts) from upto outer parts h order stands among = (
      built_of v none o t from order.0 outer parts.0 h.0 order.1 (stands_left s.blocks from (blocks [] t) (blocks [] ts) stands) (λ n k. among n (inl k)),
      built_of (behind v t) (behind_uses v t ∙ none) (occurrence.behind o t) ts order.0 upto outer parts.1 h.1 order.2
          (stands_behind s.names s.blocks from t order.0 (blocks [] ts) outer order.1 stands) (λ n k. among n (inr k)),
    )
    built_of v none o other from upto outer parts h order stands among = tt

each_built : (s : Scope) (statements : List (Tree AStatement)) → IsBuilt s (row statements) → AllByRecursion (IsBuilt s) statements
unfolding IsBuilt
each_built s [] h = tt
each_built s (t ∷ ts) h = (h.0, each_built s ts h.1)

-- the law of files
pub file_built : (f : QueryFile) (upto : ℕ) → EachHasParts (row f.statements) → IsInOrder f.names 0 (row f.statements) upto → first_breach f.graphs (row f.statements) ≡ None → AreBuilt f
unfolding scope_in
file_built f upto parts order h =
    let stands : Stands (file_blocks (row f.statements)) 0 (blocks [] (row f.statements)) =
    record { before = []; later = []; whole = sym (append-nil (file_blocks (row f.statements))); below = λ token low. tt } in
    each_built (scope_in f 0) f.statements
    (built_of (scope_in f 0) (occurrences_of f) (λ t. refl) (views_found (scope_in f 0) f.names 0 (row f.statements) upto tt order stands)
    (record { loaded = f.graphs; declared = []; views = []; uses = [] }) refl (occurrence.outside f.graphs) (row f.statements) 0 upto tt parts (unbroken _ h) order stands
    (λ n k. k))
