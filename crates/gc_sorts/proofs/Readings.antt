-- Steps of loops over rows of trees whose occurrences are collected, and what is in scope behind trees.
use Rattle.std.proofs.Common.{◌≡◌, ◌<◌, ◌+◌, ℕ, List, [], ◌∷◌, ◌++◌, length, map, take, drop, get_or, refl, sym, ap, ◌∙◌, add-one, drop-cons}
use Rattle.std.proofs.lemmas.List.{append_assoc, append-nil}
use Rattle.std.proofs.Math.Seq.{take-append_seam}
use Rattle.gc_base.specs.declared.place.NameAt.{NameAt}
use Rattle.gc_base.specs.declared.place.Sym.{Sym}
use Rattle.gc_ast.specs.PatternViews.{all_named_by}
use Rattle.gc_ast.specs.Trees as tree
use Rattle.gc_ast.specs.Trees.{Kind, Tree, RowOf, AHead, ATerm, ANextTerm, AnItem, ABlock, AnOptional, ALocated, AFormula, row, more}
use Rattle.gc_sorts.specs.Collected.{Collected, collect}
use Rattle.gc_sorts.specs.Occurrences.{Occurrences, each, in_item, in_located, view_names, occurrences}
use Rattle.gc_sorts.specs.Scopes.{Scope, behind}
use Rattle.gc_sorts.proofs.Rows.{row_from}

-- one more tree of a row in one scope is read
pub collect_step : {A : Type 0} {k : Kind} (f : Tree k → Occurrences) (view : A → Tree k) (xs : List A) (i : ℕ) (x : A)
    → i < length xs → x ≡ get_or xs i x → (found next total : Collected) → next ≡ collect found (f (view x))
    → collect found (each f (row (map view (drop i xs)))) ≡ total
    → collect next (each f (row (map view (drop (i + 1) xs)))) ≡ total
collect_step f view xs i x inside read found next total is_next so_far =
    ap (λ c. collect c (each f (row (map view (drop (i + 1) xs))))) is_next
    ∙ sym (ap (λ r. collect found (each f r)) (row_from view xs i x inside read)) ∙ so_far

-- one more tree is read, with what is in scope behind those before it
pub read_step : {A : Type 0} {k : Kind} (view : A → Tree k) (xs : List A) (i : ℕ) (x : A) → i < length xs → x ≡ get_or xs i x
    → (s t : Scope) → t ≡ behind s (view x) → (found next total : Collected) → next ≡ collect found (occurrences s (view x))
    → collect found (occurrences s (row (map view (drop i xs)))) ≡ total
    → collect next (occurrences t (row (map view (drop (i + 1) xs)))) ≡ total
unfolding occurrences
read_step view xs i x inside read s t is_behind found next total is_next so_far =
    let rest = row (map view (drop (i + 1) xs)) in
    ap (λ u. collect next (occurrences u rest)) is_behind
    ∙ ap (λ c. collect c (occurrences (behind s (view x)) rest)) is_next
    ∙ sym (ap (λ r. collect found (occurrences s r)) (row_from view xs i x inside read)) ∙ so_far

-- the same of what is in scope behind all
pub scope_step : {A : Type 0} {k : Kind} (view : A → Tree k) (xs : List A) (i : ℕ) (x : A) → i < length xs → x ≡ get_or xs i x
    → (s t total : Scope) → t ≡ behind s (view x)
    → behind s (row (map view (drop i xs))) ≡ total
    → behind t (row (map view (drop (i + 1) xs))) ≡ total
unfolding behind
scope_step view xs i x inside read s t total is_behind so_far =
    ap (λ u. behind u (row (map view (drop (i + 1) xs)))) is_behind
    ∙ sym (ap (behind s) (row_from view xs i x inside read)) ∙ so_far

-- what is in scope beside more graphs and more views
record Extends (x y : Scope) : Type 0 where
  loaded : y.loaded ≡ x.loaded
  declared : (more : List (List ℕ)) × (y.declared ≡ x.declared ++ more)
  views : (more : List (List ℕ)) × (y.views ≡ x.views ++ more)
  numbers : (more : List ℕ) × (y.numbers ≡ x.numbers ++ more)

same : (x : Scope) → Extends x x
same x = record { loaded = refl; declared = ([], sym (append-nil x.declared)); views = ([], sym (append-nil x.views)); numbers = ([], sym (append-nil x.numbers)) }

longer : {A : Type 0} (a b c : List A) → ((more : List A) × (b ≡ a ++ more)) → ((more : List A) × (c ≡ b ++ more)) → (more : List A) × (c ≡ a ++ more)
longer a b c f g = (f.0 ++ g.0, g.1 ∙ ap (λ l. l ++ g.0) f.1 ∙ append_assoc a f.0 g.0)

both_extend : (x y z : Scope) → Extends x y → Extends y z → Extends x z
both_extend x y z f g = record {
  loaded = g.loaded ∙ f.loaded;
  declared = longer x.declared y.declared z.declared f.declared g.declared;
  views = longer x.views y.views z.views f.views g.views;
  numbers = longer x.numbers y.numbers z.numbers f.numbers g.numbers;
}

with_one_graph : (x y : Scope) (name : List ℕ) → Extends x y → Extends x (record y { declared = y.declared ++ name ∷ [] })
with_one_graph x y name f = record {
  loaded = f.loaded;
  declared = longer x.declared y.declared (y.declared ++ name ∷ []) f.declared (name ∷ [], refl);
  views = f.views;
  numbers = f.numbers;
}

extends : {k : Kind} (x : Scope) (t : Tree k) → Extends x (behind x t)
unfolding behind
extends x (tree.View g query) = with_one_graph x (behind x query) g.name (extends x query)
extends x (tree.Ask query) = extends x query
extends x (tree.Query heads first rest) =
    record { loaded = refl; declared = ([], sym (append-nil x.declared)); views = ([], sym (append-nil x.views)); numbers = ([], sym (append-nil x.numbers)) }
extends x (tree.NextTerm op term) = extends x term
extends x (tree.BasicTerm basic) = extends x basic
extends x (tree.QueryTerm query) = extends x query
extends x (tree.PathHead v chains filter cost) =
    record { loaded = refl; declared = ([], sym (append-nil x.declared)); views = (v.name ∷ [], refl); numbers = (x.heads ∷ [], refl) }
extends x (tree.GraphHead g query) = with_one_graph x (behind x query) g.name (extends x query)
extends x (tree.Basic token items main optionals) =
    both_extend x (behind x main) (behind (behind x main) optionals) (extends x main) (extends (behind x main) optionals)
extends x (tree.Block patterns filter) = extends x filter
extends x (tree.Optional token block) = extends x block
extends x (tree.Formula e queries) = extends x queries
extends x tree.none = same x
extends x (tree.more t ts) = both_extend x (behind x t) (behind (behind x t) ts) (extends x t) (extends (behind x t) ts)
extends x (tree.GraphTerm g) = same x
extends x (tree.Located parts on) = same x
extends x (tree.Node element) = same x
extends x (tree.Edge way element) = same x
extends x (tree.Path token regex_at body) = same x
extends x (tree.Element token name labels properties) = same x
extends x (tree.PropertyUse token key value) = same x
extends x (tree.Reach regex views) = same x
extends x (tree.Found k path regex views cost) = same x
extends x (tree.All path regex views) = same x
extends x (tree.Stored path labels) = same x
extends x (tree.GraphItem g) = same x
extends x (tree.ChainItem parts changes condition) = same x
extends x (tree.NewNode element) = same x
extends x (tree.NewEdge way element) = same x
extends x (tree.Projected token path) = same x
extends x (tree.NewStored token path labels assigns) = same x
extends x (tree.NewElement token name copy group labels assigns) = same x
extends x (tree.GroupTerm term key) = same x
extends x (tree.Assign token key value) = same x
extends x (tree.SetProperty target assign) = same x
extends x (tree.AddLabel target label) = same x
extends x (tree.DropProperty target key) = same x
extends x (tree.DropLabel target label) = same x

taken_back : {A : Type 0} (a b : List A) (n : ℕ) → n ≡ length a → ((more : List A) × (b ≡ a ++ more)) → take n b ≡ a
taken_back a b n is_length f = ap (λ k. take k b) is_length ∙ ap (take (length a)) f.1 ∙ take-append_seam a f.0

-- what a query declares is taken back behind it
pub restored : (x : Scope) (heads : Tree (RowOf AHead)) (first : Tree ATerm) (rest : Tree (RowOf ANextTerm)) (graphs views : ℕ)
    → graphs ≡ length x.declared → views ≡ length x.views → views ≡ length x.numbers
    → (y : Scope) → y ≡ behind (behind (behind x heads) first) rest
    → record y { declared = take graphs y.declared; views = take views y.views; numbers = take views y.numbers } ≡ behind x (tree.Query heads first rest)
unfolding behind
restored x heads first rest graphs views is_graphs is_views is_numbers y is_behind =
    let h = behind x heads in
    let t = behind h first in
    let e = both_extend x t (behind t rest) (both_extend x h t (extends x heads) (extends h first)) (extends t rest) in
    ap (λ (z : Scope). record z { declared = take graphs z.declared; views = take views z.views; numbers = take views z.numbers }) is_behind
    ∙ alike (behind t rest).heads (behind t rest).loaded x.loaded e.loaded
    (take graphs (behind t rest).declared) x.declared (taken_back x.declared (behind t rest).declared graphs is_graphs e.declared)
    (take views (behind t rest).views) x.views (taken_back x.views (behind t rest).views views is_views e.views)
    (take views (behind t rest).numbers) x.numbers (taken_back x.numbers (behind t rest).numbers views is_numbers e.numbers)
  where
    alike : (n : ℕ) (a b : List (List ℕ)) → a ≡ b → (c d : List (List ℕ)) → c ≡ d → (f g : List (List ℕ)) → f ≡ g → (u v : List ℕ) → u ≡ v
        → ◌≡◌ {A = Scope} (record { loaded = a; declared = c; views = f; numbers = u; heads = n }) (record { loaded = b; declared = d; views = g; numbers = v; heads = n })
    alike n a b p c d q f g r u v w = cc

-- what is read of a block, of a basic query and of a query, part by part
pub block_read : (s : Scope) (patterns : Tree (RowOf ALocated)) (filter : Tree (RowOf AFormula)) (f0 f1 : Collected)
    → f1 ≡ collect f0 (each (in_located s) patterns)
    → collect f1 (occurrences s filter) ≡ collect f0 (occurrences s (tree.Block patterns filter))
unfolding occurrences
block_read s patterns filter f0 f1 e1 = ap (λ f. collect f (occurrences s filter)) e1

pub block_behind : (s : Scope) (patterns : Tree (RowOf ALocated)) (filter : Tree (RowOf AFormula)) → behind s filter ≡ behind s (tree.Block patterns filter)
unfolding behind
block_behind s patterns filter = refl

pub basic_read : (s : Scope) (token : ℕ) (items : Tree (RowOf AnItem)) (main : Tree ABlock) (optionals : Tree (RowOf AnOptional)) (f0 f1 f2 : Collected)
    → f1 ≡ collect f0 (each (in_item s) items) → f2 ≡ collect f1 (occurrences s main)
    → collect f2 (occurrences (behind s main) optionals) ≡ collect f0 (occurrences s (tree.Basic token items main optionals))
unfolding occurrences
basic_read s token items main optionals f0 f1 f2 e1 e2 =
    ap (λ f. collect f (occurrences (behind s main) optionals)) (e2 ∙ ap (λ f. collect f (occurrences s main)) e1)

pub basic_behind : (s : Scope) (token : ℕ) (items : Tree (RowOf AnItem)) (main : Tree ABlock) (optionals : Tree (RowOf AnOptional))
    → behind (behind s main) optionals ≡ behind s (tree.Basic token items main optionals)
unfolding behind
basic_behind s token items main optionals = refl

pub query_read : (s : Scope) (heads : Tree (RowOf AHead)) (first : Tree ATerm) (rest : Tree (RowOf ANextTerm)) (f0 f1 f2 f3 : Collected)
    → f1 ≡ collect f0 (occurrences s heads) → f2 ≡ collect f1 (occurrences (behind s heads) first)
    → f3 ≡ collect f2 (occurrences (behind (behind s heads) first) rest)
    → f3 ≡ collect f0 (occurrences s (tree.Query heads first rest))
unfolding occurrences
query_read s heads first rest f0 f1 f2 f3 e1 e2 e3 =
    e3 ∙ ap (λ f. collect f (occurrences (behind (behind s heads) first) rest)) (e2 ∙ ap (λ f. collect f (occurrences (behind s heads) first)) e1)

-- one more name of a view is read
pub view_step : (f : Sym → List ℕ) (s : Scope) (xs : List NameAt) (i : ℕ) (d : NameAt) → i < length xs → (found next total : Collected)
    → next ≡ collect found (view_names s (all_named_by f (get_or xs i d ∷ [])))
    → collect found (view_names s (all_named_by f (drop i xs))) ≡ total
    → collect next (view_names s (all_named_by f (drop (i + 1) xs))) ≡ total
view_step f s xs i d inside found next total is_next so_far =
    ap (λ c. collect c (view_names s (all_named_by f (drop (i + 1) xs)))) is_next
    ∙ sym (ap (λ l. collect found (view_names s (all_named_by f l))) (drop-cons xs i d inside ∙ ap (λ n. get_or xs i d ∷ drop n xs) (sym (add-one i)))) ∙ so_far
