-- Steps of loops over rows of trees that break rules, and what is in scope behind them.
use Rattle.std.proofs.Common.{◌≡◌, ◌<◌, ◌+◌, ℕ, List, [], ◌∷◌, ◌++◌, Option, length, map, take, drop, get_or, refl, sym, ap, ◌∙◌}
use Rattle.std.proofs.lemmas.List.{append_assoc, append-nil}
use Rattle.std.proofs.Math.Seq.{take-append_seam}
use Rattle.gc_ast.specs.Trees as tree
use Rattle.gc_ast.specs.Trees.{Kind, Tree, RowOf, AHead, AQuery, ANextTerm, AnOptional, row, more}
use Rattle.gc_sorts.specs.declared.breach.Breach.{Breach}
use Rattle.gc_sorts.specs.Breaches.{first_among}
use Rattle.gc_sorts.specs.SortRules.{Sights, breaches, behind, behind_all}
use Rattle.gc_sorts.specs.Variables.{Use}
use Rattle.gc_sorts.proofs.Rows.{row_from}

-- one more tree is looked at, with what is in scope behind those before it
pub row_step : {A : Type 0} {k : Kind} (view : A → Tree k) (xs : List A) (i : ℕ) (x : A) → i < length xs → x ≡ get_or xs i x
    → (s t : Sights) → t ≡ behind s (view x) → (found next total : Option Breach) → next ≡ first_among found (breaches s (view x))
    → first_among found (breaches s (row (map view (drop i xs)))) ≡ total
    → first_among next (breaches t (row (map view (drop (i + 1) xs)))) ≡ total
unfolding breaches
row_step view xs i x inside read s t is_behind found next total is_next so_far =
    let rest = row (map view (drop (i + 1) xs)) in
    ap (λ u. first_among next (breaches u rest)) is_behind
    ∙ ap (λ o. first_among o (breaches (behind s (view x)) rest)) is_next
    ∙ sym (ap (λ r. first_among found (breaches s r)) (row_from view xs i x inside read)) ∙ so_far

-- the same of what is in scope behind all
pub behind_step : {A : Type 0} {k : Kind} (view : A → Tree k) (xs : List A) (i : ℕ) (x : A) → i < length xs → x ≡ get_or xs i x
    → (s t total : Sights) → t ≡ behind s (view x)
    → behind_all s (row (map view (drop i xs))) ≡ total
    → behind_all t (row (map view (drop (i + 1) xs))) ≡ total
behind_step view xs i x inside read s t total is_behind so_far =
    ap (λ u. behind_all u (row (map view (drop (i + 1) xs)))) is_behind
    ∙ sym (ap (behind_all s) (row_from view xs i x inside read)) ∙ so_far

-- nothing is declared behind a later term, an OPTIONAL block and an EXISTS query
pub same_next : (s : Sights) (t : Tree ANextTerm) → s ≡ behind s t
same_next s (tree.NextTerm op term) = refl

pub same_optional : (s : Sights) (t : Tree AnOptional) → s ≡ behind s t
same_optional s (tree.Optional token block) = refl

pub same_query : (s : Sights) (t : Tree AQuery) → s ≡ behind s t
same_query s (tree.Query heads first rest) = refl

-- what is in scope beside more graphs and more views
record Extends (x y : Sights) : Type 0 where
  loaded : y.loaded ≡ x.loaded
  graphs : (more : List (List ℕ)) × (y.declared ≡ x.declared ++ more)
  views : (more : List (List ℕ)) × (y.views ≡ x.views ++ more)
  uses : y.uses ≡ x.uses

extends_head : (x : Sights) (h : Tree AHead) → Extends x (behind x h)
extends_head x (tree.GraphHead g query) =
    record { loaded = refl; graphs = (g.name ∷ [], refl); views = ([], sym (append-nil x.views)); uses = refl }
extends_head x (tree.PathHead v chains filter cost) =
    record { loaded = refl; graphs = ([], sym (append-nil x.declared)); views = (v.name ∷ [], refl); uses = refl }

extends_all : (x : Sights) (heads : Tree (RowOf AHead)) → Extends x (behind_all x heads)
extends_all x tree.none =
    record { loaded = refl; graphs = ([], sym (append-nil x.declared)); views = ([], sym (append-nil x.views)); uses = refl }
extends_all x (tree.more h hs) =
    let first = extends_head x h in
    let rest = extends_all (behind x h) hs in
    record {
      loaded = rest.loaded ∙ first.loaded;
      graphs = (first.graphs.0 ++ rest.graphs.0, rest.graphs.1 ∙ ap (λ l. l ++ rest.graphs.0) first.graphs.1 ∙ append_assoc x.declared first.graphs.0 rest.graphs.0);
      views = (first.views.0 ++ rest.views.0, rest.views.1 ∙ ap (λ l. l ++ rest.views.0) first.views.1 ∙ append_assoc x.views first.views.0 rest.views.0);
      uses = rest.uses ∙ first.uses;
    }

-- what heads declare is taken back
pub restored : (x : Sights) (heads : Tree (RowOf AHead)) (graphs views : ℕ) → graphs ≡ length x.declared → views ≡ length x.views
    → (y : Sights) → y ≡ behind_all x heads
    → record y { declared = take graphs y.declared; views = take views y.views } ≡ x
restored x heads graphs views is_graphs is_views y is_behind =
    let e = extends_all x heads in
    ap (λ (z : Sights). record z { declared = take graphs z.declared; views = take views z.views }) is_behind
    ∙ same (behind_all x heads).loaded x.loaded e.loaded
    (take graphs (behind_all x heads).declared) x.declared
    (ap (λ k. take k (behind_all x heads).declared) is_graphs ∙ ap (take (length x.declared)) e.graphs.1 ∙ take-append_seam x.declared e.graphs.0)
    (take views (behind_all x heads).views) x.views
    (ap (λ k. take k (behind_all x heads).views) is_views ∙ ap (take (length x.views)) e.views.1 ∙ take-append_seam x.views e.views.0)
    (behind_all x heads).uses x.uses e.uses
  where
    same : (a b : List (List ℕ)) → a ≡ b → (c d : List (List ℕ)) → c ≡ d → (f g : List (List ℕ)) → f ≡ g → (u v : List Use) → u ≡ v
        → ◌≡◌ {A = Sights} (record { loaded = a; declared = c; views = f; uses = u }) (record { loaded = b; declared = d; views = g; uses = v })
    same a b p c d q f g r u v w = cc
