-- The block of a view of nodes and edges without EXISTS looks for no walk.
use Rattle.std.proofs.Common.{◌≡◌, ℕ, zero, suc, ◌+◌, ◌&&◌, Bool, true, false, List, [], ◌∷◌, ◌++◌, drop, take, Option, Some, None, refl, ap, ◌∙◌}
use Rattle.std.specs.List.{list_all}
use Rattle.gc_alg.specs.Trees as alg
use Rattle.gc_alg.specs.Trees.{AConjunct, AnExists, ConjunctOf}
use Rattle.gc_alg.specs.declared.atom.Atom.{Atom}
use Rattle.gc_ast.specs.Trees as ast
use Rattle.gc_ast.specs.Trees.{Tree, AFormula, APattern, APropertyUse}
use Rattle.gc_base.specs.declared.place.Sym.{Sym}
use Rattle.gc_expr.specs.Trees.{TreeOf, AnExpr}
use Rattle.gc_lower.specs.Blocks.{where_conjuncts}
use Rattle.gc_lower.specs.Chains.{chain_atoms, next_variable, node_variable, part_atoms, property_atoms, view_atoms}
use Rattle.gc_lower.specs.Conditions.{dealt, exists_count}
use Rattle.gc_lower.specs.Scopes.{Scope, graph_of}
use Rattle.gc_ppg.specs.declared.shape.Kind.{Kind}
use Rattle.gc_values.specs.declared.reads.ReadUse.{ReadUse}
use Rattle.gc_query.specs.Built.{are_searched, is_searched}
use Rattle.gc_query.specs.Segments.{Declared, are_plain, are_plain_chains, block_on, has_no_query, is_plain, is_view, on_graph}
use Rattle.gc_query.proofs.AllOf.{over_two}

abbrev all_searched : List Atom → Bool
all_searched atoms = list_all (λ a. is_searched a.what) atoms

left : (a b : Bool) → (a && b) ≡ true → a ≡ true
left true b h = refl
left false b h = cc

right : (a b : Bool) → (a && b) ≡ true → b ≡ true
right true b h = h
right false b h = cc

both : (a b : Bool) → a ≡ true → b ≡ true → (a && b) ≡ true
both true b h k = k
both false b h k = cc

joined : (xs ys : List Atom) → all_searched xs ≡ true → all_searched ys ≡ true → all_searched (xs ++ ys) ≡ true
joined xs ys h k = over_two (λ a. is_searched a.what) xs ys ∙ both (all_searched xs) (all_searched ys) h k

module _ (s : Scope) where
  properties : (graph : ℕ) (x : Sym) (k : Kind) (uses : Tree (ast.RowOf APropertyUse)) → all_searched (property_atoms s graph x k uses) ≡ true
  properties graph x k ast.none = refl
  properties graph x k (ast.more (ast.PropertyUse token property value) uses) = properties graph x k uses

  part : (graph : ℕ) (before behind : Option Sym) (p : Tree APattern) → is_plain p ≡ true → all_searched (part_atoms s graph before behind p) ≡ true
  part graph before behind (ast.Node (ast.Element token name labels uses)) h = properties graph _ _ uses
  part graph (Some x) (Some y) (ast.Edge way (ast.Element token name labels uses)) h = properties graph _ _ uses
  part graph (Some x) None (ast.Edge way e) h = refl
  part graph None behind (ast.Edge way e) h = refl
  part graph before behind (ast.Path token regex_at body) h = cc

  chain : (graph : ℕ) (before : Option Sym) (ps : Tree (ast.RowOf APattern)) → are_plain ps ≡ true → all_searched (chain_atoms s graph before ps) ≡ true
  chain graph before ast.none h = refl
  chain graph before (ast.more p ps) h =
      joined (part_atoms s graph before (next_variable s ps) p) (chain_atoms s graph (node_variable s p) ps)
      (part graph before (next_variable s ps) p (left (is_plain p) (are_plain ps) h)) (chain graph (node_variable s p) ps (right (is_plain p) (are_plain ps) h))

  chains_are : (chains : Tree (ast.RowOf (ast.RowOf APattern))) → are_plain_chains chains ≡ true → all_searched (view_atoms s chains) ≡ true
  chains_are ast.none h = refl
  chains_are (ast.more ps chains) h =
      joined (chain_atoms s (graph_of s None) None ps) (view_atoms s chains)
      (chain (graph_of s None) None ps (left (are_plain ps) (are_plain_chains chains) h)) (chains_are chains (right (are_plain ps) (are_plain_chains chains) h))

abbrev no_queries : List (alg.Tree AnExists)
no_queries = []

take_none : (n : ℕ) → take n no_queries ≡ no_queries
take_none zero = refl
take_none (suc n) = refl

drop_none : (n : ℕ) → drop n no_queries ≡ no_queries
drop_none zero = refl
drop_none (suc n) = refl

-- conjuncts to which no query is dealt
none_dealt : (before : ℕ) (es : List (TreeOf Sym AnExpr)) → are_searched (alg.row (dealt before es no_queries)) ≡ true
unfolding are_searched
none_dealt before [] = refl
none_dealt before (e ∷ es) =
    both (are_searched (alg.row (take (exists_count e) no_queries))) (are_searched (alg.row (dealt (before + exists_count e) es (drop (exists_count e) no_queries))))
    (ap (λ qs. are_searched (alg.row qs)) (take_none (exists_count e)))
    (ap (λ qs. are_searched (alg.row (dealt (before + exists_count e) es qs))) (drop_none (exists_count e)) ∙ none_dealt (before + exists_count e) es)

filter_is : (s : Scope) (around : List ReadUse) (filter : Tree (ast.RowOf AFormula)) → has_no_query filter ≡ true → are_searched (alg.row (where_conjuncts s around filter)) ≡ true
unfolding are_searched where_conjuncts
filter_is s around ast.none h = refl
filter_is s around (ast.more (ast.Formula e ast.none) others) h = none_dealt 0 _
filter_is s around (ast.more (ast.Formula e (ast.more query queries)) others) h = cc

pub view_searched : (s : Scope) (graph : ℕ) (d : Declared) → is_view d ≡ true → are_searched (block_on s graph d) ≡ true
unfolding are_searched
view_searched s graph d h =
    both _ true
    (both (all_searched (view_atoms (on_graph s graph) d.chains)) _
    (chains_are (on_graph s graph) d.chains (left (are_plain_chains d.chains) (has_no_query d.filter) h))
    (filter_is (on_graph s graph) _ d.filter (right (are_plain_chains d.chains) (has_no_query d.filter) h)))
    refl
