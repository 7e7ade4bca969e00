-- Chains that break no sort rule look for walks by expressions that have an automaton.
use Rattle.std.proofs.Common.{◌≡◌, ℕ, Bool, true, false, ◌&&◌, nat_lt, List, [], ◌∷◌, ◌++◌, Option, Some, None, refl, ◌∙◌, arith}
use Rattle.std.proofs.lemmas.Bool.Decides.{nat_tests}
use Rattle.std.specs.Prelude.{⊤, nat_le}
use Rattle.std.specs.List.{list_all}
use Rattle.gc_base.specs.declared.place.Direction.{Direction}
use Rattle.gc_base.specs.declared.place.Sym.{Sym}
use Rattle.gc_regx.specs.Expressions.{HasParts, IsFormed, IsSome}
use Rattle.gc_regx.specs.Trees as regex
use Rattle.gc_regx.specs.Trees.{RegexTree, ARegex, ARow}
use Rattle.gc_automata.specs.Automata.{automaton_of}
use Rattle.gc_ast.specs.Trees as tree
use Rattle.gc_ast.specs.Trees.{Tree, RowOf, ALocated, APattern, AnElement, APropertyUse, APathBody}
use Rattle.gc_ppg.specs.declared.shape.Kind.{Kind}
use Rattle.gc_sorts.specs.declared.breach.Breach.{Breach}
use Rattle.gc_sorts.specs.declared.breach.SortRule.{SortRule}
use Rattle.gc_sorts.specs.Breaches.{Breaches, none, one, both, broken_if, first_among}
use Rattle.gc_sorts.specs.Patterns.{each, located_breaches, path_breaches, pattern_breaches}
use Rattle.gc_sorts.specs.Sizes.{too_many_states}
use Rattle.gc_alg.specs.declared.atom.Atom.{Atom}
use Rattle.gc_walks.specs.Expressions.{has_part, has_parts, is_searchable}
use Rattle.gc_lower.specs.Chains.{atoms_of, chain_atoms, edge_atoms, joined_atoms, link_atoms, next_variable, node_atoms, node_variable, part_atoms, path_atom, property_atoms}
use Rattle.gc_lower.specs.Scopes.{Scope, graph_of}
use Rattle.gc_query.specs.Built.{is_searched}
use Rattle.gc_query.specs.Expressions.{EachExpression, EachHasParts}
use Rattle.gc_query.proofs.AllOf.{over_two}

pub both_true : (a b : Bool) → a ≡ true → b ≡ true → (a && b) ≡ true
both_true true b h k = k
both_true false b h k = h

-- no breach is among these
abbrev pub IsUnbroken : Breaches → Type 0
IsUnbroken none = ⊤
IsUnbroken (one breach) = ⊥
IsUnbroken (both left right) = IsUnbroken left × IsUnbroken right

-- where there is no first breach, there is none
none_first : (found : Option Breach) (bs : Breaches) → first_among found bs ≡ None → (found ≡ None) × IsUnbroken bs
none_first found none h = (h, tt)
none_first None (one b) h = absurd (cc)
none_first (Some first) (one b) h = absurd (cc)
none_first found (both left right) h =
    let late = none_first (first_among found left) right h in
    let early = none_first found left late.0 in
    (early.0, (early.1, late.1))

pub unbroken : (bs : Breaches) → first_among None bs ≡ None → IsUnbroken bs
unbroken bs h = (none_first None bs h).1

pub not_broken : (b : Bool) (rule : SortRule) (token : ℕ) → IsUnbroken (broken_if b rule token) → b ≡ false
not_broken true rule token h = absurd h
not_broken false rule token h = refl

few : (n : ℕ) → nat_lt 1024 n ≡ false → nat_le n 1024 ≡ true
few n h = grind (arith, nat_tests)

-- the test of what has parts
some_part : (parts : RegexTree ARow) → IsSome parts → has_part parts ≡ true
some_part regex.none h = absurd h
some_part (regex.more part parts) h = refl

parts_found : {k : regex.Kind} (t : RegexTree k) → HasParts t → has_parts t ≡ true
unfolding has_parts IsFormed
parts_found (regex.Label l) h = refl
parts_found (regex.Back l) h = refl
parts_found regex.Any h = refl
parts_found regex.AnyBack h = refl
parts_found (regex.Test l) h = refl
parts_found (regex.View v) h = refl
parts_found (regex.Cat parts) h = both_true (has_part parts) (has_parts parts) (some_part parts h.0) (parts_found parts h.1)
parts_found (regex.Alt parts) h = parts_found parts h.1
parts_found (regex.Star part) h = parts_found part h
parts_found regex.none h = refl
parts_found (regex.more part parts) h = both_true (has_parts part) (has_parts parts) (parts_found part h.0) (parts_found parts h.1)

-- an expression that has parts, and not too many states, has an automaton
searchable : (r : RegexTree ARegex) (at : ℕ) → HasParts r → IsUnbroken (too_many_states r at) → is_searchable r ≡ true
searchable r at parts h =
    let states : ℕ = (automaton_of {k = ARegex} r).states in
    both_true (has_parts r) (nat_le states 1024) (parts_found r parts) (few states (not_broken (nat_lt 1024 states) _ at h))

abbrev pub AreSearched : List Atom → Type 0
AreSearched atoms = list_all (λ a. is_searched a.what) atoms ≡ true

joined : (xs ys : List Atom) → AreSearched xs → AreSearched ys → AreSearched (xs ++ ys)
joined xs ys h k = over_two (λ (a : Atom). is_searched a.what) xs ys ∙ both_true _ _ h k

module _ (s : Scope) where
  properties_searched : (graph : ℕ) (x : Sym) (kind : Kind) (properties : Tree (RowOf APropertyUse)) → AreSearched (property_atoms s graph x kind properties)
  properties_searched graph x kind tree.none = refl
  properties_searched graph x kind (tree.more (tree.PropertyUse token property value) properties) = properties_searched graph x kind properties

  node_searched : (graph : ℕ) (e : Tree AnElement) → AreSearched (node_atoms s graph e)
  node_searched graph (tree.Element token name labels properties) = properties_searched graph _ _ properties

  edge_searched : (graph : ℕ) (x y : Sym) (way : Direction) (e : Tree AnElement) → AreSearched (edge_atoms s graph x y way e)
  edge_searched graph x y way (tree.Element token name labels properties) = properties_searched graph _ _ properties

  module _ (views : List (List ℕ)) where
    path_searched : (graph : ℕ) (x y : Sym) (at : ℕ) (body : Tree APathBody) → EachHasParts body → IsUnbroken (path_breaches views at body) → AreSearched (path_atom s graph x y body ∷ [])
    unfolding EachExpression
    path_searched graph x y at (tree.Reach r vs) parts h = both_true (is_searchable r) true (searchable r at parts h.1) refl
    path_searched graph x y at (tree.Found k p r vs c) parts h = both_true (is_searchable r) true (searchable r at parts h.1.1) refl
    path_searched graph x y at (tree.All p r vs) parts h = both_true (is_searchable r) true (searchable r at parts h.1) refl
    path_searched graph x y at (tree.Stored p labels) parts h = refl

    joined_searched : (graph : ℕ) (x y : Sym) (p : Tree APattern) → EachHasParts p → IsUnbroken (pattern_breaches views p) → AreSearched (joined_atoms s graph x y p)
    unfolding EachExpression
    joined_searched graph x y (tree.Node e) parts h = refl
    joined_searched graph x y (tree.Edge way e) parts h = edge_searched graph x y way e
    joined_searched graph x y (tree.Path token at body) parts h = path_searched graph x y at body parts h

    link_searched : (graph : ℕ) (left right : Option Sym) (p : Tree APattern) → EachHasParts p → IsUnbroken (pattern_breaches views p) → AreSearched (link_atoms s graph left right p)
    link_searched graph (Some x) (Some y) p parts h = joined_searched graph x y p parts h
    link_searched graph (Some x) None p parts h = refl
    link_searched graph None right p parts h = refl

    part_searched : (graph : ℕ) (left right : Option Sym) (p : Tree APattern) → EachHasParts p → IsUnbroken (pattern_breaches views p) → AreSearched (part_atoms s graph left right p)
    part_searched graph left right (tree.Node e) parts h = node_searched graph e
    part_searched graph left right (tree.Edge way e) parts h = link_searched graph left right (tree.Edge way e) parts h
    part_searched graph left right (tree.Path token at body) parts h = link_searched graph left right (tree.Path token at body) parts h

    chain_searched : (graph : ℕ) (left : Option Sym) (ps : Tree (RowOf APattern)) → EachHasParts ps → IsUnbroken (each (pattern_breaches views) ps) → AreSearched (chain_atoms s graph left ps)
    unfolding EachExpression
    chain_searched graph left tree.none parts h = refl
    chain_searched graph left (tree.more p ps) parts h =
        joined (part_atoms s graph left (next_variable s ps) p) (chain_atoms s graph (node_variable s p) ps)
        (part_searched graph left (next_variable s ps) p parts.0 h.0) (chain_searched graph (node_variable s p) ps parts.1 h.1)

    -- the atoms of the chains of a block
    pub located_searched : (graphs : List (List ℕ)) (located : Tree (RowOf ALocated)) → EachHasParts located → IsUnbroken (each (located_breaches graphs views) located) → AreSearched (atoms_of s located)
    unfolding EachExpression
    located_searched graphs tree.none parts h = refl
    located_searched graphs (tree.more (tree.Located ps on) located) parts h =
        joined (chain_atoms s (graph_of s on) None ps) (atoms_of s located)
        (chain_searched (graph_of s on) None ps parts.0 h.0.0) (located_searched graphs located parts.1 h.1)
