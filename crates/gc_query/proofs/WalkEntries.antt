-- The places of the walks that a MATCH looks for, each with the atom of its pattern: no two stand at one token.
use Rattle.std.proofs.Common.{◌≤◌, ℕ, List, [], ◌∷◌, ◌++◌, Option, Some, None, arith}
use Rattle.gc_base.specs.declared.place.Sym.{Sym}
use Rattle.gc_ast.specs.Trees as tree
use Rattle.gc_ast.specs.Trees.{Tree, RowOf, ABlock, ALocated, AnOptional, APattern, APathBody}
use Rattle.gc_expr.specs.Views.{Names}
use Rattle.gc_alg.specs.declared.atom.Atom.{Atom}
use Rattle.gc_sorts.specs.Uses.{all_of}
use Rattle.gc_lower.specs.Chains.{next_variable, node_variable, path_atom}
use Rattle.gc_lower.specs.Scopes.{Scope, graph_of}
use Rattle.gc_query.specs.InOrder.{IsInOrder}
use Rattle.gc_query.proofs.InOrderLaws.{Lies, if_up, lie_both, lie_wider, nothing_lies, one_lies, pattern_fine}

-- the token of the name of a walk that is looked for, and the atom of its pattern
pub record Entry : Type 0 where
  pub token : ℕ
  pub atom : Atom

abbrev pub entry_at : ℕ → Atom → Entry
entry_at token a = record { token = token; atom = a }

abbrev pub entry_token : Entry → ℕ
entry_token e = e.token

abbrev pub body_entries : Scope → (graph : ℕ) → (left right : Sym) → Tree APathBody → List Entry
body_entries s graph x y (tree.Reach regex views) = []
body_entries s graph x y (tree.Found k path regex views cost) = entry_at path.token (path_atom s graph x y (tree.Found k path regex views cost)) ∷ []
body_entries s graph x y (tree.All path regex views) = entry_at path.token (path_atom s graph x y (tree.All path regex views)) ∷ []
body_entries s graph x y (tree.Stored path labels) = []

abbrev pub joined_entries : Scope → (graph : ℕ) → (left right : Sym) → Tree APattern → List Entry
joined_entries s graph x y (tree.Node e) = []
joined_entries s graph x y (tree.Edge way e) = []
joined_entries s graph x y (tree.Path token regex_at body) = body_entries s graph x y body

abbrev pub link_entries : Scope → (graph : ℕ) → (left right : Option Sym) → Tree APattern → List Entry
link_entries s graph (Some x) (Some y) p = joined_entries s graph x y p
link_entries s graph (Some x) None p = []
link_entries s graph None right p = []

abbrev pub chain_entries : Scope → (graph : ℕ) → (left : Option Sym) → Tree (RowOf APattern) → List Entry
chain_entries s graph left tree.none = []
chain_entries s graph left (tree.more p ps) = link_entries s graph left (next_variable s ps) p ++ chain_entries s graph (node_variable s p) ps

abbrev pub located_entries : Scope → Tree ALocated → List Entry
located_entries s (tree.Located parts on) = chain_entries s (graph_of s on) None parts

abbrev pub block_entries : Scope → Tree ABlock → List Entry
block_entries s (tree.Block patterns filter) = all_of (located_entries s) patterns

abbrev pub optional_entries : Scope → Tree AnOptional → List Entry
optional_entries s (tree.Optional token b) = block_entries s b

abbrev pub match_entries : Scope → Tree ABlock → Tree (RowOf AnOptional) → List Entry
match_entries s main optionals = block_entries s main ++ all_of (optional_entries s) optionals

module _ (names : Names) where
  module _ (s : Scope) where
    body_lies : (graph from : ℕ) (x y : Sym) (body : Tree APathBody) (upto : ℕ) → IsInOrder names from body upto
        → Lies entry_token from (body_entries s graph x y body) upto
    unfolding IsInOrder
    body_lies graph from x y (tree.Reach regex views) upto h = nothing_lies entry_token from upto h
    body_lies graph from x y (tree.Found k path regex views cost) upto h =
        let high = h.1.high in
        let later = if_up names h.0 cost upto h.2 in
        one_lies entry_token from (entry_at path.token (path_atom s graph x y (tree.Found k path regex views cost))) upto h.1.low (omega (arith, high, later))
    body_lies graph from x y (tree.All path regex views) upto h = one_lies entry_token from (entry_at path.token (path_atom s graph x y (tree.All path regex views))) upto h.low h.high
    body_lies graph from x y (tree.Stored path labels) upto h = let low = h.low in let high = h.high in nothing_lies entry_token from upto (omega (arith, low, high))

    joined_lies : (graph from : ℕ) (x y : Sym) (p : Tree APattern) (upto : ℕ) → from ≤ upto → IsInOrder names from p upto
        → Lies entry_token from (joined_entries s graph x y p) upto
    unfolding IsInOrder
    joined_lies graph from x y (tree.Node e) upto up h = nothing_lies entry_token from upto up
    joined_lies graph from x y (tree.Edge way e) upto up h = nothing_lies entry_token from upto up
    joined_lies graph from x y (tree.Path token regex_at body) upto up h = body_lies graph from x y body upto h

    link_lies : (graph from : ℕ) (left right : Option Sym) (p : Tree APattern) (upto : ℕ) → from ≤ upto → IsInOrder names from p upto
        → Lies entry_token from (link_entries s graph left right p) upto
    link_lies graph from (Some x) (Some y) p upto up h = joined_lies graph from x y p upto up h
    link_lies graph from (Some x) None p upto up h = nothing_lies entry_token from upto up
    link_lies graph from None right p upto up h = nothing_lies entry_token from upto up

    chain_lies : (graph from : ℕ) (left : Option Sym) (ps : Tree (RowOf APattern)) (upto : ℕ) → IsInOrder names from ps upto
        → Lies entry_token from (chain_entries s graph left ps) upto
    unfolding IsInOrder
    chain_lies graph from left tree.none upto h = nothing_lies entry_token from upto h
    chain_lies graph from left (tree.more p ps) upto h =
        lie_both entry_token from h.0 upto (link_entries s graph left (next_variable s ps) p) (chain_entries s graph (node_variable s p) ps)
        (link_lies graph from left (next_variable s ps) p h.0 (pattern_fine names from p h.0 h.1).uses.up h.1) (chain_lies graph h.0 (node_variable s p) ps upto h.2)

    located_lies : (from : ℕ) (ls : Tree (RowOf ALocated)) (upto : ℕ) → IsInOrder names from ls upto
        → Lies entry_token from (all_of (located_entries s) ls) upto
    unfolding IsInOrder
    located_lies from tree.none upto h = nothing_lies entry_token from upto h
    located_lies from (tree.more (tree.Located parts on) ls) upto h =
        lie_both entry_token from h.0 upto (chain_entries s (graph_of s on) None parts) (all_of (located_entries s) ls)
        (lie_wider entry_token from h.1.0 from h.0 (chain_entries s (graph_of s on) None parts) (omega arith) h.1.2 (chain_lies (graph_of s on) from None parts h.1.0 h.1.1))
        (located_lies h.0 ls upto h.2)

    block_lies : (from : ℕ) (b : Tree ABlock) (upto : ℕ) → IsInOrder names from b upto → Lies entry_token from (block_entries s b) upto
    unfolding IsInOrder
    block_lies from (tree.Block patterns filter) upto h = lie_wider entry_token from h.0 from upto (all_of (located_entries s) patterns) (omega arith) h.2 (located_lies from patterns h.0 h.1)

    optionals_lie : (from : ℕ) (os : Tree (RowOf AnOptional)) (upto : ℕ) → IsInOrder names from os upto
        → Lies entry_token from (all_of (optional_entries s) os) upto
    unfolding IsInOrder
    optionals_lie from tree.none upto h = nothing_lies entry_token from upto h
    optionals_lie from (tree.more (tree.Optional token b) os) upto h =
        lie_both entry_token from h.0 upto (block_entries s b) (all_of (optional_entries s) os) (block_lies from b h.0 h.1) (optionals_lie h.0 os upto h.2)

    pub match_lies : (from mid : ℕ) (main : Tree ABlock) (optionals : Tree (RowOf AnOptional)) (upto : ℕ) → IsInOrder names from main mid
        → IsInOrder names mid optionals upto
        → Lies entry_token from (match_entries s main optionals) upto
    match_lies from mid main optionals upto h k =
        lie_both entry_token from mid upto (block_entries s main) (all_of (optional_entries s) optionals) (block_lies from main mid h) (optionals_lie mid optionals upto k)
