-- The unnamed elements of a CONSTRUCT and its MATCH are among the occurrences of its file.
use Rattle.std.proofs.Common.{◌⊎◌, inl, inr, ⊎_elim, ℕ, List, [], ◌++◌, Option, Some, None, sym, subst, arith}
use Rattle.std.specs.List.{Contains, flat_map}
use Rattle.std.proofs.lemmas.Grind.{flat_map-append}
use Rattle.std.proofs.lemmas.List.Elements.{Contains-append_cases}
use Rattle.gc_ast.specs.Trees as tree
use Rattle.gc_ast.specs.Trees.{Tree, Named, RowOf, ABlock, ALocated, AnOptional, APattern, AnElement, AnItem, AConstructPart}
use Rattle.gc_base.specs.declared.place.Sym.{Sym}
use Rattle.gc_build_reading.specs.Places.{next_variable, node_variable}
use Rattle.gc_rows.proofs.Members.{cons_cases}
use Rattle.gc_sorts.specs.Occurrences.{each, in_element, in_item, in_located, in_part, in_pattern, occurrences, unnamed}
use Rattle.gc_sorts.specs.Scopes as scope
use Rattle.gc_sorts.specs.Scopes.{behind}
use Rattle.gc_sorts.specs.Uses.{all_of}
use Rattle.gc_lower.specs.Scopes.{Scope}
use Rattle.gc_query.proofs.BasicLinks.{optional_tokens, site_token}
use Rattle.gc_query.proofs.HiddenLaws.{IsUnnamedIn}
use Rattle.gc_query.proofs.MakeSites.{Site, chain_sites, part_sites, sites_of}
use Rattle.gc_query.proofs.MatchParts.{block_tokens}
use Rattle.gc_query.proofs.MatchPlaces.{element_tokens, located_tokens, pattern_tokens, unnamed_token}

token_in : (token : ℕ) (name : Option Named) (t : ℕ) → Contains (unnamed_token token name) t → IsUnnamedIn t (unnamed token name)
token_in token None t m = ⊎_elim (λ e. sym e) (λ k. absurd (omega (arith, k.1))) (cons_cases token [] t m)
token_in token (Some x) t m = absurd (omega (arith, m.1))

element_in : (e : Tree AnElement) (t : ℕ) → Contains (element_tokens e) t → IsUnnamedIn t (in_element e)
element_in (tree.Element token name labels properties) t m = token_in token name t m

pattern_in : (o : scope.Scope) (p : Tree APattern) (t : ℕ) → Contains (pattern_tokens p) t → IsUnnamedIn t (in_pattern o p)
pattern_in o (tree.Node e) t m = element_in e t m
pattern_in o (tree.Edge way e) t m = element_in e t m
pattern_in o (tree.Path token regex_at body) t m = absurd (omega (arith, m.1))

patterns_in : (o : scope.Scope) (ps : Tree (RowOf APattern)) (t : ℕ) → Contains (all_of pattern_tokens ps) t → IsUnnamedIn t (each (in_pattern o) ps)
patterns_in o tree.none t m = absurd (omega (arith, m.1))
patterns_in o (tree.more p ps) t m = ⊎_elim (λ k. inl (pattern_in o p t k)) (λ k. inr (patterns_in o ps t k)) (Contains-append_cases (pattern_tokens p) (all_of pattern_tokens ps) t m)

all_located : (o : scope.Scope) (ls : Tree (RowOf ALocated)) (t : ℕ) → Contains (all_of located_tokens ls) t → IsUnnamedIn t (each (in_located o) ls)
all_located o tree.none t m = absurd (omega (arith, m.1))
all_located o (tree.more (tree.Located parts on) ls) t m =
    ⊎_elim (λ k. inl (inl (patterns_in o parts t k))) (λ k. inr (all_located o ls t k)) (Contains-append_cases (all_of pattern_tokens parts) (all_of located_tokens ls) t m)

pub block_in : (o : scope.Scope) (b : Tree ABlock) (t : ℕ) → Contains (block_tokens b) t → IsUnnamedIn t (occurrences o b)
unfolding occurrences
block_in o (tree.Block patterns filter) t m = inl (all_located o patterns t m)

pub optionals_in : (o : scope.Scope) (os : Tree (RowOf AnOptional)) (t : ℕ) → Contains (all_of optional_tokens os) t → IsUnnamedIn t (occurrences o os)
unfolding occurrences
optionals_in o tree.none t m = absurd (omega (arith, m.1))
optionals_in o (tree.more (tree.Optional token b) os) t m =
    ⊎_elim (λ k. inl (block_in o b t k)) (λ k. inr (optionals_in (behind o (tree.Optional token b)) os t k)) (Contains-append_cases (block_tokens b) (all_of optional_tokens os) t m)

module _ (s : Scope) where
  part_in : (left right : Option Sym) (p : Tree AConstructPart) (t : ℕ) → Contains (flat_map site_token (part_sites s left right p)) t → IsUnnamedIn t (in_part p)
  part_in left right (tree.NewNode (tree.NewElement token name copy group labels assigns)) t m =
      token_in token name t (⊎_elim (λ k. k) (λ k. absurd (omega (arith, k.1))) (Contains-append_cases (unnamed_token token name) [] t m))
  part_in left right (tree.NewEdge way (tree.NewElement token name copy group labels assigns)) t m =
      token_in token name t (⊎_elim (λ k. k) (λ k. absurd (omega (arith, k.1))) (Contains-append_cases (unnamed_token token name) [] t m))
  part_in left right (tree.Projected token p) t m = absurd (omega (arith, m.1))
  part_in left right (tree.NewStored token p labels assigns) t m = absurd (omega (arith, m.1))

  split : (es bs : List Site) (t : ℕ) → Contains (flat_map site_token (es ++ bs)) t → Contains (flat_map site_token es) t ⊎ Contains (flat_map site_token bs) t
  split es bs t m = Contains-append_cases (flat_map site_token es) (flat_map site_token bs) t (subst (λ ts. Contains ts t) (flat_map-append site_token es bs) m)

  chain_in : (left : Option Sym) (ps : Tree (RowOf AConstructPart)) (t : ℕ) → Contains (flat_map site_token (chain_sites s left ps)) t → IsUnnamedIn t (each in_part ps)
  chain_in left tree.none t m = absurd (omega (arith, m.1))
  chain_in left (tree.more p ps) t m =
      ⊎_elim (λ k. inl (part_in left (next_variable s ps) p t k)) (λ k. inr (chain_in (node_variable s p) ps t k)) (split (part_sites s left (next_variable s ps) p) (chain_sites s (node_variable s p) ps) t m)

  pub items_in : (o : scope.Scope) (items : Tree (RowOf AnItem)) (t : ℕ) → Contains (flat_map site_token (sites_of s items)) t → IsUnnamedIn t (each (in_item o) items)
  items_in o tree.none t m = absurd (omega (arith, m.1))
  items_in o (tree.more (tree.GraphItem g) items) t m = inr (items_in o items t m)
  items_in o (tree.more (tree.ChainItem parts changes condition) items) t m =
      ⊎_elim (λ k. inl (chain_in None parts t k)) (λ k. inr (items_in o items t k)) (split (chain_sites s None parts) (sites_of s items) t m)
