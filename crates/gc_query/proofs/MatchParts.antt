-- The part of the block of a MATCH that a link is of: the first one, or the only one that has its variable.
use Rattle.std.proofs.Common.{◌≡◌, ◌⊎◌, inl, inr, ⊎_elim, ℕ, ◌≤◌, ◌==◌, true, false, List, [], ◌∷◌, ◌++◌, length, Some, refl, sym, ap, subst, arith}
use Rattle.std.specs.List.{Contains}
use Rattle.std.proofs.lemmas.Bool.{eqb-true}
use Rattle.std.proofs.lemmas.List.{append-nil, append_assoc, length-append}
use Rattle.std.proofs.lemmas.List.Elements.{Contains-append_left, Contains-append_right, Contains-append_cases}
use Rattle.gc_base.specs.declared.place.Sym.{Sym}
use Rattle.gc_ast.specs.Trees as tree
use Rattle.gc_ast.specs.Trees.{Tree, RowOf, ABlock, ALocated, AnOptional}
use Rattle.gc_build.proofs.ClaimEnds.{any_member}
use Rattle.gc_build.specs.Linked.{IsOwn, in_part}
use Rattle.gc_expr.specs.Views.{name_of}
use Rattle.gc_rows.proofs.Members.{cons_cases, contains_here, contains_later, from_map, of_member}
use Rattle.gc_rows.specs.Rows.{lists}
use Rattle.gc_values.specs.declared.reads.ReadUse.{ReadUse}
use Rattle.gc_alg.specs.Instances.{variables_of}
use Rattle.gc_alg.specs.Trees as alg
use Rattle.gc_alg.specs.declared.atom.Atom.{Atom}
use Rattle.gc_sorts.specs.Links.{Link, block_links, optional_links}
use Rattle.gc_sorts.specs.Matches.{each_use, shared_breaches, shared_place}
use Rattle.gc_sorts.specs.SortRules.{match_links}
use Rattle.gc_sorts.specs.Uses.{all_of, block_uses, located_uses, optional_uses, pattern_uses}
use Rattle.gc_sorts.specs.Variables.{Use, has_use}
use Rattle.gc_sorts.specs.Breaches.{Breaches}
use Rattle.gc_lower.specs.Blocks.{block_atoms, block_of, optional_parts, part_of}
use Rattle.gc_lower.specs.Chains.{atoms_of}
use Rattle.gc_lower.specs.Reads.{reads_of}
use Rattle.gc_lower.specs.Scopes.{Scope, graph_of, variable_of}
use Rattle.gc_query.proofs.MatchLinks.{IsEdgePattern, IsPathName, block_link, not_used, shared, there_used, use_there}
use Rattle.gc_query.proofs.MatchPlaces.{AtomStands, PlaceOn, StandsOn, atoms_stand, hidden, located_places, located_tokens, named_on, place_on, unnamed_on}
use Rattle.gc_query.proofs.SearchedAtoms.{IsUnbroken}

-- names and unnamed elements stand for variables of their own, and the variable of a name has this name
pub record AreApart (s : Scope) (names : List (List ℕ)) (tokens : List ℕ) : Type 0 where
  pub names_apart : (n m : List ℕ) → Contains names n → Contains names m → variable_of s n ≡ variable_of s m → n ≡ m
  pub mixed_apart : (n : List ℕ) (t : ℕ) → Contains names n → Contains tokens t → variable_of s n ≡ hidden s t → ⊥
  pub tokens_apart : (t u : ℕ) → Contains tokens t → Contains tokens u → hidden s t ≡ hidden s u → t ≡ u
  pub named : (n : List ℕ) → Contains names n → name_of s.names (variable_of s n) ≡ n

-- the tokens of the unnamed elements of a block, and its places on their graphs
abbrev pub block_tokens : Tree ABlock → List ℕ
block_tokens (tree.Block patterns filter) = all_of located_tokens patterns

abbrev pub block_places : Scope → Tree ABlock → List PlaceOn
block_places s (tree.Block patterns filter) = all_of (located_places s) patterns

-- names and tokens of a block are among some
pub record AreAmong (names : List (List ℕ)) (tokens : List ℕ) (b : Tree ABlock) : Type 0 where
  pub uses : (u : Use) → Contains (block_uses b) u → Contains names u.name
  pub unnamed : (t : ℕ) → Contains (block_tokens b) t → Contains tokens t

-- the part of a link of a whole MATCH
pub record MatchLink (s : Scope) (parts : List (alg.Tree alg.APart)) (uses : List Use) (l : Link) (x y : List ℕ) : Type 0 where
  pub part : alg.Tree alg.APart
  pub among : Contains parts part
  pub own : IsOwn parts (variable_of s l.name) part
  pub by : IsEdgePattern s (alg.atoms_of part) l x y ⊎ IsPathName uses l

same_var : (x y : Sym) → (x.0 == y.0) ≡ true → x ≡ y
same_var x y t = let e : x.0 ≡ y.0 = eqb-true x.0 y.0 t in λ i. record { 0 = e i }

-- a place on a graph is one of the block
pub place_used : (s : Scope) (located : Tree (RowOf ALocated)) (graph : ℕ) (u : Use) → Contains (all_of (located_places s) located) (place_on graph u) → Contains (all_of located_uses located) u
place_used s tree.none graph u m = absurd (omega (arith, m.1))
place_used s (tree.more (tree.Located parts on) located) graph u m =
    let us = all_of pattern_uses parts in
    ⊎_elim
    (λ k. let from = from_map (place_on (graph_of s on)) us (place_on graph u) k in
    Contains-append_left us (all_of located_uses located) u (subst (Contains us) (ap (λ (q : PlaceOn). q.at_place) (sym from.2)) from.1))
    (λ k. Contains-append_right us (all_of located_uses located) u (place_used s located graph u k))
    (Contains-append_cases (located_places s (tree.Located parts on)) (all_of (located_places s) located) (place_on graph u) m)

module _ (s : Scope) (names : List (List ℕ)) (tokens : List ℕ) (apart : AreApart s names tokens) where
  -- what stands for the variable of a name has this name
  pub place_of_name : (n : List ℕ) → Contains names n → (places : List PlaceOn) (ts : List ℕ) → ((u : Use) (g : ℕ) → Contains places (place_on g u) → Contains names u.name) → ((t : ℕ) → Contains ts t → Contains tokens t)
      → (graph : ℕ) → StandsOn s places ts graph (variable_of s n) → (u : Use) × Contains places (place_on graph u) × (u.name ≡ n)
  place_of_name n m places ts f g graph (named_on u k is) = (u, k, sym (apart.names_apart n u.name m (f u graph k) is))
  place_of_name n m places ts f g graph (unnamed_on t k is) = absurd (apart.mixed_apart n t m (g t k) is)

  -- a part that has the variable of a name has a place of the name
  pub part_used : (around before : List ReadUse) (b : Tree ABlock) (n : List ℕ) → Contains names n → AreAmong names tokens b → in_part (variable_of s n) (part_of s around before b) ≡ true
      → has_use (block_uses b) n ≡ true
  unfolding block_of part_of
  part_used around before (tree.Block patterns filter) n m among h =
      let any = any_member (λ (a : Atom). lists (variables_of a.what) (variable_of s n)) (atoms_of s patterns) h in
      let x = any_member (λ (y : Sym). y.0 == (variable_of s n).0) (variables_of any.0.what) any.2 in
      let places = all_of (located_places s) patterns in
      let stands = of_member (AtomStands s places (all_of located_tokens patterns)) (atoms_of s patterns) any.0 (atoms_stand s patterns) any.1 in
      let one = of_member (StandsOn s places (all_of located_tokens patterns) any.0.graph) (variables_of any.0.what) x.0 stands x.1 in
      let named = place_of_name n m places (all_of located_tokens patterns) (λ u g k. among.uses u (place_used s patterns g u k)) among.unnamed any.0.graph
      (subst (StandsOn s places (all_of located_tokens patterns) any.0.graph) (same_var x.0 (variable_of s n) x.2) one) in
      subst (λ k. has_use (all_of located_uses patterns) k ≡ true) named.2 (there_used (all_of located_uses patterns) named.0 (place_used s patterns any.0.graph named.0 named.1))

  -- what each place of some breaks
  each_at : (f : Use → Breaches) (us : List Use) (u : Use) → IsUnbroken (each_use f us) → Contains us u → IsUnbroken (f u)
  each_at f [] u h m = absurd (omega (arith, m.1))
  each_at f (v ∷ us) u h m = ⊎_elim (λ e. subst (λ w. IsUnbroken (f w)) e h.0) (λ k. each_at f us u h.1 k) (cons_cases v us u m)

  unfoldable pub OptionalsAmong : Tree (RowOf AnOptional) → Type 0
  OptionalsAmong tree.none = Unit {0}
  OptionalsAmong (tree.more (tree.Optional token b) os) = AreAmong names tokens b × OptionalsAmong os

  edge_of_part : (around reads : List ReadUse) (b : Tree ABlock) (l : Link) (x y : List ℕ) → IsEdgePattern s (block_atoms s b) l x y → IsEdgePattern s (alg.atoms_of (part_of s around reads b)) l x y
  unfolding block_of part_of
  edge_of_part around reads (tree.Block patterns filter) l x y e = record { graph = e.graph; labels = e.labels; pattern = e.pattern }

  module _ (mandatory : List Use) where
    -- behind the first OPTIONAL block that has a name no part has its variable
    none_later : (before own acc : List Use) (os : Tree (RowOf AnOptional)) (n : List ℕ) → Contains names n → length mandatory ≤ length before → has_use before n ≡ false → has_use own n ≡ true
        → IsUnbroken (shared_breaches (length mandatory) ((before ++ own) ++ acc) os) → OptionalsAmong os → (around reads : List ReadUse) (other : alg.Tree alg.APart)
        → Contains (optional_parts s around reads os) other → in_part (variable_of s n) other ≡ true → ⊥
    unfolding OptionalsAmong block_of optional_parts
    none_later before own acc tree.none n m early fresh has h among around reads other k t = absurd (omega (arith, k.1))
    none_later before own acc (tree.more (tree.Optional token b) os) n m early fresh has h among around reads other k t =
        ⊎_elim
        (λ e.
        let used = part_used around reads b n m among.0 (subst (λ (q : alg.Tree alg.APart). in_part (variable_of s n) q ≡ true) (sym e) t) in
        let u = use_there (block_uses b) n used in
        let long = length-append (before ++ own) acc in
        shared mandatory before own (acc ++ block_uses b) (((before ++ own) ++ acc) ++ block_uses b) n u.0 (length ((before ++ own) ++ acc)) (append_assoc (before ++ own) acc (block_uses b)) early (omega (arith, long)) fresh has u.2
        (each_at (shared_place (((before ++ own) ++ acc) ++ block_uses b) (length mandatory) (length ((before ++ own) ++ acc))) (block_uses b) u.0 h.0 u.1))
        (λ q. none_later before own (acc ++ block_uses b) os n m early fresh has
        (subst (λ us. IsUnbroken (shared_breaches (length mandatory) us os)) (append_assoc (before ++ own) acc (block_uses b)) h.1) among.1 around (reads ++ reads_of (block_atoms s b)) other q t)
        (cons_cases (part_of s around reads b) (optional_parts s around (reads ++ reads_of (block_atoms s b)) os) other k)

    -- the OPTIONAL block of a link is the only one that has its variable
    record OptionalLink (before : List Use) (parts : List (alg.Tree alg.APart)) (uses : List Use) (l : Link) (x y : List ℕ) : Type 0 where
      part : alg.Tree alg.APart
      among : Contains parts part
      own : (other : alg.Tree alg.APart) → Contains parts other → in_part (variable_of s l.name) other ≡ true → other ≡ part
      fresh : has_use before l.name ≡ false
      by : IsEdgePattern s (alg.atoms_of part) l x y ⊎ IsPathName uses l

    optional_link : (before : List Use) (os : Tree (RowOf AnOptional)) → length mandatory ≤ length before → IsUnbroken (shared_breaches (length mandatory) before os) → OptionalsAmong os → (around reads : List ReadUse)
        → (l : Link) → Contains names l.name → Contains (optional_links before os) l → (x y : List ℕ) → l.left ≡ Some x → l.right ≡ Some y
        → OptionalLink before (optional_parts s around reads os) (all_of optional_uses os) l x y
    unfolding OptionalsAmong block_of optional_parts part_of
    optional_link before tree.none early h among around reads l n m x y lx ly = absurd (omega (arith, m.1))
    optional_link before (tree.more (tree.Optional token b) os) early h among around reads l n m x y lx ly =
        let part = part_of s around reads b in
        let later = optional_parts s around (reads ++ reads_of (block_atoms s b)) os in
        ⊎_elim
        (λ k.
        let link = block_link s before b l k x y lx ly in
        record {
          part = part;
          among = contains_here part later;
          own = λ other q t. ⊎_elim (λ e. sym e)
              (λ r. absurd (none_later before (block_uses b) [] os l.name n early link.fresh link.own (subst (λ us. IsUnbroken (shared_breaches (length mandatory) us os)) (sym (append-nil (before ++ block_uses b))) h.1)
              among.1 around (reads ++ reads_of (block_atoms s b)) other r t))
              (cons_cases part later other q);
          fresh = link.fresh;
          by = ⊎_elim (λ e. inl (edge_of_part around reads b l x y e))
              (λ p. inr (record { at_place = p.at_place; among = Contains-append_left (block_uses b) (all_of optional_uses os) p.at_place p.among; name = p.name; walked = p.walked })) link.by;
        })
        (λ k.
        let long = length-append before (block_uses b) in
        let rest = optional_link (before ++ block_uses b) os (omega (arith, early, long)) h.1 among.1 around (reads ++ reads_of (block_atoms s b)) l n k x y lx ly in
        record {
          part = rest.part;
          among = contains_later part later rest.part rest.among;
          own = λ other q t. ⊎_elim
              (λ e. absurd (not_here before (block_uses b) l.name rest.fresh (part_used around reads b l.name n among.0 (subst (λ (o : alg.Tree alg.APart). in_part (variable_of s l.name) o ≡ true) (sym e) t))))
              (λ r. rest.own other r t)
              (cons_cases part later other q);
          fresh = not_before before (block_uses b) l.name rest.fresh;
          by = ⊎_elim inl
              (λ p. inr (record { at_place = p.at_place; among = Contains-append_right (block_uses b) (all_of optional_uses os) p.at_place p.among; name = p.name; walked = p.walked })) rest.by;
        })
        (Contains-append_cases (block_links before b) (optional_links (before ++ block_uses b) os) l m)
      where
        not_here : (us vs : List Use) (name : List ℕ) → has_use (us ++ vs) name ≡ false → has_use vs name ≡ true → ⊥
        not_here us vs name f t = let u = use_there vs name t in not_used (us ++ vs) u.0 name f (Contains-append_right us vs u.0 u.1) u.2

        not_before : (us vs : List Use) (name : List ℕ) → has_use (us ++ vs) name ≡ false → has_use us name ≡ false
        not_before us vs name f =
            elim (has_use us name) as (λ b. has_use us name ≡ b → b ≡ false) [
              | true ↦ λ t. let u = use_there us name t in absurd (not_used (us ++ vs) u.0 name f (Contains-append_left us vs u.0 u.1) u.2)
              | false ↦ λ t. refl
            ] refl

  module _ (main : Tree ABlock) (optionals : Tree (RowOf AnOptional)) where
    abbrev pub match_parts : List (alg.Tree alg.APart)
    match_parts = part_of s [] [] main ∷ optional_parts s [] ([] ++ reads_of (block_atoms s main)) optionals

    pub match_link : AreAmong names tokens main → OptionalsAmong optionals → IsUnbroken (shared_breaches (length ([] ++ block_uses main)) ([] ++ block_uses main) optionals)
        → (l : Link) → Contains names l.name → Contains (match_links [] main optionals) l → (x y : List ℕ) → l.left ≡ Some x → l.right ≡ Some y
        → MatchLink s match_parts (block_uses main ++ all_of optional_uses optionals) l x y
    unfolding OptionalsAmong
    match_link among others h l n m x y lx ly =
        let first = part_of s [] [] main in
        let later = optional_parts s [] ([] ++ reads_of (block_atoms s main)) optionals in
        ⊎_elim
        (λ k.
        let link = block_link s [] main l k x y lx ly in
        record {
          part = first;
          among = contains_here first later;
          own = inl refl;
          by = ⊎_elim (λ e. inl (edge_of_part [] [] main l x y e))
              (λ p. inr (record { at_place = p.at_place; among = Contains-append_left (block_uses main) (all_of optional_uses optionals) p.at_place p.among; name = p.name; walked = p.walked })) link.by;
        })
        (λ k.
        let rest = optional_link (block_uses main) (block_uses main) optionals (omega arith) h others [] ([] ++ reads_of (block_atoms s main)) l n k x y lx ly in
        record {
          part = rest.part;
          among = contains_later first later rest.part rest.among;
          own = inr (λ other q t. ⊎_elim
              (λ e. absurd (fresh_here l.name rest.fresh (part_used [] [] main l.name n among (subst (λ (o : alg.Tree alg.APart). in_part (variable_of s l.name) o ≡ true) (sym e) t))))
              (λ r. rest.own other r t)
              (cons_cases first later other q));
          by = ⊎_elim inl
              (λ p. inr (record { at_place = p.at_place; among = Contains-append_right (block_uses main) (all_of optional_uses optionals) p.at_place p.among; name = p.name; walked = p.walked })) rest.by;
        })
        (Contains-append_cases (block_links [] main) (optional_links ([] ++ block_uses main) optionals) l m)
      where
        fresh_here : (name : List ℕ) → has_use (block_uses main) name ≡ false → has_use (block_uses main) name ≡ true → ⊥
        fresh_here name f t = cc (f, t)
