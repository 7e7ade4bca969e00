-- What a CONSTRUCT asks for has the links of the block of its MATCH, where it breaks no rule.
use Rattle.std.proofs.Common.{◌≡◌, ◌⊎◌, inl, inr, ⊎_elim, ℕ, ◌==◌, Bool, true, false, cond, List, [], ◌∷◌, ◌++◌, fold, Option, Some, None, refl, sym, ap, ◌∙◌, subst, arith}
use Rattle.std.specs.List.{AllByRecursion, Contains, flat_map}
use Rattle.std.specs.Option.{unwrap_or}
use Rattle.std.proofs.lemmas.Bool.{eq-eqb, eqb-true}
use Rattle.std.proofs.lemmas.List.Elements.{Contains-append_left, Contains-append_right, Contains-append_cases}
use Rattle.std.proofs.lemmas.Grind.{flat_map-append}
use Rattle.gc_base.proofs.SetLaws.{AllByRecursion-append}
use Rattle.gc_base.specs.declared.place.Sym.{Sym}
use Rattle.gc_ast.specs.Trees as tree
use Rattle.gc_ast.specs.Trees.{Tree, Named, RowOf, ABlock, ALocated, AnOptional, AnItem}
use Rattle.gc_alg.proofs.Items.{items_row}
use Rattle.gc_alg.proofs.Schemas.{joined_listed}
use Rattle.gc_alg.specs.Instances.{listed, own_variables, variables_of}
use Rattle.gc_alg.specs.Tables.{block_atoms, block_variables}
use Rattle.gc_alg.specs.Trees as alg
use Rattle.gc_alg.specs.declared.atom.Atom.{Atom}
use Rattle.gc_alg.specs.declared.atom.AtomWhat.{AtomWhat}
use Rattle.gc_alg.specs.declared.atom.AtomWhat.TheVariants as atom
use Rattle.gc_build.proofs.ClaimEnds.{any_member, member_any}
use Rattle.gc_build.specs.Linked.{HasLinksOf, IsReadThere}
use Rattle.gc_build_reading.specs.Recipes.{makings_of, recipe_by, recipe_of}
use Rattle.gc_build_reading.specs.Variables.{Makings, match_at}
use Rattle.gc_rows.proofs.Members.{cons_cases, contains_here, contains_later, from_flat_map, from_map, of_member, to_flat_map, to_map}
use Rattle.gc_rows.specs.Algebra.{joined_schema}
use Rattle.gc_rows.specs.Rows.{lists, with_variable}
use Rattle.gc_values.specs.declared.reads.ReadUse.{ReadUse}
use Rattle.gc_sorts.specs.Blocks.{MatchBlock, places_in, sort_in}
use Rattle.gc_sorts.specs.Breaches.{Breaches}
use Rattle.gc_sorts.specs.Constructs.{Making, item_made, item_stored, making}
use Rattle.gc_sorts.specs.Matches.{each_use, place_breaches}
use Rattle.gc_sorts.specs.SortRules.{construct_breaches, made_by, match_breaches, match_links, match_uses}
use Rattle.gc_sorts.specs.Uses.{all_of, block_uses, located_uses, optional_uses, pattern_uses}
use Rattle.gc_sorts.specs.Variables.{Use, first_sort, has_use, use_names}
use Rattle.gc_lower.specs.Blocks as lower
use Rattle.gc_lower.specs.Blocks.{block_of, optional_parts, optional_reads, part_of}
use Rattle.gc_lower.specs.Reads.{reads_of}
use Rattle.gc_lower.specs.Scopes.{Scope, is_found_sort, variable_or}
use Rattle.gc_query.specs.Built.{IsNumbered}
use Rattle.gc_query.proofs.MakeLinks.{IsKnown, items_linked}
use Rattle.gc_query.proofs.MakeSites.{Site, site_variable, sites_of}
use Rattle.gc_query.proofs.MakeSorts.{SiteFits, items_fit, items_store}
use Rattle.gc_query.proofs.MatchLinks.{there_used}
use Rattle.gc_query.proofs.MatchParts.{AreAmong, AreApart, MatchLink, OptionalsAmong, block_places, block_tokens, match_link, place_used}
use Rattle.gc_query.proofs.MatchPlaces.{AtomStands, PlaceOn, StandsOn, atoms_stand, located_places, named_on, place_on, stands_wider, unnamed_on, unnamed_token}
use Rattle.gc_query.proofs.MatchReads.{AtomWalks, ReadStands, all_read, atoms_walk, reads_stand, walks_wider}
use Rattle.gc_query.proofs.MatchSorts.{found_use, is_walk_role, sort_same, walk_alone}
use Rattle.gc_query.proofs.SearchedAtoms.{IsUnbroken}

-- the places and the tokens of OPTIONAL blocks
abbrev pub optional_places : Scope → Tree AnOptional → List PlaceOn
optional_places s (tree.Optional token b) = block_places s b

abbrev pub optional_tokens : Tree AnOptional → List ℕ
optional_tokens (tree.Optional token b) = block_tokens b

abbrev pub match_places : Scope → Tree ABlock → Tree (RowOf AnOptional) → List PlaceOn
match_places s main optionals = block_places s main ++ all_of (optional_places s) optionals

abbrev pub match_tokens : Tree ABlock → Tree (RowOf AnOptional) → List ℕ
match_tokens main optionals = block_tokens main ++ all_of optional_tokens optionals

abbrev pub site_token : Site → List ℕ
site_token a = unnamed_token a.token a.name

-- the names of a CONSTRUCT and its MATCH, and the tokens of their unnamed elements
abbrev pub all_names : Tree (RowOf AnItem) → Tree ABlock → Tree (RowOf AnOptional) → List (List ℕ)
all_names items main optionals = use_names (match_uses [] main optionals) ++ (use_names (all_of item_made items) ++ all_of item_stored items)

abbrev pub all_tokens : Scope → Tree (RowOf AnItem) → Tree ABlock → Tree (RowOf AnOptional) → List ℕ
all_tokens s items main optionals = match_tokens main optionals ++ flat_map site_token (sites_of s items)

-- no two names, elements and places of a CONSTRUCT and its MATCH are taken for one
pub record IsDistinctBasic (s : Scope) (items : Tree (RowOf AnItem)) (main : Tree ABlock) (optionals : Tree (RowOf AnOptional)) : Type 0 where
  pub apart : AreApart s (all_names items main optionals) (all_tokens s items main optionals)
  pub places : (p q : PlaceOn) → Contains (match_places s main optionals) p → Contains (match_places s main optionals) q → p.at_place.token ≡ q.at_place.token → p ≡ q
  pub sites : (a b : Site) → Contains (sites_of s items) a → Contains (sites_of s items) b → a.token ≡ b.token → a ≡ b
  pub named_sites : (a b : Site) → Contains (sites_of s items) a → Contains (sites_of s items) b → (x y : Named) → a.name ≡ Some x → b.name ≡ Some y → x.token ≡ y.token → a ≡ b
  pub sides : (t : ℕ) (a : Site) → Contains (match_tokens main optionals) t → Contains (sites_of s items) a → t ≡ a.token → ⊥

same_var : (x y : Sym) → (x.0 == y.0) ≡ true → x ≡ y
same_var x y t = let e : x.0 ≡ y.0 = eqb-true x.0 y.0 t in λ i. record { 0 = e i }

pub listed_member : (xs : List Sym) (x : Sym) → lists xs x ≡ true → Contains xs x
listed_member xs x h = let any = any_member (λ (y : Sym). y.0 == x.0) xs h in subst (Contains xs) (same_var any.0 x any.2) any.1

member_listed : (xs : List Sym) (x : Sym) → Contains xs x → lists xs x ≡ true
member_listed xs x m = member_any (λ (y : Sym). y.0 == x.0) xs x m (eq-eqb x.0 x.0 refl)

-- variables listed each once
once_from : (schema vars : List Sym) (x : Sym) → Contains (fold with_variable schema vars) x → Contains schema x ⊎ Contains vars x
once_from schema [] x m = inl m
once_from schema (y ∷ vars) x m =
    ⊎_elim (λ k. ⊎_elim inl (λ e. inr (subst (Contains (y ∷ vars)) e (contains_here y vars))) (with_from (lists schema y) k)) (λ k. inr (contains_later y vars x k)) (once_from (with_variable schema y) vars x m)
  where
    with_from : (b : Bool) → Contains (cond b schema (schema ++ y ∷ [])) x → Contains schema x ⊎ (y ≡ x)
    with_from true k = inl k
    with_from false k = ⊎_elim inl (λ r. ⊎_elim inr (λ i. absurd (omega (arith, i.1))) (cons_cases y [] x r)) (Contains-append_cases schema (y ∷ []) x k)

with_keeps : (schema : List Sym) (y x : Sym) → lists schema x ≡ true → lists (with_variable schema y) x ≡ true
with_keeps schema y x h = by (lists schema y)
  where
    by : (b : Bool) → lists (cond b schema (schema ++ y ∷ [])) x ≡ true
    by true = h
    by false = member_listed (schema ++ y ∷ []) x (Contains-append_left schema (y ∷ []) x (listed_member schema x h))

once_keeps : (schema vars : List Sym) (x : Sym) → lists schema x ≡ true → lists (fold with_variable schema vars) x ≡ true
once_keeps schema [] x h = h
once_keeps schema (y ∷ vars) x h = once_keeps (with_variable schema y) vars x (with_keeps schema y x h)

with_own : (schema : List Sym) (y : Sym) → lists (with_variable schema y) y ≡ true
with_own schema y = by (lists schema y) refl
  where
    by : (b : Bool) → lists schema y ≡ b → lists (cond b schema (schema ++ y ∷ [])) y ≡ true
    by true is = is
    by false is = member_listed (schema ++ y ∷ []) y (Contains-append_right schema (y ∷ []) y (contains_here y []))

once_to : (schema vars : List Sym) (x : Sym) → Contains vars x → lists (fold with_variable schema vars) x ≡ true
once_to schema [] x m = absurd (omega (arith, m.1))
once_to schema (y ∷ vars) x m =
    ⊎_elim (λ e. once_keeps (with_variable schema y) vars x (subst (λ z. lists (with_variable schema y) z ≡ true) e (with_own schema y))) (λ k. once_to (with_variable schema y) vars x k) (cons_cases y vars x m)

-- the second of some variables
second_there : (x y : Sym) (rest : List Sym) (z : Sym) → Contains (y ∷ []) z → Contains (x ∷ y ∷ rest) z
second_there x y rest z m = ⊎_elim (λ i. subst (Contains (x ∷ y ∷ rest)) i (contains_later x (y ∷ rest) y (contains_here y rest))) (λ k. absurd (omega (arith, k.1))) (cons_cases y [] z m)

own_among : (what : AtomWhat) (x : Sym) → Contains (own_variables what) x → Contains (variables_of what) x
own_among (atom.Node x labels) y m = m
own_among (atom.Edge x e z way labels) y m = second_there x e (z ∷ []) y m
own_among (atom.Property x kind name v) y m = contains_later x (v ∷ []) y m
own_among (atom.Stored x p z labels) y m = second_there x p (z ∷ []) y m
own_among (atom.Reach x z regex views) y m = absurd (omega (arith, m.1))
own_among (atom.Found x p z k cost regex views) y m =
    ⊎_elim (λ i. subst (Contains (x ∷ p ∷ z ∷ listed cost)) i (contains_later x (p ∷ z ∷ listed cost) p (contains_here p (z ∷ listed cost))))
    (λ r. contains_later x (p ∷ z ∷ listed cost) y (contains_later p (z ∷ listed cost) y (contains_later z (listed cost) y r))) (cons_cases p (listed cost) y m)
own_among (atom.All x p z regex views) y m = second_there x p (z ∷ []) y m

-- what a table of a block binds are the variables of its atoms
abbrev pub bound_variables : alg.Tree alg.ABlock → List Sym
bound_variables block = joined_schema [] (block_variables block)

bound_from : (block : alg.Tree alg.ABlock) (x : Sym) → lists (bound_variables block) x ≡ true → (a : Atom) × Contains (block_atoms block) a × Contains (variables_of a.what) x
bound_from block x h =
    let atoms = block_atoms block in
    let own = flat_map (λ (a : Atom). own_variables a.what) atoms in
    let all = flat_map (λ (a : Atom). variables_of a.what) atoms in
    let once = listed_member (block_variables block) x (sym (joined_listed [] (block_variables block) x) ∙ h) in
    ⊎_elim (λ k. absurd (omega (arith, k.1)))
    (λ k. ⊎_elim
    (λ r. let at = from_flat_map (λ (a : Atom). own_variables a.what) atoms x r in (at.0, at.1, own_among at.0.what x at.2))
    (λ r. let at = from_flat_map (λ (a : Atom). variables_of a.what) atoms x r in (at.0, at.1, at.2))
    (Contains-append_cases own all x k))
    (once_from [] (own ++ all) x once)

bound_to : (block : alg.Tree alg.ABlock) (a : Atom) (x : Sym) → Contains (block_atoms block) a → Contains (variables_of a.what) x → lists (bound_variables block) x ≡ true
bound_to block a x m k =
    let atoms = block_atoms block in
    let own = flat_map (λ (b : Atom). own_variables b.what) atoms in
    let all = flat_map (λ (b : Atom). variables_of b.what) atoms in
    joined_listed [] (block_variables block) x ∙ once_to [] (own ++ all) x (Contains-append_right own all x (to_flat_map (λ (b : Atom). variables_of b.what) atoms a x m k))

-- places with their graphs are those of uses
module _ (s : Scope) where
  located_used : (l : Tree ALocated) (g : ℕ) (u : Use) → Contains (located_places s l) (place_on g u) → Contains (located_uses l) u
  located_used (tree.Located parts on) g u m =
      let from = from_map _ (all_of pattern_uses parts) (place_on g u) m in subst (Contains (all_of pattern_uses parts)) (ap (λ (q : PlaceOn). q.at_place) (sym from.2)) from.1

  used_located : (l : Tree ALocated) (u : Use) → Contains (located_uses l) u → (g : ℕ) × Contains (located_places s l) (place_on g u)
  used_located (tree.Located parts on) u m = (_, to_map (place_on _) (all_of pattern_uses parts) u m)

  used_placed : (located : Tree (RowOf ALocated)) (u : Use) → Contains (all_of located_uses located) u → (g : ℕ) × Contains (all_of (located_places s) located) (place_on g u)
  used_placed tree.none u m = absurd (omega (arith, m.1))
  used_placed (tree.more l located) u m =
      ⊎_elim
      (λ k. let at = used_located l u k in (at.0, Contains-append_left (located_places s l) (all_of (located_places s) located) (place_on at.0 u) at.1))
      (λ k. let at = used_placed located u k in (at.0, Contains-append_right (located_places s l) (all_of (located_places s) located) (place_on at.0 u) at.1))
      (Contains-append_cases (located_uses l) (all_of located_uses located) u m)

  block_used : (b : Tree ABlock) (g : ℕ) (u : Use) → Contains (block_places s b) (place_on g u) → Contains (block_uses b) u
  block_used (tree.Block patterns filter) g u m = place_used s patterns g u m

  block_placed : (b : Tree ABlock) (u : Use) → Contains (block_uses b) u → (g : ℕ) × Contains (block_places s b) (place_on g u)
  block_placed (tree.Block patterns filter) u m = used_placed patterns u m

  optionals_used : (os : Tree (RowOf AnOptional)) (g : ℕ) (u : Use) → Contains (all_of (optional_places s) os) (place_on g u) → Contains (all_of optional_uses os) u
  optionals_used tree.none g u m = absurd (omega (arith, m.1))
  optionals_used (tree.more (tree.Optional token b) os) g u m =
      ⊎_elim (λ k. Contains-append_left (block_uses b) (all_of optional_uses os) u (block_used b g u k)) (λ k. Contains-append_right (block_uses b) (all_of optional_uses os) u (optionals_used os g u k))
      (Contains-append_cases (block_places s b) (all_of (optional_places s) os) (place_on g u) m)

  optionals_placed : (os : Tree (RowOf AnOptional)) (u : Use) → Contains (all_of optional_uses os) u → (g : ℕ) × Contains (all_of (optional_places s) os) (place_on g u)
  optionals_placed tree.none u m = absurd (omega (arith, m.1))
  optionals_placed (tree.more (tree.Optional token b) os) u m =
      ⊎_elim
      (λ k. let at = block_placed b u k in (at.0, Contains-append_left (block_places s b) (all_of (optional_places s) os) (place_on at.0 u) at.1))
      (λ k. let at = optionals_placed os u k in (at.0, Contains-append_right (block_places s b) (all_of (optional_places s) os) (place_on at.0 u) at.1))
      (Contains-append_cases (block_uses b) (all_of optional_uses os) u m)

  -- the atoms of a part are those of its block
  part_atoms_are : (around before : List ReadUse) (b : Tree ABlock) → alg.atoms_of (part_of s around before b) ≡ lower.block_atoms s b
  unfolding block_of part_of
  part_atoms_are around before (tree.Block patterns filter) = refl

  block_stand : (b : Tree ABlock) → AllByRecursion (AtomStands s (block_places s b) (block_tokens b)) (lower.block_atoms s b)
  block_stand (tree.Block patterns filter) = atoms_stand s patterns

  block_walk : (b : Tree ABlock) → AllByRecursion (AtomWalks s (block_places s b)) (lower.block_atoms s b)
  block_walk (tree.Block patterns filter) = atoms_walk s patterns

  -- the atoms of OPTIONAL blocks stand at their places, and so do their reads
  optionals_stand : (around before : List ReadUse) (os : Tree (RowOf AnOptional))
      → AllByRecursion (AtomStands s (all_of (optional_places s) os) (all_of optional_tokens os)) (flat_map alg.atoms_of (optional_parts s around before os))
  unfolding block_of optional_parts
  optionals_stand around before tree.none = tt
  optionals_stand around before (tree.more (tree.Optional token b) os) =
      let ps = block_places s b in
      let qs = all_of (optional_places s) os in
      let ts = block_tokens b in
      let ks = all_of optional_tokens os in
      AllByRecursion-append (AtomStands s (ps ++ qs) (ts ++ ks)) (alg.atoms_of (part_of s around before b)) (flat_map alg.atoms_of (optional_parts s around (before ++ reads_of (lower.block_atoms s b)) os))
      (stands_wider s ps (ps ++ qs) ts (ts ++ ks) (Contains-append_left ps qs) (Contains-append_left ts ks) _
      (subst (AllByRecursion (AtomStands s ps ts)) (sym (part_atoms_are around before b)) (block_stand b)))
      (stands_wider s qs (ps ++ qs) ks (ts ++ ks) (Contains-append_right ps qs) (Contains-append_right ts ks) _ (optionals_stand around (before ++ reads_of (lower.block_atoms s b)) os))

  optionals_walk : (around before : List ReadUse) (os : Tree (RowOf AnOptional)) → AllByRecursion (AtomWalks s (all_of (optional_places s) os)) (flat_map alg.atoms_of (optional_parts s around before os))
  unfolding block_of optional_parts
  optionals_walk around before tree.none = tt
  optionals_walk around before (tree.more (tree.Optional token b) os) =
      let ps = block_places s b in
      let qs = all_of (optional_places s) os in
      AllByRecursion-append (AtomWalks s (ps ++ qs)) (alg.atoms_of (part_of s around before b)) (flat_map alg.atoms_of (optional_parts s around (before ++ reads_of (lower.block_atoms s b)) os))
      (walks_wider s ps (ps ++ qs) (Contains-append_left ps qs) _ (subst (AllByRecursion (AtomWalks s ps)) (sym (part_atoms_are around before b)) (block_walk b)))
      (walks_wider s qs (ps ++ qs) (Contains-append_right ps qs) _ (optionals_walk around (before ++ reads_of (lower.block_atoms s b)) os))

  optionals_read : (around before : List ReadUse) (os : Tree (RowOf AnOptional)) → reads_of (flat_map alg.atoms_of (optional_parts s around before os)) ≡ optional_reads s os
  unfolding block_of optional_parts
  optionals_read around before tree.none = refl
  optionals_read around before (tree.more (tree.Optional token b) os) =
      flat_map-append _ (alg.atoms_of (part_of s around before b)) (flat_map alg.atoms_of (optional_parts s around (before ++ reads_of (lower.block_atoms s b)) os))
      ∙ (λ i. reads_of (part_atoms_are around before b i) ++ optionals_read around (before ++ reads_of (lower.block_atoms s b)) os i)

each_place : (f : Use → Breaches) (us : List Use) (u : Use) → IsUnbroken (each_use f us) → Contains us u → IsUnbroken (f u)
each_place f [] u h m = absurd (omega (arith, m.1))
each_place f (w ∷ us) u h m = ⊎_elim (λ e. subst (λ x. IsUnbroken (f x)) e h.0) (λ k. each_place f us u h.1 k) (cons_cases w us u m)

module _ (s : Scope) (graphs : List (List ℕ)) (items : Tree (RowOf AnItem)) (main : Tree ABlock) (optionals : Tree (RowOf AnOptional)) (distinct : IsDistinctBasic s items main optionals)
    (matched : IsUnbroken (match_breaches [] main optionals)) (made : IsUnbroken (construct_breaches graphs [] items main optionals)) where
  abbrev uses : List Use
  uses = block_uses main ++ all_of optional_uses optionals

  abbrev places : List PlaceOn
  places = match_places s main optionals

  abbrev ts : List ℕ
  ts = match_tokens main optionals

  abbrev names : List (List ℕ)
  names = all_names items main optionals

  abbrev tokens : List ℕ
  tokens = all_tokens s items main optionals

  abbrev parts : List (alg.Tree alg.APart)
  parts = part_of s [] [] main ∷ optional_parts s [] ([] ++ reads_of (lower.block_atoms s main)) optionals

  abbrev reads : List ReadUse
  reads = ([] ++ reads_of (lower.block_atoms s main)) ++ optional_reads s optionals

  abbrev pub block : alg.Tree alg.ABlock
  block = alg.BlockOf (alg.row parts) reads

  abbrev m : Making
  m = making uses (made_by items)

  abbrev sites : List Site
  sites = sites_of s items

  abbrev bound : List Sym
  bound = bound_variables block

  -- what is among the names and the tokens
  pub use_name : (u : Use) → Contains uses u → Contains names u.name
  use_name u k = Contains-append_left (use_names uses) (use_names (all_of item_made items) ++ all_of item_stored items) u.name (to_map (λ (w : Use). w.name) uses u k)

  made_name : (u : Use) → Contains (all_of item_made items) u → Contains names u.name
  made_name u k =
      Contains-append_right (use_names uses) (use_names (all_of item_made items) ++ all_of item_stored items) u.name
      (Contains-append_left (use_names (all_of item_made items)) (all_of item_stored items) u.name (to_map (λ (w : Use). w.name) (all_of item_made items) u k))

  stored_name : (n : List ℕ) → Contains (all_of item_stored items) n → Contains names n
  stored_name n k =
      Contains-append_right (use_names uses) (use_names (all_of item_made items) ++ all_of item_stored items) n (Contains-append_right (use_names (all_of item_made items)) (all_of item_stored items) n k)

  pub match_token : (t : ℕ) → Contains ts t → Contains tokens t
  match_token t k = Contains-append_left ts (flat_map site_token sites) t k

  pub place_use : (g : ℕ) (u : Use) → Contains places (place_on g u) → Contains uses u
  place_use g u k =
      ⊎_elim (λ r. Contains-append_left (block_uses main) (all_of optional_uses optionals) u (block_used s main g u r))
      (λ r. Contains-append_right (block_uses main) (all_of optional_uses optionals) u (optionals_used s optionals g u r))
      (Contains-append_cases (block_places s main) (all_of (optional_places s) optionals) (place_on g u) k)

  use_place : (u : Use) → Contains uses u → (g : ℕ) × Contains places (place_on g u)
  use_place u k =
      ⊎_elim (λ r. let at = block_placed s main u r in (at.0, Contains-append_left (block_places s main) (all_of (optional_places s) optionals) (place_on at.0 u) at.1))
      (λ r. let at = optionals_placed s optionals u r in (at.0, Contains-append_right (block_places s main) (all_of (optional_places s) optionals) (place_on at.0 u) at.1))
      (Contains-append_cases (block_uses main) (all_of optional_uses optionals) u k)

  -- places of one token are one
  pub one_use : (u w : Use) → Contains uses u → Contains uses w → u.token ≡ w.token → u ≡ w
  one_use u w k l h =
      let p = use_place u k in
      let q = use_place w l in
      ap (λ (x : PlaceOn). x.at_place) (distinct.places (place_on p.0 u) (place_on q.0 w) p.1 q.1 h)

  pub unbroken_place : (u : Use) → Contains uses u → IsUnbroken (place_breaches uses u)
  unbroken_place u k = each_place (place_breaches uses) uses u matched.1.0 k

  walk_place : (u w : Use) (g h : ℕ) → Contains places (place_on g u) → Contains places (place_on h w) → is_walk_role u.role ≡ true → w.name ≡ u.name → place_on h w ≡ place_on g u
  walk_place u w g h k l is same =
      let one = walk_alone uses one_use unbroken_place u w (place_use g u k) (place_use h w l) is same in
      distinct.places (place_on h w) (place_on g u) l k (ap (λ (x : Use). x.token) one)

  main_among : AreAmong names tokens main
  main_among = record {
    uses = λ u k. use_name u (Contains-append_left (block_uses main) (all_of optional_uses optionals) u k);
    unnamed = λ t k. match_token t (Contains-append_left (block_tokens main) (all_of optional_tokens optionals) t k);
  }

  some_among : (os : Tree (RowOf AnOptional)) → ((u : Use) → Contains (all_of optional_uses os) u → Contains names u.name) → ((t : ℕ) → Contains (all_of optional_tokens os) t → Contains tokens t)
      → OptionalsAmong s names tokens distinct.apart os
  unfolding OptionalsAmong
  some_among tree.none f g = tt
  some_among (tree.more (tree.Optional token b) os) f g = (
    record {
      uses = λ u k. f u (Contains-append_left (block_uses b) (all_of optional_uses os) u k);
      unnamed = λ t k. g t (Contains-append_left (block_tokens b) (all_of optional_tokens os) t k);
    },
    some_among os (λ u k. f u (Contains-append_right (block_uses b) (all_of optional_uses os) u k)) (λ t k. g t (Contains-append_right (block_tokens b) (all_of optional_tokens os) t k)),
  )

  others_among : OptionalsAmong s names tokens distinct.apart optionals
  others_among = some_among optionals (λ u k. use_name u (Contains-append_right (block_uses main) (all_of optional_uses optionals) u k))
      (λ t k. match_token t (Contains-append_right (block_tokens main) (all_of optional_tokens optionals) t k))

  -- the atoms of the block, which stand at its places
  abbrev pub atoms : List Atom
  atoms = flat_map alg.atoms_of parts

  pub atoms_are : block_atoms block ≡ atoms
  atoms_are = ap (flat_map alg.atoms_of) (items_row parts)

  abbrev before : List ReadUse
  before = [] ++ reads_of (lower.block_atoms s main)

  all_stand : AllByRecursion (AtomStands s places ts) atoms
  all_stand =
      let ps = block_places s main in
      let qs = all_of (optional_places s) optionals in
      let es = block_tokens main in
      let bs = all_of optional_tokens optionals in
      AllByRecursion-append (AtomStands s places ts) (alg.atoms_of (part_of s [] [] main)) (flat_map alg.atoms_of (optional_parts s [] before optionals))
      (stands_wider s ps (ps ++ qs) es (es ++ bs) (Contains-append_left ps qs) (Contains-append_left es bs) _ (subst (AllByRecursion (AtomStands s ps es)) (sym (part_atoms_are s [] [] main)) (block_stand s main)))
      (stands_wider s qs (ps ++ qs) bs (es ++ bs) (Contains-append_right ps qs) (Contains-append_right es bs) _ (optionals_stand s [] before optionals))

  pub all_walk : AllByRecursion (AtomWalks s places) atoms
  all_walk =
      let ps = block_places s main in
      let qs = all_of (optional_places s) optionals in
      AllByRecursion-append (AtomWalks s places) (alg.atoms_of (part_of s [] [] main)) (flat_map alg.atoms_of (optional_parts s [] before optionals))
      (walks_wider s ps (ps ++ qs) (Contains-append_left ps qs) _ (subst (AllByRecursion (AtomWalks s ps)) (sym (part_atoms_are s [] [] main)) (block_walk s main)))
      (walks_wider s qs (ps ++ qs) (Contains-append_right ps qs) _ (optionals_walk s [] before optionals))

  reads_are : reads_of atoms ≡ reads
  reads_are =
      flat_map-append _ (alg.atoms_of (part_of s [] [] main)) (flat_map alg.atoms_of (optional_parts s [] before optionals))
      ∙ (λ i. reads_of (part_atoms_are s [] [] main i) ++ optionals_read s [] before optionals i)

  walks_read : AllByRecursion (λ a. IsReadThere reads a.graph a.what) (block_atoms block)
  walks_read =
      subst (AllByRecursion (λ a. IsReadThere reads a.graph a.what)) (sym atoms_are)
      (all_read s names tokens distinct.apart places (λ u g k. use_name u (place_use g u k)) walk_place reads
      (AllByRecursion-tokens reads (subst (AllByRecursion (ReadStands s places ts)) reads_are (reads_stand s places ts atoms all_stand)))
      atoms all_walk (λ r k. subst (λ rs. Contains rs r) reads_are k))
    where
      AllByRecursion-tokens : (rs : List ReadUse) → AllByRecursion (ReadStands s places ts) rs → AllByRecursion (ReadStands s places tokens) rs
      AllByRecursion-tokens [] h = tt
      AllByRecursion-tokens (r ∷ rs) h = (one r.walk r.var h.0, AllByRecursion-tokens rs h.1)
        where
          one : (g : ℕ) (x : Sym) → StandsOn s places ts g x → StandsOn s places tokens g x
          one g x (named_on u k is) = named_on u k is
          one g x (unnamed_on t k is) = unnamed_on t (match_token t k) is

  -- the sites and the stored paths of the items
  site_fits : (a : Site) → Contains sites a → SiteFits m a
  site_fits a k = items_fit s graphs m items made.0 (λ u i. i) a k

  site_name : (a : Site) → Contains sites a → (x : Named) → a.name ≡ Some x → Contains names x.name
  site_name a k x h = made_name _ ((site_fits a k).has x h)

  unnamed_site : (a : Site) → Contains sites a → a.name ≡ None → Contains tokens a.token
  unnamed_site a k h =
      Contains-append_right ts (flat_map site_token sites) a.token
      (to_flat_map site_token sites a a.token k (subst (λ (o : Option Named). Contains (unnamed_token a.token o) a.token) (sym h) (contains_here a.token [])))

  -- what is bound and has a site is the name of a place of the MATCH
  bound_site : (a : Site) → Contains sites a → lists bound (site_variable s a) ≡ true → (x : Named) × (a.name ≡ Some x) × (has_use uses x.name ≡ true)
  bound_site a k h =
      let at = bound_from block (site_variable s a) h in
      let stands = of_member (AtomStands s places ts) atoms at.0 all_stand (subst (λ es. Contains es at.0) atoms_are at.1) in
      by a.name refl (of_member (StandsOn s places ts at.0.graph) (variables_of at.0.what) (site_variable s a) stands at.2)
    where
      by : (o : Option Named) → a.name ≡ o → {g : ℕ} → StandsOn s places ts g (site_variable s a) → (x : Named) × (a.name ≡ Some x) × (has_use uses x.name ≡ true)
      by None e (named_on u i is) = absurd (distinct.apart.mixed_apart u.name a.token (use_name u (place_use _ u i)) (unnamed_site a k e) (sym is ∙ ap (variable_or s a.token) e))
      by None e (unnamed_on t i is) =
          absurd (distinct.sides t a i k (sym (distinct.apart.tokens_apart a.token t (unnamed_site a k e) (match_token t i) (sym (ap (variable_or s a.token) e) ∙ is))))
      by (Some x) e (named_on u i is) =
          let same : x.name ≡ u.name = distinct.apart.names_apart x.name u.name (site_name a k x e) (use_name u (place_use _ u i)) (sym (ap (variable_or s a.token) e) ∙ is) in
          (x, e, subst (λ n. has_use uses n ≡ true) (sym same) (there_used uses u (place_use _ u i)))
      by (Some x) e (unnamed_on t i is) = absurd (distinct.apart.mixed_apart x.name t (site_name a k x e) (match_token t i) (sym (ap (variable_or s a.token) e) ∙ is))

  -- the block of the MATCH is found by the token of its CONSTRUCT
  module _ (token : ℕ) (numbered : IsNumbered s (MatchBlock (tree.Basic token items main optionals))) where
    abbrev number : ℕ
    number = match_at s token

    abbrev mk : Makings
    mk = makings_of s bound number items

    -- so the sort of a name is that of its first place
    sort_is : (n : List ℕ) → sort_in s.blocks number n ≡ first_sort uses n
    sort_is n = ap (λ at. sort_in s.blocks (unwrap_or at 0) n) numbered.at ∙ ap (λ placed. first_sort (places_in placed) n) numbered.there

    known : IsKnown s uses (match_links [] main optionals) block mk names
    known = record {
      sorts = λ u k f h. sort_same uses one_use unbroken_place u k f h;
      patterns = λ l k n x y lx ly.
          subst (λ (ps : List (alg.Tree alg.APart)). MatchLink s ps uses l x y) (sym (items_row parts))
          (match_link s names tokens distinct.apart main optionals main_among others_among matched.0 l n k x y lx ly);
      bound = λ a k z i. bound_to block a z k i;
      found = λ n k h. found_use uses n (sym (ap is_found_sort (ap (sort_in s.blocks number) (distinct.apart.named n k) ∙ sort_is n)) ∙ h);
    }

    pub has_links : HasLinksOf block reads (recipe_by s bound number items)
    has_links = record {
      linked = items_linked s items m (match_links [] main optionals) block mk names tokens distinct.apart site_fits (λ n k. items_store s graphs m items made.0 n k) site_name unnamed_site stored_name
          distinct.sites distinct.named_sites known bound_site (recipe_by s bound number items) refl items (λ a k. k) (λ q k. k) (λ n k. k) made.1;
      read = walks_read;
    }

-- a CONSTRUCT that breaks no rule, and whose MATCH is found by its token, has the links of its MATCH
pub basic_links : (s : Scope) (graphs : List (List ℕ)) (token : ℕ) (items : Tree (RowOf AnItem)) (main : Tree ABlock) (optionals : Tree (RowOf AnOptional)) → IsDistinctBasic s items main optionals
    → IsUnbroken (match_breaches [] main optionals) → IsUnbroken (construct_breaches graphs [] items main optionals) → IsNumbered s (MatchBlock (tree.Basic token items main optionals))
    → HasLinksOf (block_of s [] (tree.Basic token items main optionals)) (alg.reads_of (block_of s [] (tree.Basic token items main optionals)))
    (recipe_of s (bound_variables (block_of s [] (tree.Basic token items main optionals))) (tree.Basic token items main optionals))
unfolding block_of
basic_links s graphs token items main optionals distinct matched made numbered = has_links s graphs items main optionals distinct matched made token numbered
