-- The variables of the atoms of a MATCH stand at places that are none of walks, or the atom is that of the place.
use Rattle.std.proofs.Common.{◌≡◌, ◌⊎◌, inl, inr, ⊎_elim, ℕ, false, List, [], ◌∷◌, ◌++◌, Option, Some, None, refl, subst, arith}
use Rattle.std.specs.List.{AllByRecursion, Contains, flat_map}
use Rattle.std.proofs.lemmas.List.Elements.{Contains-append_left, Contains-append_right, Contains-append_cases}
use Rattle.std.proofs.lemmas.Option.{none-some}
use Rattle.gc_base.proofs.Search.{AllByRecursion-weaker}
use Rattle.gc_base.proofs.SetLaws.{AllByRecursion-append}
use Rattle.gc_base.specs.declared.place.Sym.{Sym}
use Rattle.gc_ast.specs.Trees as tree
use Rattle.gc_ast.specs.Trees.{Tree, Named, RowOf, ABlock, ALocated, AnOptional, APattern, AnElement, APropertyUse, APathBody}
use Rattle.gc_rows.proofs.Members.{cons_cases, contains_here, contains_later}
use Rattle.gc_values.specs.declared.reads.ReadUse.{ReadUse}
use Rattle.gc_alg.specs.Instances.{variables_of}
use Rattle.gc_alg.specs.Trees as alg
use Rattle.gc_alg.specs.declared.atom.Atom.{Atom}
use Rattle.gc_sorts.specs.Uses.{all_of, block_uses, body_uses, element_uses, located_uses, optional_uses, pattern_uses, property_uses, use_at, use_if}
use Rattle.gc_sorts.specs.Variables.{Use}
use Rattle.gc_sorts.specs.declared.sort.Role.{Role}
use Rattle.gc_sorts.specs.declared.sort.Role.TheVariants as role
use Rattle.gc_lower.specs.Blocks as lower
use Rattle.gc_lower.specs.Blocks.{block_of, optional_parts, part_of}
use Rattle.gc_lower.specs.Chains.{atoms_of, chain_atoms, edge_atoms, next_variable, node_atoms, node_variable, part_atoms, path_atom}
use Rattle.gc_lower.specs.Reads.{reads_of}
use Rattle.gc_lower.specs.Scopes.{Scope, graph_of, variable_of}
use Rattle.gc_query.proofs.BasicLinks.{match_tokens, optional_tokens}
use Rattle.gc_query.proofs.MatchParts.{block_tokens}
use Rattle.gc_query.proofs.MatchPlaces.{IsFine, Stands, cost_stands, edge_stands, element_tokens, hidden, located_tokens, named, node_own, node_stands, pattern_tokens, unnamed}
use Rattle.gc_query.proofs.MatchSorts.{is_walk_role}
use Rattle.gc_query.proofs.WalkEntries.{Entry, block_entries, body_entries, chain_entries, entry_at, link_entries, located_entries, match_entries, optional_entries}

-- a variable is that of a name at a place that is not one of a walk, or that of an element at a token
pub data Plain (s : Scope) (uses : List Use) (tokens : List ℕ) (x : Sym) : Type 0 where
  plain : (u : Use) → Contains uses u → is_walk_role u.role ≡ false → x ≡ variable_of s u.name → Plain s uses tokens x
  bare : (t : ℕ) → Contains tokens t → x ≡ hidden s t → Plain s uses tokens x

-- or an atom is the one that has an entry at the place of its name
pub record IsWalked (s : Scope) (uses : List Use) (entries : List Entry) (a : Atom) (x : Sym) : Type 0 where
  pub at_place : Use
  pub among : Contains uses at_place
  pub entry : Contains entries (entry_at at_place.token a)
  pub is : x ≡ variable_of s at_place.name

abbrev pub StandsAt : Scope → List Use → List ℕ → List Entry → Atom → Sym → Type 0
StandsAt s uses tokens entries a x = Plain s uses tokens x ⊎ IsWalked s uses entries a x

abbrev pub Each : (Atom → Sym → Type 0) → Atom → Type 0
Each P a = AllByRecursion (P a) (variables_of a.what)

abbrev pub AtomAt : Scope → List Use → List ℕ → List Entry → Atom → Type 0
AtomAt s uses tokens entries a = Each (StandsAt s uses tokens entries) a

each_weaker : (P Q : Atom → Sym → Type 0) → ((a : Atom) (x : Sym) → P a x → Q a x) → (atoms : List Atom) → AllByRecursion (Each P) atoms
    → AllByRecursion (Each Q) atoms
each_weaker P Q f atoms h = AllByRecursion-weaker (Each P) (Each Q) (λ a k. AllByRecursion-weaker (P a) (Q a) (f a) (variables_of a.what) k) atoms h

fine_each : (P : Sym → Type 0) (Q : Atom → Sym → Type 0) → ((x : Sym) → P x → (a : Atom) → Q a x) → (graph : ℕ) (atoms : List Atom)
    → AllByRecursion (IsFine P graph) atoms → AllByRecursion (Each Q) atoms
fine_each P Q f graph atoms h =
    AllByRecursion-weaker (IsFine P graph) (Each Q) (λ a k. AllByRecursion-weaker P (Q a) (λ x m. f x m a) (variables_of a.what) k.variables) atoms h

-- what stands at some places stands at more
module _ (s : Scope) (us vs : List Use) (ts ks : List ℕ) (f : (u : Use) → Contains us u → Contains vs u) where
  plain_wider : ((t : ℕ) → Contains ts t → Contains ks t) → (x : Sym) → Plain s us ts x → Plain s vs ks x
  plain_wider g x (plain u m w is) = plain u (f u m) w is
  plain_wider g x (bare t m is) = bare t (g t m) is

  walked_wider : (es ds : List Entry) → ((e : Entry) → Contains es e → Contains ds e) → (a : Atom) (x : Sym) → IsWalked s us es a x → IsWalked s vs ds a x
  walked_wider es ds k a x w = record { at_place = w.at_place; among = f w.at_place w.among; entry = k (entry_at w.at_place.token a) w.entry; is = w.is }

  at_wider : (es ds : List Entry) → ((t : ℕ) → Contains ts t → Contains ks t) → ((e : Entry) → Contains es e → Contains ds e) → (a : Atom) (x : Sym)
      → StandsAt s us ts es a x → StandsAt s vs ks ds a x
  at_wider es ds g k a x h = ⊎_elim (λ p. inl (plain_wider g x p)) (λ w. inr (walked_wider es ds k a x w)) h

-- nodes, edges and properties stand at no place of a walk
property_role : (properties : Tree (RowOf APropertyUse)) (u : Use) → Contains (all_of property_uses properties) u → is_walk_role u.role ≡ false
property_role tree.none u m = absurd (omega (arith, m.1))
property_role (tree.more (tree.PropertyUse token property value) properties) u m =
    ⊎_elim (λ e. subst (λ (w : Use). is_walk_role w.role ≡ false) e refl) (λ k. property_role properties u k) (cons_cases (use_at role.Property value) (all_of property_uses properties) u m)

if_role : (r : Role) → is_walk_role r ≡ false → (name : Option Named) (u : Use) → Contains (use_if r name) u → is_walk_role u.role ≡ false
if_role r w None u m = absurd (omega (arith, m.1))
if_role r w (Some x) u m = ⊎_elim (λ e. subst (λ (v : Use). is_walk_role v.role ≡ false) e w) (λ k. absurd (omega (arith, k.1))) (cons_cases (use_at r x) [] u m)

element_role : (r : Role) → is_walk_role r ≡ false → (e : Tree AnElement) (u : Use) → Contains (element_uses r e) u → is_walk_role u.role ≡ false
element_role r w (tree.Element token name labels properties) u m =
    ⊎_elim (λ k. if_role r w name u k) (λ k. property_role properties u k) (Contains-append_cases (use_if r name) (all_of property_uses properties) u m)

module _ (s : Scope) where
  element_plain : (r : Role) → is_walk_role r ≡ false → (e : Tree AnElement) (x : Sym) → Stands s (element_uses r e) (element_tokens e) x
      → Plain s (element_uses r e) (element_tokens e) x
  element_plain r w e x (named u m is) = plain u m (element_role r w e u m) is
  element_plain r w e x (unnamed t m is) = bare t m is

  plain_left : (us vs : List Use) (ts ks : List ℕ) (x : Sym) → Plain s us ts x → Plain s (us ++ vs) (ts ++ ks) x
  plain_left us vs ts ks x h = plain_wider s us (us ++ vs) ts (ts ++ ks) (Contains-append_left us vs) (Contains-append_left ts ks) x h

  plain_right : (us vs : List Use) (ts ks : List ℕ) (x : Sym) → Plain s vs ks x → Plain s (us ++ vs) (ts ++ ks) x
  plain_right us vs ts ks x h = plain_wider s vs (us ++ vs) ks (ts ++ ks) (Contains-append_right us vs) (Contains-append_right ts ks) x h

  -- the variable of a node stands at its own place
  node_plain : (p : Tree APattern) (x : Sym) → node_variable s p ≡ Some x → Plain s (pattern_uses p) (pattern_tokens p) x
  node_plain (tree.Node e) x h = element_plain role.Node refl e x (node_own s (tree.Node e) x h)
  node_plain (tree.Edge way e) x h = absurd (none-some x h)
  node_plain (tree.Path token regex_at body) x h = absurd (none-some x h)

  next_plain : (ps : Tree (RowOf APattern)) (x : Sym) → next_variable s ps ≡ Some x → Plain s (all_of pattern_uses ps) (all_of pattern_tokens ps) x
  next_plain tree.none x h = absurd (none-some x h)
  next_plain (tree.more p ps) x h = plain_left (pattern_uses p) (all_of pattern_uses ps) (pattern_tokens p) (all_of pattern_tokens ps) x (node_plain p x h)

  -- the atom of a path pattern
  path_at : (graph : ℕ) (Q : Atom → Sym → Type 0) (x y : Sym) (body : Tree APathBody) → ((a : Atom) → Q a x) → ((a : Atom) → Q a y)
      → ((a : Atom) (z : Sym) → Plain s (body_uses body) [] z → Q a z)
      → ((a : Atom) (z : Sym) → IsWalked s (body_uses body) (body_entries s graph x y body) a z → Q a z)
      → AllByRecursion (Each Q) (path_atom s graph x y body ∷ [])
  path_at graph Q x y (tree.Reach regex views) l r f g =
      let a = path_atom s graph x y (tree.Reach regex views) in ((l a, (r a, tt)), tt)
  path_at graph Q x y (tree.Found k path regex views cost) l r f g =
      let a = path_atom s graph x y (tree.Found k path regex views cost) in
      let u = use_at role.Found path in
      let costs = use_if role.Cost cost in
      let own = g a (variable_of s path.name) (record { at_place = u; among = contains_here u costs; entry = contains_here (entry_at path.token a) []; is = refl }) in
      let priced = cost_stands s (Q a) cost (λ w m. f a (variable_of s w.name) (plain w (contains_later u costs w m) (if_role role.Cost refl cost w m) refl)) in
      ((l a, (own, (r a, priced))), tt)
  path_at graph Q x y (tree.All path regex views) l r f g =
      let a = path_atom s graph x y (tree.All path regex views) in
      let u = use_at role.All path in
      let own = g a (variable_of s path.name) (record { at_place = u; among = contains_here u []; entry = contains_here (entry_at path.token a) []; is = refl }) in
      ((l a, (own, (r a, tt))), tt)
  path_at graph Q x y (tree.Stored path labels) l r f g =
      let a = path_atom s graph x y (tree.Stored path labels) in
      let u = use_at role.Stored path in
      ((l a, (f a (variable_of s path.name) (plain u (contains_here u []) refl refl), (r a, tt))), tt)

  -- the atoms of a part of a chain
  part_at : (graph : ℕ) (Q : Atom → Sym → Type 0) (left right : Option Sym) (p : Tree APattern) → ((a : Atom) (x : Sym) → left ≡ Some x → Q a x)
      → ((a : Atom) (y : Sym) → right ≡ Some y → Q a y)
      → ((a : Atom) (z : Sym) → Plain s (pattern_uses p) (pattern_tokens p) z → Q a z)
      → ((a : Atom) (z : Sym) → IsWalked s (pattern_uses p) (link_entries s graph left right p) a z → Q a z)
      → AllByRecursion (Each Q) (part_atoms s graph left right p)
  part_at graph Q left right (tree.Node e) l r f g =
      fine_each (Stands s (element_uses role.Node e) (element_tokens e)) Q (λ x m a. f a x (element_plain role.Node refl e x m)) graph (node_atoms s graph e) (node_stands s graph e)
  part_at graph Q (Some x) (Some y) (tree.Edge way e) l r f g =
      fine_each (λ z. (a : Atom) → Q a z) Q (λ z m a. m a) graph (edge_atoms s graph x y way e)
      (edge_stands s graph (λ z. (a : Atom) → Q a z) x y way e (λ a. l a x refl) (λ a. r a y refl) (λ z m a. f a z (element_plain role.Edge refl e z m)))
  part_at graph Q (Some x) None (tree.Edge way e) l r f g = tt
  part_at graph Q None right (tree.Edge way e) l r f g = tt
  part_at graph Q (Some x) (Some y) (tree.Path token regex_at body) l r f g = path_at graph Q x y body (λ a. l a x refl) (λ a. r a y refl) f g
  part_at graph Q (Some x) None (tree.Path token regex_at body) l r f g = tt
  part_at graph Q None right (tree.Path token regex_at body) l r f g = tt

  -- or a variable is that of the node before
  abbrev Behind : List Use → List ℕ → List Entry → Option Sym → Atom → Sym → Type 0
  Behind uses tokens entries left a x = StandsAt s uses tokens entries a x ⊎ (left ≡ Some x)

  chain_at : (graph : ℕ) (left : Option Sym) (ps : Tree (RowOf APattern))
      → AllByRecursion (Each (Behind (all_of pattern_uses ps) (all_of pattern_tokens ps) (chain_entries s graph left ps) left)) (chain_atoms s graph left ps)
  chain_at graph left tree.none = tt
  chain_at graph left (tree.more p ps) =
      let us = pattern_uses p in
      let vs = all_of pattern_uses ps in
      let ts = pattern_tokens p in
      let ks = all_of pattern_tokens ps in
      let es = link_entries s graph left (next_variable s ps) p in
      let ds = chain_entries s graph (node_variable s p) ps in
      AllByRecursion-append (Each (Behind (us ++ vs) (ts ++ ks) (es ++ ds) left)) (part_atoms s graph left (next_variable s ps) p) (chain_atoms s graph (node_variable s p) ps)
      (part_at graph (Behind (us ++ vs) (ts ++ ks) (es ++ ds) left) left (next_variable s ps) p (λ a x e. inr e) (λ a y e. inl (inl (plain_right us vs ts ks y (next_plain ps y e))))
      (λ a z h. inl (inl (plain_left us vs ts ks z h)))
      (λ a z h. inl (inr (walked_wider s us (us ++ vs) ts (ts ++ ks) (Contains-append_left us vs) es (es ++ ds) (Contains-append_left es ds) a z h))))
      (each_weaker (Behind vs ks ds (node_variable s p)) (Behind (us ++ vs) (ts ++ ks) (es ++ ds) left)
      (λ a x h. ⊎_elim
      (λ k. inl (at_wider s vs (us ++ vs) ks (ts ++ ks) (Contains-append_right us vs) ds (es ++ ds) (Contains-append_right ts ks) (Contains-append_right es ds) a x k))
      (λ e. inl (inl (plain_left us vs ts ks x (node_plain p x e)))) h) (chain_atoms s graph (node_variable s p) ps)
      (chain_at graph (node_variable s p) ps))

  -- two lists of atoms, each at its own places
  both_at : (us vs : List Use) (ts ks : List ℕ) (es ds : List Entry) (atoms others : List Atom) → AllByRecursion (AtomAt s us ts es) atoms
      → AllByRecursion (AtomAt s vs ks ds) others
      → AllByRecursion (AtomAt s (us ++ vs) (ts ++ ks) (es ++ ds)) (atoms ++ others)
  both_at us vs ts ks es ds atoms others h k =
      AllByRecursion-append (AtomAt s (us ++ vs) (ts ++ ks) (es ++ ds)) atoms others
      (each_weaker (StandsAt s us ts es) (StandsAt s (us ++ vs) (ts ++ ks) (es ++ ds))
      (at_wider s us (us ++ vs) ts (ts ++ ks) (Contains-append_left us vs) es (es ++ ds) (Contains-append_left ts ks) (Contains-append_left es ds)) atoms h)
      (each_weaker (StandsAt s vs ks ds) (StandsAt s (us ++ vs) (ts ++ ks) (es ++ ds))
      (at_wider s vs (us ++ vs) ks (ts ++ ks) (Contains-append_right us vs) ds (es ++ ds) (Contains-append_right ts ks) (Contains-append_right es ds)) others k)

  -- the atoms of chains, of blocks and of a whole MATCH
  located_at : (located : Tree (RowOf ALocated))
      → AllByRecursion (AtomAt s (all_of located_uses located) (all_of located_tokens located) (all_of (located_entries s) located)) (atoms_of s located)
  located_at tree.none = tt
  located_at (tree.more (tree.Located parts on) located) =
      let us = all_of pattern_uses parts in
      let ts = all_of pattern_tokens parts in
      let es = chain_entries s (graph_of s on) None parts in
      both_at us (all_of located_uses located) ts (all_of located_tokens located) es (all_of (located_entries s) located) (chain_atoms s (graph_of s on) None parts) (atoms_of s located)
      (each_weaker (Behind us ts es None) (StandsAt s us ts es) (λ a x h. ⊎_elim (λ k. k) (λ e. absurd (none-some x e)) h) (chain_atoms s (graph_of s on) None parts) (chain_at (graph_of s on) None parts))
      (located_at located)

  block_at : (around before : List ReadUse) (b : Tree ABlock)
      → AllByRecursion (AtomAt s (block_uses b) (block_tokens b) (block_entries s b)) (alg.atoms_of (part_of s around before b))
  unfolding block_of part_of
  block_at around before (tree.Block patterns filter) = located_at patterns

  optionals_at : (around before : List ReadUse) (os : Tree (RowOf AnOptional))
      → AllByRecursion (AtomAt s (all_of optional_uses os) (all_of optional_tokens os) (all_of (optional_entries s) os)) (flat_map alg.atoms_of (optional_parts s around before os))
  unfolding block_of optional_parts
  optionals_at around before tree.none = tt
  optionals_at around before (tree.more (tree.Optional token b) os) =
      let later = before ++ reads_of (lower.block_atoms s b) in
      both_at (block_uses b) (all_of optional_uses os) (block_tokens b) (all_of optional_tokens os) (block_entries s b) (all_of (optional_entries s) os)
      (alg.atoms_of (part_of s around before b)) (flat_map alg.atoms_of (optional_parts s around later os)) (block_at around before b) (optionals_at around later os)

  pub match_at : (around before later : List ReadUse) (main : Tree ABlock) (os : Tree (RowOf AnOptional))
      → AllByRecursion (AtomAt s (block_uses main ++ all_of optional_uses os) (match_tokens main os) (match_entries s main os))
      (alg.atoms_of (part_of s around before main) ++ flat_map alg.atoms_of (optional_parts s around later os))
  match_at around before later main os =
      both_at (block_uses main) (all_of optional_uses os) (block_tokens main) (all_of optional_tokens os) (block_entries s main) (all_of (optional_entries s) os)
      (alg.atoms_of (part_of s around before main)) (flat_map alg.atoms_of (optional_parts s around later os)) (block_at around before main) (optionals_at around later os)
