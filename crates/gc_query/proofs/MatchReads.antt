-- The walks that a MATCH binds are read on the graph on which their pattern stands.
use Rattle.std.proofs.Common.{◌≡◌, ⊎_elim, ℕ, ◌==◌, Bool, true, false, cond, List, [], ◌∷◌, ◌++◌, map, Option, Some, None, refl, sym, ap, ◌∙◌, subst, arith}
use Rattle.std.specs.Prelude.{⊤}
use Rattle.std.specs.List.{AllByRecursion, Contains, find}
use Rattle.std.specs.Option.{option_map}
use Rattle.std.proofs.lemmas.Bool.{eq-eqb, eqb-true}
use Rattle.std.proofs.lemmas.List.Elements.{Contains-append_left, Contains-append_right}
use Rattle.std.proofs.lemmas.Option.{none-some, same_Some}
use Rattle.gc_base.proofs.Search.{AllByRecursion-weaker}
use Rattle.gc_base.proofs.SetLaws.{AllByRecursion-append}
use Rattle.gc_base.specs.declared.place.Direction.{Direction}
use Rattle.gc_base.specs.declared.place.Sym.{Sym}
use Rattle.gc_ast.specs.Trees as tree
use Rattle.gc_ast.specs.Trees.{Tree, RowOf, ALocated, APattern, AnElement, APropertyUse, APathBody}
use Rattle.gc_build.specs.Linked.{IsReadThere, walk_number}
use Rattle.gc_ppg.specs.declared.shape.Kind.{Kind}
use Rattle.gc_ppg.specs.declared.shape.Kind.TheVariants as kind
use Rattle.gc_rows.proofs.Members.{AllByRecursion-flat_map, AllByRecursion-map, cons_cases, contains_here, contains_later, each_member, from_map, of_member, to_flat_map, to_map}
use Rattle.gc_values.specs.declared.reads.ReadUse.{ReadUse}
use Rattle.gc_alg.specs.Instances.{listed, variables_of}
use Rattle.gc_alg.specs.declared.atom.Atom.{Atom}
use Rattle.gc_alg.specs.declared.atom.AtomWhat.{AtomWhat}
use Rattle.gc_alg.specs.declared.atom.AtomWhat.TheVariants as atom
use Rattle.gc_sorts.specs.Uses.{all_of, body_uses, pattern_uses, use_at, use_if}
use Rattle.gc_sorts.specs.Variables.{Use}
use Rattle.gc_sorts.specs.declared.sort.Role.TheVariants as role
use Rattle.gc_lower.specs.Chains.{atoms_of, chain_atoms, edge_atoms, joined_atoms, link_atoms, next_variable, node_atoms, node_variable, part_atoms, path_atom, property_atoms}
use Rattle.gc_lower.specs.Reads.{read_in, reads_of, reads_of_atom}
use Rattle.gc_lower.specs.Scopes.{Scope, graph_of, variable_of}
use Rattle.gc_query.proofs.MatchParts.{AreApart, place_of_name}
use Rattle.gc_query.proofs.MatchPlaces.{AtomStands, PlaceOn, StandsOn, located_places, place_on}
use Rattle.gc_query.proofs.MatchSorts.{is_walk_role}

-- the variable of a walk that an atom looks for is that of a name at a place of a walk on its graph
pub record IsWalkPlace (s : Scope) (places : List PlaceOn) (graph : ℕ) (p : Sym) : Type 0 where
  pub at_place : Use
  pub among : Contains places (place_on graph at_place)
  pub walk : is_walk_role at_place.role ≡ true
  pub is : p ≡ variable_of s at_place.name

abbrev pub WalkStands : Scope → List PlaceOn → (graph : ℕ) → AtomWhat → Type 0
WalkStands s places graph (atom.Found x p y k cost regex views) = IsWalkPlace s places graph p
WalkStands s places graph (atom.All x p y regex views) = IsWalkPlace s places graph p
WalkStands s places graph what = ⊤

abbrev pub AtomWalks : Scope → List PlaceOn → Atom → Type 0
AtomWalks s places a = WalkStands s places a.graph a.what

walk_wider : (s : Scope) (ps qs : List PlaceOn) → ((p : PlaceOn) → Contains ps p → Contains qs p) → (graph : ℕ) (what : AtomWhat) → WalkStands s ps graph what → WalkStands s qs graph what
walk_wider s ps qs f graph (atom.Node x labels) h = tt
walk_wider s ps qs f graph (atom.Edge x e y way labels) h = tt
walk_wider s ps qs f graph (atom.Property x kind name v) h = tt
walk_wider s ps qs f graph (atom.Stored x p y labels) h = tt
walk_wider s ps qs f graph (atom.Reach x y regex views) h = tt
walk_wider s ps qs f graph (atom.Found x p y k cost regex views) h = record { at_place = h.at_place; among = f (place_on graph h.at_place) h.among; walk = h.walk; is = h.is }
walk_wider s ps qs f graph (atom.All x p y regex views) h = record { at_place = h.at_place; among = f (place_on graph h.at_place) h.among; walk = h.walk; is = h.is }

pub walks_wider : (s : Scope) (ps qs : List PlaceOn) → ((p : PlaceOn) → Contains ps p → Contains qs p) → (atoms : List Atom) → AllByRecursion (AtomWalks s ps) atoms → AllByRecursion (AtomWalks s qs) atoms
walks_wider s ps qs f atoms h = AllByRecursion-weaker (AtomWalks s ps) (AtomWalks s qs) (λ a k. walk_wider s ps qs f a.graph a.what k) atoms h

module _ (s : Scope) (graph : ℕ) where
  abbrev here : List Use → List PlaceOn
  here uses = map (place_on graph) uses

  properties_walk : (places : List PlaceOn) (x : Sym) (kind : Kind) (properties : Tree (RowOf APropertyUse)) → AllByRecursion (AtomWalks s places) (property_atoms s graph x kind properties)
  properties_walk places x kind tree.none = tt
  properties_walk places x kind (tree.more (tree.PropertyUse token property value) properties) = (tt, properties_walk places x kind properties)

  node_walks : (places : List PlaceOn) (e : Tree AnElement) → AllByRecursion (AtomWalks s places) (node_atoms s graph e)
  node_walks places (tree.Element token name labels properties) = (tt, properties_walk places _ kind.Node properties)

  edge_walks : (places : List PlaceOn) (x y : Sym) (way : Direction) (e : Tree AnElement) → AllByRecursion (AtomWalks s places) (edge_atoms s graph x y way e)
  edge_walks places x y way (tree.Element token name labels properties) = (tt, properties_walk places _ kind.Edge properties)

  body_walks : (x y : Sym) (body : Tree APathBody) → AllByRecursion (AtomWalks s (here (body_uses body))) (path_atom s graph x y body ∷ [])
  body_walks x y (tree.Reach regex views) = (tt, tt)
  body_walks x y (tree.Found k path regex views cost) = (record { at_place = use_at role.Found path; among = to_map (place_on graph) (body_uses (tree.Found k path regex views cost)) (use_at role.Found path) (contains_here (use_at role.Found path) (use_if role.Cost cost)); walk = refl; is = refl }, tt)
  body_walks x y (tree.All path regex views) = (record { at_place = use_at role.All path; among = to_map (place_on graph) (body_uses (tree.All path regex views)) (use_at role.All path) (contains_here (use_at role.All path) []); walk = refl; is = refl }, tt)
  body_walks x y (tree.Stored path labels) = (tt, tt)

  joined_walks : (x y : Sym) (p : Tree APattern) → AllByRecursion (AtomWalks s (here (pattern_uses p))) (joined_atoms s graph x y p)
  joined_walks x y (tree.Node e) = tt
  joined_walks x y (tree.Edge way e) = edge_walks _ x y way e
  joined_walks x y (tree.Path token regex_at body) = body_walks x y body

  link_walks : (left right : Option Sym) (p : Tree APattern) → AllByRecursion (AtomWalks s (here (pattern_uses p))) (link_atoms s graph left right p)
  link_walks (Some x) (Some y) p = joined_walks x y p
  link_walks (Some x) None p = tt
  link_walks None right p = tt

  part_walks : (left right : Option Sym) (p : Tree APattern) → AllByRecursion (AtomWalks s (here (pattern_uses p))) (part_atoms s graph left right p)
  part_walks left right (tree.Node e) = node_walks _ e
  part_walks left right (tree.Edge way e) = link_walks left right (tree.Edge way e)
  part_walks left right (tree.Path token regex_at body) = link_walks left right (tree.Path token regex_at body)

  chain_walks : (left : Option Sym) (ps : Tree (RowOf APattern)) → AllByRecursion (AtomWalks s (here (all_of pattern_uses ps))) (chain_atoms s graph left ps)
  chain_walks left tree.none = tt
  chain_walks left (tree.more p ps) =
      let us = pattern_uses p in
      let vs = all_of pattern_uses ps in
      AllByRecursion-append (AtomWalks s (here (us ++ vs))) (part_atoms s graph left (next_variable s ps) p) (chain_atoms s graph (node_variable s p) ps)
      (walks_wider s (here us) (here (us ++ vs)) (λ q m. mapped us (us ++ vs) (Contains-append_left us vs) q m) _ (part_walks left (next_variable s ps) p))
      (walks_wider s (here vs) (here (us ++ vs)) (λ q m. mapped vs (us ++ vs) (Contains-append_right us vs) q m) _ (chain_walks (node_variable s p) ps))
    where
      mapped : (xs ys : List Use) → ((u : Use) → Contains xs u → Contains ys u) → (q : PlaceOn) → Contains (map (place_on graph) xs) q → Contains (map (place_on graph) ys) q
      mapped xs ys f q m = let from = from_map (place_on graph) xs q m in subst (Contains (map (place_on graph) ys)) (sym from.2) (to_map (place_on graph) ys from.0 (f from.0 from.1))

-- the atoms of chains look for walks at the places of these
pub atoms_walk : (s : Scope) (located : Tree (RowOf ALocated)) → AllByRecursion (AtomWalks s (all_of (located_places s) located)) (atoms_of s located)
atoms_walk s tree.none = tt
atoms_walk s (tree.more (tree.Located parts on) located) =
    let g = graph_of s on in
    let here = map (place_on g) (all_of pattern_uses parts) in
    let later = all_of (located_places s) located in
    AllByRecursion-append (AtomWalks s (here ++ later)) (chain_atoms s g None parts) (atoms_of s located)
    (walks_wider s here (here ++ later) (Contains-append_left here later) _ (chain_walks s g None parts))
    (walks_wider s later (here ++ later) (Contains-append_right here later) _ (atoms_walk s located))

-- entries that say on which graph what stands at places is read
abbrev pub ReadStands : Scope → List PlaceOn → List ℕ → ReadUse → Type 0
ReadStands s places tokens r = StandsOn s places tokens r.walk r.var

pub reads_stand : (s : Scope) (places : List PlaceOn) (tokens : List ℕ) (atoms : List Atom) → AllByRecursion (AtomStands s places tokens) atoms → AllByRecursion (ReadStands s places tokens) (reads_of atoms)
reads_stand s places tokens atoms h =
    AllByRecursion-flat_map (ReadStands s places tokens) reads_of_atom atoms
    (AllByRecursion-weaker (AtomStands s places tokens) (λ a. AllByRecursion (ReadStands s places tokens) (reads_of_atom a))
    (λ a k. AllByRecursion-map (ReadStands s places tokens) (read_in a.graph) (variables_of a.what) k) atoms h)

found_in : {X : Type 0} (p : X → Bool) (xs : List X) (x : X) → find p xs ≡ Some x → Contains xs x × (p x ≡ true)
found_in p [] x h = absurd (none-some x h)
found_in p (y ∷ xs) x h =
    elim (p y) as (λ b. p y ≡ b → cond b (Some y) (find p xs) ≡ Some x → Contains (y ∷ xs) x × (p x ≡ true)) [
      | true ↦ λ t k. let same = same_Some y x k in (subst (Contains (y ∷ xs)) same (contains_here y xs), subst (λ z. p z ≡ true) same t)
      | false ↦ λ t k. let rest = found_in p xs x k in (contains_later y xs x rest.0, rest.1)
    ] refl h

not_missing : {X : Type 0} (p : X → Bool) (xs : List X) (x : X) → Contains xs x → p x ≡ true → find p xs ≡ None → ⊥
not_missing p [] x m t h = absurd (omega (arith, m.1))
not_missing p (y ∷ xs) x m t h =
    elim (p y) as (λ b. p y ≡ b → cond b (Some y) (find p xs) ≡ None → ⊥) [
      | true ↦ λ e k. absurd (none-some y (sym k))
      | false ↦ λ e k. ⊎_elim (λ q. absurd (cc (e, ap p q ∙ t))) (λ q. not_missing p xs x q t k) (cons_cases y xs x m)
    ] refl h

same_var : (x y : Sym) → (x.0 == y.0) ≡ true → x ≡ y
same_var x y t = let e : x.0 ≡ y.0 = eqb-true x.0 y.0 t in λ i. record { 0 = e i }

module _ (s : Scope) (names : List (List ℕ)) (tokens : List ℕ) (apart : AreApart s names tokens) (places : List PlaceOn) (named : (u : Use) (g : ℕ) → Contains places (place_on g u) → Contains names u.name)
    (alone : (u v : Use) (g h : ℕ) → Contains places (place_on g u) → Contains places (place_on h v) → is_walk_role u.role ≡ true → v.name ≡ u.name → place_on h v ≡ place_on g u)
    (reads : List ReadUse) (stand : AllByRecursion (ReadStands s places tokens) reads) where
  -- the entry that is found says the graph of the walk's own place
  read_on : (graph : ℕ) (p : Sym) → IsWalkPlace s places graph p → Contains reads (read_in graph p) → walk_number reads p ≡ Some graph
  read_on graph p place there = by (find (λ (r : ReadUse). r.var.0 == p.0) reads) refl
    where
      by : (o : Option ReadUse) → find (λ (r : ReadUse). r.var.0 == p.0) reads ≡ o → option_map (λ (r : ReadUse). r.walk) o ≡ Some graph
      by None is = absurd (not_missing (λ (r : ReadUse). r.var.0 == p.0) reads (read_in graph p) there (eq-eqb p.0 p.0 refl) is)
      by (Some r) is =
          let found = found_in (λ (q : ReadUse). q.var.0 == p.0) reads r is in
          let var : r.var ≡ variable_of s place.at_place.name = same_var r.var p found.1 ∙ place.is in
          let at = subst (StandsOn s places tokens r.walk) var (of_member (ReadStands s places tokens) reads r stand found.0) in
          let own = place_of_name s names tokens apart place.at_place.name (named place.at_place graph place.among) places tokens named (λ t m. m) r.walk at in
          ap (λ (q : PlaceOn). Some q.graph) (alone place.at_place own.0 graph r.walk place.among own.1 place.walk own.2)

  read_there : (graph : ℕ) (what : AtomWhat) → WalkStands s places graph what → ((x : Sym) → Contains (variables_of what) x → Contains reads (read_in graph x)) → IsReadThere reads graph what
  read_there graph (atom.Node x labels) h there = tt
  read_there graph (atom.Edge x e y way labels) h there = tt
  read_there graph (atom.Property x kind name v) h there = tt
  read_there graph (atom.Stored x p y labels) h there = tt
  read_there graph (atom.Reach x y regex views) h there = tt
  read_there graph (atom.Found x p y k cost regex views) h there = read_on graph p h (there p (contains_later x (p ∷ y ∷ listed cost) p (contains_here p (y ∷ listed cost))))
  read_there graph (atom.All x p y regex views) h there = read_on graph p h (there p (contains_later x (p ∷ y ∷ []) p (contains_here p (y ∷ []))))

  -- atoms whose variables are all among the entries
  pub all_read : (atoms : List Atom) → AllByRecursion (AtomWalks s places) atoms → ((r : ReadUse) → Contains (reads_of atoms) r → Contains reads r)
      → AllByRecursion (λ a. IsReadThere reads a.graph a.what) atoms
  all_read atoms h there =
      each_member (λ (a : Atom). IsReadThere reads a.graph a.what) atoms
      (λ a m. read_there a.graph a.what (of_member (AtomWalks s places) atoms a h m)
      (λ x k. there (read_in a.graph x) (to_flat_map reads_of_atom atoms a (read_in a.graph x) m (to_map (read_in a.graph) (variables_of a.what) x k))))
