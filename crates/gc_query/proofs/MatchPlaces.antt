-- The variables of the atoms of a block stand for the names and the unnamed elements at the places of its patterns.
use Rattle.std.proofs.Common.{◌≡◌, ◌⊎◌, inl, inr, ⊎_elim, ℕ, List, [], ◌∷◌, ◌++◌, map, Option, Some, None, refl, sym, subst, arith}
use Rattle.std.specs.List.{AllByRecursion, Contains}
use Rattle.std.proofs.lemmas.List.Elements.{Contains-append_left, Contains-append_right}
use Rattle.std.proofs.lemmas.Option.{none-some, same_Some}
use Rattle.gc_base.proofs.Search.{AllByRecursion-weaker}
use Rattle.gc_base.proofs.SetLaws.{AllByRecursion-append}
use Rattle.gc_base.specs.declared.place.Direction.{Direction}
use Rattle.gc_base.specs.declared.place.Sym.{Sym}
use Rattle.gc_ast.specs.Trees as tree
use Rattle.gc_ast.specs.Trees.{Tree, Named, RowOf, ALocated, APattern, AnElement, APropertyUse, APathBody}
use Rattle.gc_ppg.specs.declared.shape.Kind.{Kind}
use Rattle.gc_ppg.specs.declared.shape.Kind.TheVariants as kind
use Rattle.gc_rows.proofs.Members.{cons_cases, contains_here, contains_later, to_map}
use Rattle.gc_alg.specs.Instances.{listed, variables_of}
use Rattle.gc_alg.specs.declared.atom.Atom.{Atom}
use Rattle.gc_sorts.specs.Uses.{all_of, body_uses, element_uses, pattern_uses, property_uses, use_at, use_if}
use Rattle.gc_sorts.specs.Variables.{Use}
use Rattle.gc_sorts.specs.declared.sort.Role.{Role}
use Rattle.gc_sorts.specs.declared.sort.Role.TheVariants as role
use Rattle.gc_lower.specs.Chains.{atoms_of, chain_atoms, edge_atoms, joined_atoms, link_atoms, next_variable, node_atoms, node_variable, part_atoms, path_atom, property_atoms, variable_if}
use Rattle.gc_lower.specs.Scopes.{Scope, graph_of, number_at, variable_of, variable_or}

-- the token of an element without a name
abbrev pub unnamed_token : ℕ → Option Named → List ℕ
unnamed_token token None = token ∷ []
unnamed_token token (Some x) = []

abbrev pub element_tokens : Tree AnElement → List ℕ
element_tokens (tree.Element token name labels properties) = unnamed_token token name

abbrev pub pattern_tokens : Tree APattern → List ℕ
pattern_tokens (tree.Node element) = element_tokens element
pattern_tokens (tree.Edge way element) = element_tokens element
pattern_tokens (tree.Path token regex_at body) = []

abbrev pub located_tokens : Tree ALocated → List ℕ
located_tokens (tree.Located parts on) = all_of pattern_tokens parts

-- the hidden variable at a token
abbrev pub hidden : Scope → ℕ → Sym
hidden s token = record { 0 = number_at s.hidden_at token }

-- a variable is that of a name at one of some places, or that of an element at one of some tokens
pub data Stands (s : Scope) (uses : List Use) (tokens : List ℕ) (x : Sym) : Type 0 where
  named : (u : Use) → Contains uses u → x ≡ variable_of s u.name → Stands s uses tokens x
  unnamed : (t : ℕ) → Contains tokens t → x ≡ hidden s t → Stands s uses tokens x

pub stands_left : (s : Scope) (us vs : List Use) (ts ks : List ℕ) (x : Sym) → Stands s us ts x → Stands s (us ++ vs) (ts ++ ks) x
stands_left s us vs ts ks x (named u m is) = named u (Contains-append_left us vs u m) is
stands_left s us vs ts ks x (unnamed t m is) = unnamed t (Contains-append_left ts ks t m) is

pub stands_right : (s : Scope) (us vs : List Use) (ts ks : List ℕ) (x : Sym) → Stands s vs ks x → Stands s (us ++ vs) (ts ++ ks) x
stands_right s us vs ts ks x (named u m is) = named u (Contains-append_right us vs u m) is
stands_right s us vs ts ks x (unnamed t m is) = unnamed t (Contains-append_right ts ks t m) is

-- or it is that of the node before
abbrev StandsBehind : Scope → List Use → List ℕ → Option Sym → Sym → Type 0
StandsBehind s uses tokens left x = Stands s uses tokens x ⊎ (left ≡ Some x)

-- an atom of a graph whose variables are so
pub record IsFine (P : Sym → Type 0) (graph : ℕ) (a : Atom) : Type 0 where
  pub graph_is : a.graph ≡ graph
  pub variables : AllByRecursion P (variables_of a.what)

fine_weaker : (P Q : Sym → Type 0) → ((x : Sym) → P x → Q x) → (graph : ℕ) (atoms : List Atom) → AllByRecursion (IsFine P graph) atoms → AllByRecursion (IsFine Q graph) atoms
fine_weaker P Q f graph atoms h =
    AllByRecursion-weaker (IsFine P graph) (IsFine Q graph) (λ a k. record { graph_is = k.graph_is; variables = AllByRecursion-weaker P Q f (variables_of a.what) k.variables }) atoms h

module _ (s : Scope) where
  -- the variable of an element, and those of its properties
  own : (role : Role) (token : ℕ) (name : Option Named) (vs : List Use) → Stands s (use_if role name ++ vs) (unnamed_token token name) (variable_or s token name)
  own role token None vs = unnamed token (contains_here token []) refl
  own role token (Some x) vs = named (use_at role x) (contains_here (use_at role x) vs) refl

  property_stands : (us : List Use) (ts : List ℕ) (graph : ℕ) (x : Sym) (kind : Kind) (properties : Tree (RowOf APropertyUse)) → Stands s us ts x
      → AllByRecursion (IsFine (Stands s (us ++ all_of property_uses properties) ts) graph) (property_atoms s graph x kind properties)
  property_stands us ts graph x kind tree.none h = tt
  property_stands us ts graph x kind (tree.more (tree.PropertyUse token property value) properties) h =
      let u = use_at role.Property value in
      let vs = all_of property_uses properties in (
        record {
          graph_is = refl;
          variables = (wider us (u ∷ vs) x h, (named u (Contains-append_right us (u ∷ vs) u (contains_here u vs)) refl, tt));
        },
        fine_weaker (Stands s (us ++ vs) ts) (Stands s (us ++ (u ∷ vs)) ts) (λ y k. inside us vs u y k) graph _ (property_stands us ts graph x kind properties h),
      )
    where
      wider : (us vs : List Use) (y : Sym) → Stands s us ts y → Stands s (us ++ vs) ts y
      wider us vs y (named w m is) = named w (Contains-append_left us vs w m) is
      wider us vs y (unnamed t m is) = unnamed t m is

      skip : (us vs : List Use) (u w : Use) → Contains (us ++ vs) w → Contains (us ++ (u ∷ vs)) w
      skip [] vs u w m = contains_later u vs w m
      skip (v ∷ us) vs u w m = ⊎_elim (λ e. (0, omega arith, e)) (λ k. contains_later v (us ++ (u ∷ vs)) w (skip us vs u w k)) (cons_cases v (us ++ vs) w m)

      inside : (us vs : List Use) (u : Use) (y : Sym) → Stands s (us ++ vs) ts y → Stands s (us ++ (u ∷ vs)) ts y
      inside us vs u y (named w m is) = named w (skip us vs u w m) is
      inside us vs u y (unnamed t m is) = unnamed t m is

  pub node_stands : (graph : ℕ) (e : Tree AnElement) → AllByRecursion (IsFine (Stands s (element_uses role.Node e) (element_tokens e)) graph) (node_atoms s graph e)
  node_stands graph (tree.Element token name labels properties) = (
    record { graph_is = refl; variables = (own role.Node token name (all_of property_uses properties), tt) },
    property_stands (use_if role.Node name) (unnamed_token token name) graph (variable_or s token name) kind.Node properties (alone role.Node token name),
  )
    where
      alone : (role : Role) (token : ℕ) (name : Option Named) → Stands s (use_if role name) (unnamed_token token name) (variable_or s token name)
      alone role token None = unnamed token (contains_here token []) refl
      alone role token (Some x) = named (use_at role x) (contains_here (use_at role x) []) refl

  pub edge_stands : (graph : ℕ) (P : Sym → Type 0) (x y : Sym) (way : Direction) (e : Tree AnElement) → P x → P y
      → ((z : Sym) → Stands s (element_uses role.Edge e) (element_tokens e) z → P z) → AllByRecursion (IsFine P graph) (edge_atoms s graph x y way e)
  edge_stands graph P x y way (tree.Element token name labels properties) px py f = (
    record { graph_is = refl; variables = (px, (f _ (own role.Edge token name (all_of property_uses properties)), (py, tt))) },
    fine_weaker _ P f graph _
        (property_stands (use_if role.Edge name) (unnamed_token token name) graph (variable_or s token name) kind.Edge properties (alone role.Edge token name)),
  )
    where
      alone : (role : Role) (token : ℕ) (name : Option Named) → Stands s (use_if role name) (unnamed_token token name) (variable_or s token name)
      alone role token None = unnamed token (contains_here token []) refl
      alone role token (Some x) = named (use_at role x) (contains_here (use_at role x) []) refl

  pub cost_stands : (P : Sym → Type 0) (cost : Option Named) → ((u : Use) → Contains (use_if role.Cost cost) u → P (variable_of s u.name)) → AllByRecursion P (listed (variable_if s cost))
  cost_stands P None f = tt
  cost_stands P (Some x) f = (f (use_at role.Cost x) (contains_here (use_at role.Cost x) []), tt)

  path_stands : (graph : ℕ) (P : Sym → Type 0) (x y : Sym) (body : Tree APathBody) → P x → P y → ((u : Use) → Contains (body_uses body) u → P (variable_of s u.name))
      → AllByRecursion (IsFine P graph) (path_atom s graph x y body ∷ [])
  path_stands graph P x y (tree.Reach regex views) px py f = (record { graph_is = refl; variables = (px, (py, tt)) }, tt)
  path_stands graph P x y (tree.Found k path regex views cost) px py f =
      let p = use_at role.Found path in (
        record {
          graph_is = refl;
          variables = (
            px,
            (
              f p (contains_here p (use_if role.Cost cost)),
              (
                py,
                cost_stands P cost (λ u m. f u (contains_later p (use_if role.Cost cost) u m)),
              ),
            ),
          );
        },
        tt,
      )
  path_stands graph P x y (tree.All path regex views) px py f =
      let p = use_at role.All path in (record { graph_is = refl; variables = (px, (f p (contains_here p []), (py, tt))) }, tt)
  path_stands graph P x y (tree.Stored path labels) px py f =
      let p = use_at role.Stored path in (record { graph_is = refl; variables = (px, (f p (contains_here p []), (py, tt))) }, tt)

  joined_stands : (graph : ℕ) (P : Sym → Type 0) (x y : Sym) (p : Tree APattern) → P x → P y → ((z : Sym) → Stands s (pattern_uses p) (pattern_tokens p) z → P z)
      → AllByRecursion (IsFine P graph) (joined_atoms s graph x y p)
  joined_stands graph P x y (tree.Node e) px py f = tt
  joined_stands graph P x y (tree.Edge way e) px py f = edge_stands graph P x y way e px py f
  joined_stands graph P x y (tree.Path token regex_at body) px py f = path_stands graph P x y body px py (λ u m. f (variable_of s u.name) (named u m refl))

  link_stands : (graph : ℕ) (P : Sym → Type 0) (left right : Option Sym) (p : Tree APattern) → ((x : Sym) → left ≡ Some x → P x) → ((y : Sym) → right ≡ Some y → P y)
      → ((z : Sym) → Stands s (pattern_uses p) (pattern_tokens p) z → P z) → AllByRecursion (IsFine P graph) (link_atoms s graph left right p)
  link_stands graph P (Some x) (Some y) p l r f = joined_stands graph P x y p (l x refl) (r y refl) f
  link_stands graph P (Some x) None p l r f = tt
  link_stands graph P None right p l r f = tt

  part_stands : (graph : ℕ) (P : Sym → Type 0) (left right : Option Sym) (p : Tree APattern) → ((x : Sym) → left ≡ Some x → P x) → ((y : Sym) → right ≡ Some y → P y)
      → ((z : Sym) → Stands s (pattern_uses p) (pattern_tokens p) z → P z) → AllByRecursion (IsFine P graph) (part_atoms s graph left right p)
  part_stands graph P left right (tree.Node e) l r f = fine_weaker _ P f graph _ (node_stands graph e)
  part_stands graph P left right (tree.Edge way e) l r f = link_stands graph P left right (tree.Edge way e) l r f
  part_stands graph P left right (tree.Path token regex_at body) l r f = link_stands graph P left right (tree.Path token regex_at body) l r f

  -- the variable of a node stands at its own place
  pub node_own : (p : Tree APattern) (x : Sym) → node_variable s p ≡ Some x → Stands s (pattern_uses p) (pattern_tokens p) x
  node_own (tree.Node (tree.Element token name labels properties)) x h = subst (Stands s _ _) (same_Some _ x h) (own role.Node token name (all_of property_uses properties))
  node_own (tree.Edge way e) x h = absurd (none-some x h)
  node_own (tree.Path token regex_at body) x h = absurd (none-some x h)

  next_own : (ps : Tree (RowOf APattern)) (x : Sym) → next_variable s ps ≡ Some x → Stands s (all_of pattern_uses ps) (all_of pattern_tokens ps) x
  next_own tree.none x h = absurd (none-some x h)
  next_own (tree.more p ps) x h = stands_left s (pattern_uses p) (all_of pattern_uses ps) (pattern_tokens p) (all_of pattern_tokens ps) x (node_own p x h)

  chain_stands : (graph : ℕ) (left : Option Sym) (ps : Tree (RowOf APattern))
      → AllByRecursion (IsFine (StandsBehind s (all_of pattern_uses ps) (all_of pattern_tokens ps) left) graph) (chain_atoms s graph left ps)
  chain_stands graph left tree.none = tt
  chain_stands graph left (tree.more p ps) =
      let us = pattern_uses p in
      let vs = all_of pattern_uses ps in
      let ts = pattern_tokens p in
      let ks = all_of pattern_tokens ps in
      AllByRecursion-append (IsFine (StandsBehind s (us ++ vs) (ts ++ ks) left) graph) (part_atoms s graph left (next_variable s ps) p) (chain_atoms s graph (node_variable s p) ps)
      (part_stands graph (StandsBehind s (us ++ vs) (ts ++ ks) left) left (next_variable s ps) p (λ x e. inr e) (λ y e. inl (stands_right s us vs ts ks y (next_own ps y e)))
      (λ z h. inl (stands_left s us vs ts ks z h)))
      (fine_weaker (StandsBehind s vs ks (node_variable s p)) (StandsBehind s (us ++ vs) (ts ++ ks) left)
      (λ x h. ⊎_elim (λ k. inl (stands_right s us vs ts ks x k)) (λ e. inl (stands_left s us vs ts ks x (node_own p x e))) h) graph _
      (chain_stands graph (node_variable s p) ps))

-- a place on the graph of its chain
pub record PlaceOn : Type 0 where
  pub graph : ℕ
  pub at_place : Use

abbrev pub place_on : ℕ → Use → PlaceOn
place_on graph u = record { graph = graph; at_place = u }

abbrev pub located_places : Scope → Tree ALocated → List PlaceOn
located_places s (tree.Located parts on) = map (place_on (graph_of s on)) (all_of pattern_uses parts)

-- a variable of an atom on a graph is that of a name at one of some places on this graph, or that of an element at one of some tokens
pub data StandsOn (s : Scope) (places : List PlaceOn) (tokens : List ℕ) (graph : ℕ) (x : Sym) : Type 0 where
  named_on : (u : Use) → Contains places (place_on graph u) → x ≡ variable_of s u.name → StandsOn s places tokens graph x
  unnamed_on : (t : ℕ) → Contains tokens t → x ≡ hidden s t → StandsOn s places tokens graph x

abbrev pub AtomStands : Scope → List PlaceOn → List ℕ → Atom → Type 0
AtomStands s places tokens a = AllByRecursion (StandsOn s places tokens a.graph) (variables_of a.what)

pub stands_wider : (s : Scope) (ps qs : List PlaceOn) (ts ks : List ℕ) → ((p : PlaceOn) → Contains ps p → Contains qs p) → ((t : ℕ) → Contains ts t → Contains ks t)
    → (atoms : List Atom) → AllByRecursion (AtomStands s ps ts) atoms → AllByRecursion (AtomStands s qs ks) atoms
stands_wider s ps qs ts ks f g atoms h =
    AllByRecursion-weaker (AtomStands s ps ts) (AtomStands s qs ks)
    (λ a k. AllByRecursion-weaker (StandsOn s ps ts a.graph) (StandsOn s qs ks a.graph) (λ x m. wider a.graph x m) (variables_of a.what) k) atoms h
  where
    wider : (graph : ℕ) (x : Sym) → StandsOn s ps ts graph x → StandsOn s qs ks graph x
    wider graph x (named_on u m is) = named_on u (f (place_on graph u) m) is
    wider graph x (unnamed_on t m is) = unnamed_on t (g t m) is

-- the atoms of chains stand at the places of these
pub atoms_stand : (s : Scope) (located : Tree (RowOf ALocated)) → AllByRecursion (AtomStands s (all_of (located_places s) located) (all_of located_tokens located)) (atoms_of s located)
atoms_stand s tree.none = tt
atoms_stand s (tree.more (tree.Located parts on) located) =
    let g = graph_of s on in
    let here = map (place_on g) (all_of pattern_uses parts) in
    let ts = all_of pattern_tokens parts in
    let later = all_of (located_places s) located in
    let ks = all_of located_tokens located in
    AllByRecursion-append (AtomStands s (here ++ later) (ts ++ ks)) (chain_atoms s g None parts) (atoms_of s located)
    (stands_wider s here (here ++ later) ts (ts ++ ks) (Contains-append_left here later) (Contains-append_left ts ks) _
    (AllByRecursion-weaker (IsFine (StandsBehind s (all_of pattern_uses parts) ts None) g) (AtomStands s here ts) (λ a f. fine g ts (all_of pattern_uses parts) a f) _ (chain_stands s g None parts)))
    (stands_wider s later (here ++ later) ks (ts ++ ks) (Contains-append_right here later) (Contains-append_right ts ks) _ (atoms_stand s located))
  where
    at : (g : ℕ) (ts : List ℕ) (us : List Use) (x : Sym) → StandsBehind s us ts None x → StandsOn s (map (place_on g) us) ts g x
    at g ts us x (inl (named u m is)) = named_on u (to_map (place_on g) us u m) is
    at g ts us x (inl (unnamed t m is)) = unnamed_on t m is
    at g ts us x (inr e) = absurd (none-some x e)

    fine : (g : ℕ) (ts : List ℕ) (us : List Use) (a : Atom) → IsFine (StandsBehind s us ts None) g a → AtomStands s (map (place_on g) us) ts a
    fine g ts us a f =
        subst (λ n. AllByRecursion (StandsOn s (map (place_on g) us) ts n) (variables_of a.what)) (sym f.graph_is)
        (AllByRecursion-weaker (StandsBehind s us ts None) (StandsOn s (map (place_on g) us) ts g) (at g ts us) (variables_of a.what) f.variables)
