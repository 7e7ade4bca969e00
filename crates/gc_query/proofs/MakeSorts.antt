-- In items that break no rule a variable has one kind, and a new edge one place.
use Rattle.std.proofs.Common.{◌≡◌, ⊎_elim, ℕ, Bool, true, false, List, [], ◌++◌, Option, Some, None, refl, sym, ap, ◌∙◌, subst, arith}
use Rattle.std.specs.List.{Contains}
use Rattle.std.specs.Option.{option_or}
use Rattle.std.proofs.lemmas.List.Elements.{Contains-append_left, Contains-append_right, Contains-append_cases}
use Rattle.std.proofs.lemmas.List.Folds.{find-append}
use Rattle.std.proofs.lemmas.Option.{same_Some}
use Rattle.gc_ast.specs.Names.{same_name}
use Rattle.gc_base.specs.declared.place.Sym.{Sym}
use Rattle.gc_ast.specs.Trees as tree
use Rattle.gc_ast.specs.Trees.{Tree, Named, RowOf, AnItem, AConstructPart, ANewElement}
use Rattle.gc_build_reading.specs.Places.{node_variable, next_variable}
use Rattle.gc_ppg.specs.declared.shape.Kind.{Kind}
use Rattle.gc_ppg.specs.declared.shape.Kind.TheVariants as kind
use Rattle.gc_rows.proofs.Members.{cons_cases, contains_here}
use Rattle.gc_sorts.specs.Breaches.{Breaches, both}
use Rattle.gc_sorts.specs.Constructs.{Making, given, item_breaches, item_made, item_stored, made_breaches, part_breaches, part_made, part_stored, second_edge}
use Rattle.gc_sorts.specs.Expressions.{misfit, name_breaches, role_form, unknown_if, use_form}
use Rattle.gc_sorts.specs.Graphs.{has_name}
use Rattle.gc_sorts.specs.Patterns.{each}
use Rattle.gc_sorts.specs.Uses.{all_of, use_at, use_if}
use Rattle.gc_sorts.specs.Variables.{Use, first_use}
use Rattle.gc_sorts.specs.declared.form.Form.{Form}
use Rattle.gc_sorts.specs.declared.form.Form.TheVariants as form
use Rattle.gc_sorts.specs.declared.form.Takes.TheVariants as takes
use Rattle.gc_sorts.specs.declared.sort.Role.{Role}
use Rattle.gc_sorts.specs.declared.sort.Role.TheVariants as role
use Rattle.gc_lower.specs.Scopes.{Scope}
use Rattle.gc_query.proofs.MakeSites.{IsElement, Site, chain_sites, is_edge, is_node, part_sites, sites_of}
use Rattle.gc_query.proofs.MatchSorts.{has_first}
use Rattle.gc_query.proofs.SearchedAtoms.{IsUnbroken}

-- what stands in a site, by its kind
abbrev pub kind_form : Kind → Form
kind_form kind.Node = form.Node
kind_form kind.Edge = form.Edge
kind_form kind.Path = form.Stored

abbrev pub kind_role : Kind → Role
kind_role kind.Node = role.Node
kind_role kind.Edge = role.Edge
kind_role kind.Path = role.Stored

-- a site whose name breaks no rule
pub record SiteFits (m : Making) (a : Site) : Type 0 where
  pub made : IsUnbroken (made_breaches m (kind_form a.kind) a.name)
  pub second : a.kind ≡ kind.Edge → IsUnbroken (second_edge m a.name)
  pub has : (x : Named) → a.name ≡ Some x → Contains m.made (use_at (kind_role a.kind) x)

-- a stored path whose name breaks no rule
pub record StoredFits (m : Making) (n : List ℕ) : Type 0 where
  pub token : ℕ
  pub fits : IsUnbroken (name_breaches (given m) takes.Walked n token)

module _ (s : Scope) (graphs : List (List ℕ)) (m : Making) where
  named_use : (r : Role) (name : Option Named) (x : Named) → name ≡ Some x → Contains (use_if r name) (use_at r x)
  named_use r name x h = subst (λ (o : Option Named). Contains (use_if r o) (use_at r x)) (sym h) (contains_here (use_at r x) [])

  part_fits : (left right : Option Sym) (p : Tree AConstructPart) → IsUnbroken (part_breaches m p) → ((u : Use) → Contains (part_made p) u → Contains m.made u)
      → (a : Site) → Contains (part_sites s left right p) a → SiteFits m a
  part_fits left right (tree.NewNode (tree.NewElement token name copy group labels assigns)) h f a k =
      ⊎_elim (λ e. subst (SiteFits m) e (record {
        made = h.0;
        second = λ n. absurd (cc n);
        has = λ x n. f (use_at role.Node x) (named_use role.Node name x n);
      })) (λ r. absurd (omega (arith, r.1))) (cons_cases _ [] a k)
  part_fits left right (tree.NewEdge way (tree.NewElement token name copy group labels assigns)) h f a k =
      ⊎_elim (λ e. subst (SiteFits m) e (record {
        made = h.1.0;
        second = λ n. h.0;
        has = λ x n. f (use_at role.Edge x) (named_use role.Edge name x n);
      })) (λ r. absurd (omega (arith, r.1))) (cons_cases _ [] a k)
  part_fits left right (tree.Projected token p) h f a k = absurd (omega (arith, k.1))
  part_fits left right (tree.NewStored token p labels assigns) h f a k = absurd (omega (arith, k.1))

  chain_fits : (left : Option Sym) (ps : Tree (RowOf AConstructPart)) → IsUnbroken (each (part_breaches m) ps) → ((u : Use) → Contains (all_of part_made ps) u → Contains m.made u)
      → (a : Site) → Contains (chain_sites s left ps) a → SiteFits m a
  chain_fits left tree.none h f a k = absurd (omega (arith, k.1))
  chain_fits left (tree.more p ps) h f a k =
      ⊎_elim
      (λ r. part_fits left (next_variable s ps) p h.0 (λ u i. f u (Contains-append_left (part_made p) (all_of part_made ps) u i)) a r)
      (λ r. chain_fits (node_variable s p) ps h.1 (λ u i. f u (Contains-append_right (part_made p) (all_of part_made ps) u i)) a r)
      (Contains-append_cases (part_sites s left (next_variable s ps) p) (chain_sites s (node_variable s p) ps) a k)

  pub items_fit : (items : Tree (RowOf AnItem)) → IsUnbroken (each (item_breaches graphs m) items) → ((u : Use) → Contains (all_of item_made items) u → Contains m.made u)
      → (a : Site) → Contains (sites_of s items) a → SiteFits m a
  items_fit tree.none h f a k = absurd (omega (arith, k.1))
  items_fit (tree.more (tree.GraphItem g) items) h f a k = items_fit items h.1 f a k
  items_fit (tree.more (tree.ChainItem parts changes condition) items) h f a k =
      ⊎_elim
      (λ r. chain_fits None parts h.0.0 (λ u i. f u (Contains-append_left (all_of part_made parts) (all_of item_made items) u i)) a r)
      (λ r. items_fit items h.1 (λ u i. f u (Contains-append_right (all_of part_made parts) (all_of item_made items) u i)) a r)
      (Contains-append_cases (chain_sites s None parts) (sites_of s items) a k)

  part_stores : (p : Tree AConstructPart) → IsUnbroken (part_breaches m p) → (n : List ℕ) → Contains (part_stored p) n → StoredFits m n
  part_stores (tree.NewNode e) h n k = absurd (omega (arith, k.1))
  part_stores (tree.NewEdge way e) h n k = absurd (omega (arith, k.1))
  part_stores (tree.Projected token p) h n k = absurd (omega (arith, k.1))
  part_stores (tree.NewStored token p labels assigns) h n k =
      ⊎_elim (λ e. subst (StoredFits m) e (record { token = p.token; fits = h.0 })) (λ r. absurd (omega (arith, r.1))) (cons_cases p.name [] n k)

  chain_stores : (ps : Tree (RowOf AConstructPart)) → IsUnbroken (each (part_breaches m) ps) → (n : List ℕ) → Contains (all_of part_stored ps) n → StoredFits m n
  chain_stores tree.none h n k = absurd (omega (arith, k.1))
  chain_stores (tree.more p ps) h n k = ⊎_elim (λ r. part_stores p h.0 n r) (λ r. chain_stores ps h.1 n r) (Contains-append_cases (part_stored p) (all_of part_stored ps) n k)

  pub items_store : (items : Tree (RowOf AnItem)) → IsUnbroken (each (item_breaches graphs m) items) → (n : List ℕ) → Contains (all_of item_stored items) n → StoredFits m n
  items_store tree.none h n k = absurd (omega (arith, k.1))
  items_store (tree.more (tree.GraphItem g) items) h n k = items_store items h.1 n k
  items_store (tree.more (tree.ChainItem parts changes condition) items) h n k =
      ⊎_elim (λ r. chain_stores parts h.0.0 n r) (λ r. items_store items h.1 n r) (Contains-append_cases (all_of part_stored parts) (all_of item_stored items) n k)

-- what fits a node's and an edge's place is a node and an edge
node_role : (b : Bool) (r : Role) (token : ℕ) → IsUnbroken (misfit (takes.Like form.Node) (role_form b r) token) → r ≡ role.Node
node_role b role.Node token h = refl
node_role b role.Edge token h = absurd h
node_role b role.Stored token h = absurd h
node_role true role.Found token h = absurd h
node_role false role.Found token h = absurd h
node_role b role.All token h = absurd h
node_role b role.Property token h = absurd h
node_role b role.Cost token h = absurd h

edge_role : (b : Bool) (r : Role) (token : ℕ) → IsUnbroken (misfit (takes.Like form.Edge) (role_form b r) token) → r ≡ role.Edge
edge_role b role.Edge token h = refl
edge_role b role.Node token h = absurd h
edge_role b role.Stored token h = absurd h
edge_role true role.Found token h = absurd h
edge_role false role.Found token h = absurd h
edge_role b role.All token h = absurd h
edge_role b role.Property token h = absurd h
edge_role b role.Cost token h = absurd h

-- and what fits a stored path's is a path
abbrev is_path_role : Role → Bool
is_path_role role.Stored = true
is_path_role role.Found = true
is_path_role other = false

path_role : (b : Bool) (r : Role) (token : ℕ) → IsUnbroken (misfit takes.Walked (role_form b r) token) → is_path_role r ≡ true
path_role b role.Stored token h = refl
path_role b role.Found token h = refl
path_role b role.Node token h = absurd h
path_role b role.Edge token h = absurd h
path_role b role.All token h = absurd h
path_role b role.Property token h = absurd h
path_role b role.Cost token h = absurd h

abbrev walked_breaches : Form → ℕ → Breaches
walked_breaches f token = both (unknown_if f token) (misfit takes.Walked f token)

module _ (m : Making) where
  -- the first place of the name of a site is of its kind
  pub site_role : (a : Site) → SiteFits m a → IsElement a.kind → (x : Named) → a.name ≡ Some x → (f : Use) × (first_use (m.matched ++ m.made) x.name ≡ Some f) × (f.role ≡ kind_role a.kind)
  site_role a fits element x named =
      let u = use_at (kind_role a.kind) x in
      let f = has_first (m.matched ++ m.made) u (Contains-append_right m.matched m.made u (fits.has x named)) in
      let misfits : IsUnbroken (misfit (takes.Like (kind_form a.kind)) (use_form (has_name m.stored x.name) (first_use (m.matched ++ m.made) x.name)) x.token) =
      subst (λ (o : Option Named). IsUnbroken (made_breaches m (kind_form a.kind) o)) named fits.made in
      let here : IsUnbroken (misfit (takes.Like (kind_form a.kind)) (role_form (has_name m.stored x.name) f.0.role) x.token) =
      subst (λ (o : Option Use). IsUnbroken (misfit (takes.Like (kind_form a.kind)) (use_form (has_name m.stored x.name) o) x.token)) f.1 misfits in
      (f.0, f.1, role_by a.kind element (has_name m.stored x.name) f.0.role x.token here)
    where
      role_by : (k : Kind) → IsElement k → (b : Bool) (r : Role) (token : ℕ) → IsUnbroken (misfit (takes.Like (kind_form k)) (role_form b r) token) → r ≡ kind_role k
      role_by kind.Node e b r token h = node_role b r token h
      role_by kind.Edge e b r token h = edge_role b r token h
      role_by kind.Path (is_node e) b r token h = absurd (cc e)
      role_by kind.Path (is_edge e) b r token h = absurd (cc e)

  -- the first place of a stored path's name is in the MATCH, and is a path's
  pub stored_role : (n : List ℕ) → StoredFits m n → (f : Use) × (first_use m.matched n ≡ Some f) × (is_path_role f.role ≡ true)
  stored_role n fits = by (first_use m.matched n) refl fits.fits
    where
      by : (o : Option Use) → first_use m.matched n ≡ o
          → IsUnbroken (walked_breaches (use_form (has_name [] n) o) fits.token) → (f : Use) × (first_use m.matched n ≡ Some f) × (is_path_role f.role ≡ true)
      by None is h = absurd h.0
      by (Some f) is h = (f, is, path_role (has_name [] n) f.role fits.token h.1)

  pub first_matched : (n : List ℕ) (f : Use) → first_use m.matched n ≡ Some f → first_use (m.matched ++ m.made) n ≡ Some f
  first_matched n f h = find-append (λ (u : Use). same_name n u.name) m.matched m.made ∙ ap (λ o. option_or o (first_use m.made n)) h

  -- so a name is not both
  pub not_stored : (a : Site) → SiteFits m a → IsElement a.kind → (x : Named) → a.name ≡ Some x → StoredFits m x.name → ⊥
  not_stored a fits element x named stored =
      let own = site_role a fits element x named in
      let path = stored_role x.name stored in
      let same : own.0 ≡ path.0 = same_Some own.0 path.0 (sym own.1 ∙ first_matched x.name path.0 path.1) in
      apart a.kind element path.0.role path.2 (ap (λ (u : Use). u.role) (sym same) ∙ own.2)
    where
      apart : (k : Kind) → IsElement k → (r : Role) → is_path_role r ≡ true → r ≡ kind_role k → ⊥
      apart kind.Node e r p is = absurd (cc (p, ap is_path_role is))
      apart kind.Edge e r p is = absurd (cc (p, ap is_path_role is))
      apart kind.Path (is_node e) r p is = absurd (cc e)
      apart kind.Path (is_edge e) r p is = absurd (cc e)
