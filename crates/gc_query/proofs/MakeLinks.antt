-- The edges of a CONSTRUCT that breaks no rule stand in their chains es the MATCH binds them, or between nodes of the chain.
use Rattle.std.proofs.Common.{◌≡◌, ◌⊎◌, inl, inr, ⊎_elim, ℕ, ◌==◌, ◌&&◌, ◌||◌, Bool, true, false, cond, not, List, [], ◌∷◌, ◌++◌, fold, Option, Some, None, refl, sym, ap, ◌∙◌, subst, arith}
use Rattle.std.specs.Prelude.{nat_eq}
use Rattle.std.specs.List.{AllByRecursion, Contains, list_any}
use Rattle.std.specs.Cmp.Lexicographic.{bytes_decides}
use Rattle.std.proofs.lemmas.Bool.{and_parts, eq-eqb, eqb-true}
use Rattle.std.proofs.lemmas.List.Elements.{Contains-append_left, Contains-append_right, Contains-append_cases}
use Rattle.std.proofs.lemmas.Option.{none-some, same_Some}
use Rattle.gc_base.specs.declared.place.Direction.{Direction}
use Rattle.gc_base.specs.declared.place.Direction.TheVariants.{Forward, Backward, Either}
use Rattle.gc_base.specs.declared.place.Sym.{Sym}
use Rattle.gc_alg.specs.Instances.{variables_of}
use Rattle.gc_alg.specs.Tables.{block_atoms}
use Rattle.gc_alg.specs.Trees as alg
use Rattle.gc_alg.specs.declared.atom.Atom.{Atom}
use Rattle.gc_alg.specs.declared.atom.AtomWhat.TheVariants as atom
use Rattle.gc_ast.specs.Names.{same_name}
use Rattle.gc_ast.specs.Trees as tree
use Rattle.gc_ast.specs.Trees.{Tree, Named, RowOf, ABlock, AnItem, AConstructPart}
use Rattle.gc_build.proofs.ClaimEnds.{any_member, member_any}
use Rattle.gc_build.proofs.WalksIn.{either_true}
use Rattle.gc_build.specs.Fitting.{IsNodePlace}
use Rattle.gc_build.specs.Linked.{AreLinked, HasPattern, IsBoundPlace, IsLinked}
use Rattle.gc_build_reading.specs.Items.{chain_of, item_chains, part_variables}
use Rattle.gc_build_reading.specs.Places.{chain_places, edge_places, ends_of, node_place, places_of}
use Rattle.gc_build_reading.specs.Variables.{Makings, all_terms, bound_grouping, first_places, grouping_of, is_of, new_grouping, of_kind, variable_at, variables_at, with_first}
use Rattle.gc_build_recipe.specs.Recipes.{Chain, Recipe}
use Rattle.gc_build_recipe.specs.declared.variable.Grouping.TheVariants as by
use Rattle.gc_build_recipe.specs.declared.variable.Term.{Term}
use Rattle.gc_build_recipe.specs.declared.variable.Variable.{Variable}
use Rattle.gc_ppg.specs.declared.shape.Kind.{Kind}
use Rattle.gc_ppg.specs.declared.shape.Kind.TheVariants as kind
use Rattle.gc_rows.proofs.Members.{cons_cases, contains_here, contains_later, from_filter, from_map, to_filter, to_flat_map, to_map}
use Rattle.gc_rows.specs.Rows.{lists}
use Rattle.gc_sorts.specs.Breaches.{broken_if}
use Rattle.gc_sorts.specs.Constructs.{Making, is_later, item_stored, part_stored, second_edge}
use Rattle.gc_sorts.specs.Links.{Link, bound_link, bracket, fits, is_either, loose_edge, loose_item, loose_parts, name_if, same_neighbour, same_way, turned}
use Rattle.gc_sorts.specs.Patterns.{each}
use Rattle.gc_sorts.specs.Uses.{all_of, use_at}
use Rattle.gc_sorts.specs.Variables.{Use, first_use, has_use, sort_of}
use Rattle.gc_sorts.specs.declared.breach.SortRule.TheVariants.{LooseEdge}
use Rattle.gc_sorts.specs.declared.sort.Role.TheVariants as role
use Rattle.gc_lower.specs.Scopes.{Scope, variable_of, variable_or}
use Rattle.gc_query.proofs.MakeSites.{Place, EdgeSite, IsElement, IsPart, IsPlaceOf, IsSite, Site, a_node, a_stored, an_edge, chain_part, chain_sites, edge_places_are, node_listed, node_placed, nodes_of, of_site, of_stored, place_of_items, site_is, site_variable, sites_of}
use Rattle.gc_query.proofs.MakeSorts.{SiteFits, StoredFits, first_matched, kind_role, not_stored, site_role}
use Rattle.gc_query.proofs.MatchLinks.{IsEdgePattern, IsPathName}
use Rattle.gc_query.proofs.MatchParts.{AreApart, MatchLink}
use Rattle.gc_query.proofs.MatchPlaces.{hidden}
use Rattle.gc_query.proofs.MatchSorts.{has_first}
use Rattle.gc_query.proofs.SearchedAtoms.{IsUnbroken, not_broken}

same_var : (x y : Sym) → (x.0 == y.0) ≡ true → x ≡ y
same_var x y t = let e : x.0 ≡ y.0 = eqb-true x.0 y.0 t in λ i. record { 0 = e i }

-- the places at which variables come first are among all, and each variable has one
with_there : (firsts : List Place) (p q : Place) → Contains (with_first firsts p) q → Contains firsts q ⊎ (p ≡ q)
with_there firsts p q m = by (list_any (λ f. f.var.0 == p.var.0) firsts) m
  where
    by : (b : Bool) → Contains (cond b firsts (firsts ++ p ∷ [])) q → Contains firsts q ⊎ (p ≡ q)
    by true k = inl k
    by false k = ⊎_elim inl (λ r. ⊎_elim inr (λ i. absurd (omega (arith, i.1))) (cons_cases p [] q r)) (Contains-append_cases firsts (p ∷ []) q k)

firsts_there : (firsts ps : List Place) (q : Place) → Contains (fold with_first firsts ps) q → Contains firsts q ⊎ Contains ps q
firsts_there firsts [] q m = inl m
firsts_there firsts (p ∷ ps) q m =
    ⊎_elim (λ k. ⊎_elim inl (λ e. inr (subst (Contains (p ∷ ps)) e (contains_here p ps))) (with_there firsts p q k)) (λ k. inr (contains_later p ps q k)) (firsts_there (with_first firsts p) ps q m)

record HasVar (ps : List Place) (x : Sym) : Type 0 where
  place : Place
  among : Contains ps place
  var : place.var ≡ x

with_keeps : (firsts : List Place) (p : Place) (x : Sym) → HasVar firsts x → HasVar (with_first firsts p) x
with_keeps firsts p x h = by (list_any (λ f. f.var.0 == p.var.0) firsts)
  where
    by : (b : Bool) → HasVar (cond b firsts (firsts ++ p ∷ [])) x
    by true = h
    by false = record { place = h.place; among = Contains-append_left firsts (p ∷ []) h.place h.among; var = h.var }

firsts_keep : (firsts ps : List Place) (x : Sym) → HasVar firsts x → HasVar (fold with_first firsts ps) x
firsts_keep firsts [] x h = h
firsts_keep firsts (p ∷ ps) x h = firsts_keep (with_first firsts p) ps x (with_keeps firsts p x h)

with_has : (firsts : List Place) (p : Place) → HasVar (with_first firsts p) p.var
with_has firsts p = by (list_any (λ f. f.var.0 == p.var.0) firsts) refl
  where
    by : (b : Bool) → list_any (λ f. f.var.0 == p.var.0) firsts ≡ b → HasVar (cond b firsts (firsts ++ p ∷ [])) p.var
    by true is = let any = any_member (λ (f : Place). f.var.0 == p.var.0) firsts is in record { place = any.0; among = any.1; var = same_var any.0.var p.var any.2 }
    by false is = record { place = p; among = Contains-append_right firsts (p ∷ []) p (contains_here p []); var = refl }

firsts_have : (firsts ps : List Place) (q : Place) → Contains ps q → HasVar (fold with_first firsts ps) q.var
firsts_have firsts [] q m = absurd (omega (arith, m.1))
firsts_have firsts (p ∷ ps) q m =
    ⊎_elim (λ e. firsts_keep (with_first firsts p) ps q.var (subst (λ (r : Place). HasVar (with_first firsts p) r.var) e (with_has firsts p))) (λ k. firsts_have (with_first firsts p) ps q k) (cons_cases p ps q m)

kind_itself : (k : Kind) → is_of k k ≡ true
kind_itself kind.Node = refl
kind_itself kind.Edge = refl
kind_itself kind.Path = refl

-- the variables of a recipe are those of its places
module _ (m : Makings) (places : List Place) where
  abbrev firsts : List Place
  firsts = first_places places

  abbrev variables : List Variable
  variables = variables_at m firsts

  by_kind : (q : Place) → Contains (of_kind kind.Node firsts ++ of_kind kind.Edge firsts ++ of_kind kind.Path firsts) q → Contains firsts q
  by_kind q h =
      ⊎_elim
      (λ k. ⊎_elim (λ r. (from_filter (λ (p : Place). is_of kind.Node p.kind) firsts q r).0) (λ r. (from_filter (λ (p : Place). is_of kind.Edge p.kind) firsts q r).0)
      (Contains-append_cases (of_kind kind.Node firsts) (of_kind kind.Edge firsts) q k))
      (λ k. (from_filter (λ (p : Place). is_of kind.Path p.kind) firsts q k).0)
      (Contains-append_cases (of_kind kind.Node firsts ++ of_kind kind.Edge firsts) (of_kind kind.Path firsts) q h)

  to_kind : (q : Place) → Contains firsts q → Contains (of_kind kind.Node firsts ++ of_kind kind.Edge firsts ++ of_kind kind.Path firsts) q
  to_kind q h = at q.kind refl
    where
      there : (k : Kind) → q.kind ≡ k → Contains (of_kind k firsts) q
      there k is = to_filter (λ (p : Place). is_of k p.kind) firsts q h (ap (is_of k) is ∙ kind_itself k)

      at : (k : Kind) → q.kind ≡ k → Contains (of_kind kind.Node firsts ++ of_kind kind.Edge firsts ++ of_kind kind.Path firsts) q
      at kind.Node is = Contains-append_left (of_kind kind.Node firsts ++ of_kind kind.Edge firsts) (of_kind kind.Path firsts) q (Contains-append_left (of_kind kind.Node firsts) (of_kind kind.Edge firsts) q (there kind.Node is))
      at kind.Edge is = Contains-append_left (of_kind kind.Node firsts ++ of_kind kind.Edge firsts) (of_kind kind.Path firsts) q (Contains-append_right (of_kind kind.Node firsts) (of_kind kind.Edge firsts) q (there kind.Edge is))
      at kind.Path is = Contains-append_right (of_kind kind.Node firsts ++ of_kind kind.Edge firsts) (of_kind kind.Path firsts) q (there kind.Path is)

  variable_place : (v : Variable) → Contains variables v → (q : Place) × Contains places q × (v ≡ variable_at m q)
  variable_place v h =
      let from = from_map (variable_at m) (of_kind kind.Node firsts ++ of_kind kind.Edge firsts ++ of_kind kind.Path firsts) v h in
      (from.0, ⊎_elim (λ k. absurd (omega (arith, k.1))) (λ k. k) (firsts_there [] places from.0 (by_kind from.0 from.1)), from.2)

  place_variable : (q : Place) → Contains places q → (p : Place) × Contains places p × (p.var ≡ q.var) × Contains variables (variable_at m p)
  place_variable q h =
      let has = firsts_have [] places q h in (
        has.place,
        ⊎_elim (λ k. absurd (omega (arith, k.1))) (λ k. k) (firsts_there [] places has.place has.among),
        has.var,
        to_map (variable_at m) (of_kind kind.Node firsts ++ of_kind kind.Edge firsts ++ of_kind kind.Path firsts) has.place (to_kind has.place has.among),
      )

-- what is known of a MATCH that breaks no rule: its places of a name have one sort; its links are patterns of its block; what its
-- patterns have is bound; and a name whose variable is found has its first place in a found path pattern
pub record IsKnown (s : Scope) (matched : List Use) (links : List Link) (block : alg.Tree alg.ABlock) (mk : Makings) (names : List (List ℕ)) : Type 0 where
  pub sorts : (u : Use) → Contains matched u → (f : Use) → first_use matched u.name ≡ Some f → sort_of f.role ≡ sort_of u.role
  pub patterns : (l : Link) → Contains links l → Contains names l.name → (x y : List ℕ) → l.left ≡ Some x → l.right ≡ Some y → MatchLink s (alg.items (alg.parts_of block)) matched l x y
  pub bound : (a : Atom) → Contains (block_atoms block) a → (z : Sym) → Contains (variables_of a.what) z → mk.is_bound z ≡ true
  pub found : (n : List ℕ) → Contains names n → mk.is_found (variable_of s n) ≡ true → (f : Use) × (first_use matched n ≡ Some f) × (f.role ≡ role.Found)

-- two neighbours of one name
neighbours : (a b : Option (List ℕ)) → same_neighbour a b ≡ true → (n : List ℕ) × (a ≡ Some n) × (b ≡ Some n)
neighbours None b h = absurd (cc h)
neighbours (Some a) None h = absurd (cc h)
neighbours (Some a) (Some b) h = (a, refl, ap Some (sym ((bytes_decides a b).0 h)))

-- a link that fits another has its name and its neighbours, on the same sides or turned
record FitsSo (a b : Link) : Type 0 where
  same : a.name ≡ b.name
  left : List ℕ
  right : List ℕ
  left_is : a.left ≡ Some left
  right_is : a.right ≡ Some right
  other : ((b.left ≡ Some left) × (b.right ≡ Some right)) ⊎ ((b.left ≡ Some right) × (b.right ≡ Some left))

fits_so : (a b : Link) → fits a b ≡ true → FitsSo a b
fits_so a b h =
    let straight : Bool = same_neighbour a.left b.left && (same_neighbour a.right b.right && same_way a.way b.way) in
    let crossed : Bool = same_neighbour a.left b.right && (same_neighbour a.right b.left && same_way a.way (turned b.way)) in
    let both = and_parts (same_name a.name b.name) (straight || crossed) h in
    let same : a.name ≡ b.name = (bytes_decides a.name b.name).0 both.0 in
    ⊎_elim
    (λ k.
    let p = and_parts (same_neighbour a.left b.left) (same_neighbour a.right b.right && same_way a.way b.way) k in
    let q = and_parts (same_neighbour a.right b.right) (same_way a.way b.way) p.1 in
    let l = neighbours a.left b.left p.0 in
    let r = neighbours a.right b.right q.0 in
    record { same = same; left = l.0; right = r.0; left_is = l.1; right_is = r.1; other = inl (l.2, r.2) })
    (λ k.
    let p = and_parts (same_neighbour a.left b.right) (same_neighbour a.right b.left && same_way a.way (turned b.way)) k in
    let q = and_parts (same_neighbour a.right b.left) (same_way a.way (turned b.way)) p.1 in
    let l = neighbours a.left b.right p.0 in
    let r = neighbours a.right b.left q.0 in
    record { same = same; left = l.0; right = r.0; left_is = l.1; right_is = r.1; other = inr (r.2, l.2) })
    (either_true straight crossed both.1)

module _ (s : Scope) (items : Tree (RowOf AnItem)) (m : Making) (links : List Link) (block : alg.Tree alg.ABlock) (mk : Makings) (names : List (List ℕ)) (tokens : List ℕ) (apart : AreApart s names tokens)
    (fit : (a : Site) → Contains (sites_of s items) a → SiteFits m a) (store : (n : List ℕ) → Contains (all_of item_stored items) n → StoredFits m n)
    (site_names : (a : Site) → Contains (sites_of s items) a → (x : Named) → a.name ≡ Some x → Contains names x.name)
    (site_tokens : (a : Site) → Contains (sites_of s items) a → a.name ≡ None → Contains tokens a.token) (stored_names : (n : List ℕ) → Contains (all_of item_stored items) n → Contains names n)
    (one_site : (a b : Site) → Contains (sites_of s items) a → Contains (sites_of s items) b → a.token ≡ b.token → a ≡ b)
    (one_name : (a b : Site) → Contains (sites_of s items) a → Contains (sites_of s items) b → (x y : Named) → a.name ≡ Some x → b.name ≡ Some y → x.token ≡ y.token → a ≡ b)
    (known : IsKnown s m.matched links block mk names)
    (bound_name : (a : Site) → Contains (sites_of s items) a → mk.is_bound (site_variable s a) ≡ true → (x : Named) × (a.name ≡ Some x) × (has_use m.matched x.name ≡ true)) where
  abbrev sites : List Site
  sites = sites_of s items

  abbrev stored : List (List ℕ)
  stored = all_of item_stored items

  abbrev places : List Place
  places = places_of s items

  abbrev r : Recipe
  r = record {
    variables = variables_at mk (first_places places);
    labels = [];
    assignments = [];
    lost_labels = [];
    lost_properties = [];
    chains = [];
    graphs = [];
  }

  is_site : (a : Site) → Contains sites a → IsSite s a
  is_site a k = site_is s items a k

  -- the variable of a site is that of its name, or a hidden one
  var_named : (a : Site) (x : Named) → a.name ≡ Some x → site_variable s a ≡ variable_of s x.name
  var_named a x h = ap (variable_or s a.token) h

  var_unnamed : (a : Site) → a.name ≡ None → site_variable s a ≡ hidden s a.token
  var_unnamed a h = ap (variable_or s a.token) h

  -- sites of one variable are one, or have one name
  record OneName (a b : Site) : Type 0 where
    x : Named
    y : Named
    first : a.name ≡ Some x
    second : b.name ≡ Some y
    same : x.name ≡ y.name

  one_key : (a b : Site) → Contains sites a → Contains sites b → site_variable s a ≡ site_variable s b → (a ≡ b) ⊎ OneName a b
  one_key a b k l h = by a.name b.name refl refl
    where
      by : (o p : Option Named) → a.name ≡ o → b.name ≡ p → (a ≡ b) ⊎ OneName a b
      by None None e f = inl (one_site a b k l (apart.tokens_apart a.token b.token (site_tokens a k e) (site_tokens b l f) (sym (var_unnamed a e) ∙ h ∙ var_unnamed b f)))
      by None (Some y) e f = absurd (apart.mixed_apart y.name a.token (site_names b l y f) (site_tokens a k e) (sym (var_named b y f) ∙ sym h ∙ var_unnamed a e))
      by (Some x) None e f = absurd (apart.mixed_apart x.name b.token (site_names a k x e) (site_tokens b l f) (sym (var_named a x e) ∙ h ∙ var_unnamed b f))
      by (Some x) (Some y) e f = inr (record { x = x; y = y; first = e; second = f; same = apart.names_apart x.name y.name (site_names a k x e) (site_names b l y f) (sym (var_named a x e) ∙ h ∙ var_named b y f) })

  -- no site has the variable of a stored path
  not_path : (a : Site) → Contains sites a → (n : List ℕ) → Contains stored n → site_variable s a ≡ variable_of s n → ⊥
  not_path a k n l h = by a.name refl
    where
      by : (o : Option Named) → a.name ≡ o → ⊥
      by None e = apart.mixed_apart n a.token (stored_names n l) (site_tokens a k e) (sym h ∙ var_unnamed a e)
      by (Some x) e =
          let same : x.name ≡ n = apart.names_apart x.name n (site_names a k x e) (stored_names n l) (sym (var_named a x e) ∙ h) in
          not_stored m a (fit a k) (is_site a k).element x e (subst (StoredFits m) (sym same) (store n l))

  kind_by_role : (k l : Kind) → IsElement k → IsElement l → kind_role k ≡ kind_role l → k ≡ l
  kind_by_role kind.Node kind.Node e f h = refl
  kind_by_role kind.Edge kind.Edge e f h = refl
  kind_by_role kind.Path kind.Path e f h = refl
  kind_by_role kind.Node kind.Edge e f h = absurd (cc h)
  kind_by_role kind.Node kind.Path e f h = absurd (cc h)
  kind_by_role kind.Edge kind.Node e f h = absurd (cc h)
  kind_by_role kind.Edge kind.Path e f h = absurd (cc h)
  kind_by_role kind.Path kind.Node e f h = absurd (cc h)
  kind_by_role kind.Path kind.Edge e f h = absurd (cc h)

  sites_agree : (a b : Site) → Contains sites a → Contains sites b → site_variable s a ≡ site_variable s b → a.kind ≡ b.kind
  sites_agree a b k l h =
      ⊎_elim (λ e. ap (λ (c : Site). c.kind) e)
      (λ (o : OneName a b).
      let f = site_role m a (fit a k) (is_site a k).element o.x o.first in
      let g = site_role m b (fit b l) (is_site b l).element o.y o.second in
      let same : f.0 ≡ g.0 = same_Some f.0 g.0 (sym f.1 ∙ (ap (first_use (m.matched ++ m.made)) o.same ∙ g.1)) in
      kind_by_role a.kind b.kind (is_site a k).element (is_site b l).element (sym f.2 ∙ (ap (λ (u : Use). u.role) same ∙ g.2)))
      (one_key a b k l h)

  -- a place of an edge is that of a site
  edge_site : (q : Place) → Contains places q → q.kind ≡ kind.Edge → (a : Site) × Contains sites a × Contains a.places q × (q.var ≡ site_variable s a) × (a.kind ≡ kind.Edge)
  edge_site q k h = by (place_of_items s items q k)
    where
      by : IsPlaceOf s sites stored q → (a : Site) × Contains sites a × Contains a.places q × (q.var ≡ site_variable s a) × (a.kind ≡ kind.Edge)
      by (of_site a l n) = let is = (is_site a l).kinds q n in (a, l, n, is.1, sym is.0 ∙ h)
      by (of_stored n l is) = absurd (cc (sym (ap (λ (p : Place). p.kind) is) ∙ h))

  -- a place with the variable of a node's site is a node's
  node_kind : (q : Place) → Contains places q → (p : Place) → Contains places p → p.kind ≡ kind.Node → q.var ≡ p.var → q.kind ≡ kind.Node
  node_kind q k p l h same = by (place_of_items s items p l) (place_of_items s items q k)
    where
      by : IsPlaceOf s sites stored p → IsPlaceOf s sites stored q → q.kind ≡ kind.Node
      by (of_stored n j is) other = absurd (cc (sym (ap (λ (z : Place). z.kind) is) ∙ h))
      by (of_site b j n) (of_site a i o) =
          let one = (is_site a i).kinds q o in
          let two = (is_site b j).kinds p n in
          one.0 ∙ (sites_agree a b i j (sym one.1 ∙ (same ∙ two.1)) ∙ (sym two.0 ∙ h))
      by (of_site b j n) (of_stored o i is) =
          absurd (not_path b j o i (sym ((is_site b j).kinds p n).1 ∙ (sym same ∙ ap (λ (z : Place). z.var) is)))

  -- a name that has a node's site, and a place in the MATCH, is that of a node there
  not_found : (a : Site) → Contains sites a → a.kind ≡ kind.Node → mk.is_bound (site_variable s a) ≡ true → mk.is_found (site_variable s a) ≡ false
  not_found a k node bound = by (mk.is_found (site_variable s a)) refl
    where
      walk : (x : Named) → a.name ≡ Some x → mk.is_found (site_variable s a) ≡ true → ⊥
      walk x e is =
          let f = known.found x.name (site_names a k x e) (ap mk.is_found (sym (var_named a x e)) ∙ is) in
          let own = site_role m a (fit a k) (is_site a k).element x e in
          let one : own.0 ≡ f.0 = same_Some own.0 f.0 (sym own.1 ∙ first_matched m x.name f.0 f.1) in
          let at : f.0.role ≡ role.Node = ap (λ (u : Use). u.role) (sym one) ∙ (own.2 ∙ ap kind_role node) in
          cc (sym at ∙ f.2)

      by : (b : Bool) → mk.is_found (site_variable s a) ≡ b → b ≡ false
      by false is = refl
      by true is = let x = bound_name a k bound in absurd (walk x.0 x.1 is)

  module _ (parts : Tree (RowOf AConstructPart)) (chain : Chain) (here : chain.places ≡ all_of (part_variables s) parts) (recipe : Recipe) (variables : recipe.variables ≡ r.variables)
      (part_sites : (a : Site) → Contains (chain_sites s None parts) a → Contains sites a) (part_places : (q : Place) → Contains (chain_places s None parts) q → Contains places q)
      (part_stores : (n : List ℕ) → Contains (all_of part_stored parts) n → Contains stored n) (fits_here : IsUnbroken (loose_parts m.matched links None parts)) where
    abbrev IsChainNode : Sym → Type 0
    IsChainNode x = Contains (nodes_of s parts) x

    listed_there : (x : Sym) → Contains (all_of (part_variables s) parts) x → lists chain.places x ≡ true
    listed_there x k = subst (λ (xs : List Sym). lists xs x ≡ true) (sym here) (member_any (λ (y : Sym). y.0 == x.0) (all_of (part_variables s) parts) x k (eq-eqb x.0 x.0 refl))

    -- a node of the chain is a variable of nodes
    record NodeVariable (x : Sym) : Type 0 where
      place : Place
      among : Contains places place
      var : place.var ≡ x
      kind_is : place.kind ≡ kind.Node
      variable : Contains recipe.variables (variable_at mk place)
      listed : lists chain.places x ≡ true

    node_variable : (x : Sym) → IsChainNode x → NodeVariable x
    node_variable x k =
        let q = node_place x in
        let there = part_places q (node_placed s None parts x k) in
        let v = place_variable mk places q there in
        record {
          place = v.0;
          among = v.1;
          var = v.2;
          kind_is = node_kind v.0 v.1 q there refl v.2;
          variable = subst (λ (vs : List Variable). Contains vs (variable_at mk v.0)) (sym variables) v.3;
          listed = listed_there x (node_listed s parts x k);
        }

    node_place_is : (x : Sym) → IsChainNode x → IsNodePlace recipe chain x
    node_place_is x k =
        let v = node_variable x k in
        record { variable = variable_at mk v.place; among = v.variable; is = v.var; kind = v.kind_is; place = v.listed }

    bound_place_is : (x : Sym) → IsChainNode x → mk.is_bound x ≡ true → IsBoundPlace recipe chain x
    bound_place_is x k h =
        let v = node_variable x k in
        record {
          variable = variable_at mk v.place;
          among = v.variable;
          is = v.var;
          kind = v.kind_is;
          bound = bound_at v.place v.among v.kind_is (ap mk.is_bound v.var ∙ h);
          place = v.listed;
        }
      where
        bound_at : (q : Place) → Contains places q → q.kind ≡ kind.Node → mk.is_bound q.var ≡ true → grouping_of mk q ≡ by.Bound
        bound_at q l node b =
            ap (λ t. cond t (bound_grouping (mk.is_found q.var)) (new_grouping q.ends (all_terms mk q.var))) b ∙ ap bound_grouping (found_at (place_of_items s items q l))
          where
            found_at : IsPlaceOf s sites stored q → mk.is_found q.var ≡ false
            found_at (of_site a i o) = let is = (is_site a i).kinds q o in ap mk.is_found is.1 ∙ not_found a i (sym is.0 ∙ node) (ap mk.is_bound (sym is.1) ∙ b)
            found_at (of_stored n i is) = absurd (cc (sym (ap (λ (z : Place). z.kind) is) ∙ node))

    -- the pattern that an edge of the chain is, whose name the MATCH has
    record FoundPattern (a : Site) : Type 0 where
      link : Link
      left : List ℕ
      right : List ℕ
      match : MatchLink s (alg.items (alg.parts_of block)) m.matched link left right
      pattern : IsEdgePattern s (alg.atoms_of match.part) link left right
      var : site_variable s a ≡ variable_of s link.name
      left_node : IsChainNode (variable_of s left)
      right_node : IsChainNode (variable_of s right)

    pattern_bound : (a : Site) (p : FoundPattern a) (z : Sym)
        → Contains (variables_of (atom.Edge (variable_of s p.left) (variable_of s p.link.name) (variable_of s p.right) p.link.way p.pattern.labels)) z → mk.is_bound z ≡ true
    pattern_bound a p z k =
        let at : Atom = record { graph = p.pattern.graph; what = atom.Edge (variable_of s p.left) (variable_of s p.link.name) (variable_of s p.right) p.link.way p.pattern.labels } in
        known.bound at (to_flat_map alg.atoms_of (alg.items (alg.parts_of block)) p.match.part at p.match.among p.pattern.pattern) z k

    not_false : (b : Bool) → not b ≡ false → b ≡ true
    not_false true q = refl
    not_false false q = absurd (cc q)

    found_pattern : (a : Site) → Contains sites a → a.kind ≡ kind.Edge → EdgeSite s m.matched links IsChainNode a → (x : Named) → a.name ≡ Some x → has_use m.matched x.name ≡ true → FoundPattern a
    found_pattern a k edge e x named used =
        let loose : IsUnbroken (loose_edge m.matched links e.left_name e.right_name e.way (bracket e.way a.token) (Some x.name)) =
        subst (λ (o : Option Named). IsUnbroken (loose_edge m.matched links e.left_name e.right_name e.way (bracket e.way a.token) (name_if o))) named e.fits in
        let link : Link = record { name = x.name; left = e.left_name; right = e.right_name; way = e.way } in
        let bound : IsUnbroken (bound_link links link (bracket e.way a.token)) =
        subst (λ t. IsUnbroken (cond t (bound_link links link (bracket e.way a.token)) (broken_if (is_either e.way) LooseEdge (bracket e.way a.token)))) used loose in
        let any = any_member (fits link) links (not_false (list_any (fits link) links) (not_broken (not (list_any (fits link) links)) _ (bracket e.way a.token) bound)) in
        let fit_so = fits_so link any.0 any.2 in
        let left_node = e.left_node (variable_of s fit_so.left) (e.left_named fit_so.left fit_so.left_is) in
        let right_node = e.right_node (variable_of s fit_so.right) (e.right_named fit_so.right fit_so.right_is) in
        ⊎_elim
        (λ o. at any.0 any.1 fit_so.same fit_so.left fit_so.right o.0 o.1 left_node right_node)
        (λ o. at any.0 any.1 fit_so.same fit_so.right fit_so.left o.0 o.1 right_node left_node)
        fit_so.other
      where
        no_path : (l : Link) → x.name ≡ l.name → IsPathName m.matched l → ⊥
        no_path l same p =
            let f = has_first m.matched p.at_place p.among in
            let own = site_role m a (fit a k) (is_site a k).element x named in
            let one : own.0 ≡ f.0 = same_Some own.0 f.0 (sym own.1 ∙ (ap (first_use (m.matched ++ m.made)) (same ∙ sym p.name) ∙ first_matched m p.at_place.name f.0 f.1)) in
            let is : f.0.role ≡ role.Edge = ap (λ (u : Use). u.role) (sym one) ∙ (own.2 ∙ ap kind_role edge) in
            p.walked (sym (known.sorts p.at_place p.among f.0 f.1) ∙ ap sort_of is)

        at : (l : Link) → Contains links l → x.name ≡ l.name → (left right : List ℕ) → l.left ≡ Some left → l.right ≡ Some right
            → IsChainNode (variable_of s left) → IsChainNode (variable_of s right) → FoundPattern a
        at l among same left right is_left is_right left_node right_node =
            let match = known.patterns l among (subst (Contains names) same (site_names a k x named)) left right is_left is_right in
            ⊎_elim
            (λ p. record {
              link = l;
              left = left;
              right = right;
              match = match;
              pattern = p;
              var = var_named a x named ∙ ap (variable_of s) same;
              left_node = left_node;
              right_node = right_node;
            })
            (λ p. absurd (no_path l same p))
            match.by

    -- an edge that the MATCH binds
    bound_edge : (a : Site) → Contains sites a → a.kind ≡ kind.Edge → EdgeSite s m.matched links IsChainNode a → mk.is_bound (site_variable s a) ≡ true
        → HasPattern block recipe chain (site_variable s a)
    bound_edge a k edge e h =
        let x = bound_name a k h in
        let p = found_pattern a k edge e x.0 x.1 x.2 in
        subst (HasPattern block recipe chain) (sym p.var) (record {
          part = p.match.part;
          among = p.match.among;
          own = p.match.own;
          graph = p.pattern.graph;
          left = variable_of s p.left;
          right = variable_of s p.right;
          way = p.link.way;
          labels = p.pattern.labels;
          pattern = p.pattern.pattern;
          left_place = bound_place_is (variable_of s p.left) p.left_node (pattern_bound a p (variable_of s p.left) (contains_here (variable_of s p.left) (variable_of s p.link.name ∷ variable_of s p.right ∷ [])));
          right_place = bound_place_is (variable_of s p.right) p.right_node
              (pattern_bound a p (variable_of s p.right) (contains_later (variable_of s p.left) (variable_of s p.link.name ∷ variable_of s p.right ∷ []) (variable_of s p.right)
              (contains_later (variable_of s p.link.name) (variable_of s p.right ∷ []) (variable_of s p.right) (contains_here (variable_of s p.right) []))));
        })

    -- a new edge
    new_edge : (a : Site) → Contains sites a → a.kind ≡ kind.Edge → EdgeSite s m.matched links IsChainNode a → (b : Site) → Contains sites b → b.kind ≡ kind.Edge → site_variable s b ≡ site_variable s a
        → mk.is_bound (site_variable s a) ≡ false → (q : Place) → Contains b.places q → (terms : List Term) → IsLinked block recipe chain q.var (new_grouping q.ends terms)
    new_edge a k edge e b l edge_b same free q there terms =
        let one : b ≡ a = same_site in
        let in_a : Contains (edge_places s e.left e.right e.way e.element) q = subst (λ (ps : List Place). Contains ps q) e.places (subst (λ (c : Site). Contains c.places q) one there) in
        let at = edge_places_are s e.left e.right e.way e.element q in_a in
        subst (λ (p : Place). IsLinked block recipe chain p.var (new_grouping p.ends terms)) (sym at.4)
        (ends_nodes e.way at.0 at.1 (node_place_is at.0 (e.left_node at.0 at.2)) (node_place_is at.1 (e.right_node at.1 at.3)))
      where
        ends_nodes : (way : Direction) (x y : Sym) → IsNodePlace recipe chain x → IsNodePlace recipe chain y → IsNodePlace recipe chain (ends_of way x y).source × IsNodePlace recipe chain (ends_of way x y).target
        ends_nodes Forward x y h j = (h, j)
        ends_nodes Backward x y h j = (j, h)
        ends_nodes Either x y h j = (h, j)

        -- a name that the MATCH has is bound, where its link is a pattern
        no_use : (x : Named) → a.name ≡ Some x → has_use m.matched x.name ≡ false
        no_use x n = by (has_use m.matched x.name) refl
          where
            by : (t : Bool) → has_use m.matched x.name ≡ t → t ≡ false
            by false is = refl
            by true is =
                let p = found_pattern a k edge e x n is in
                absurd (cc (
                  free,
                  ap mk.is_bound p.var ∙ pattern_bound a p (variable_of s p.link.name) (contains_later (variable_of s p.left) (variable_of s p.link.name ∷ variable_of s p.right ∷ []) (variable_of s p.link.name)
                      (contains_here (variable_of s p.link.name) (variable_of s p.right ∷ []))),
                ))

        later_not : (c : Site) → Contains sites c → c.kind ≡ kind.Edge → (x : Named) → c.name ≡ Some x → has_use m.matched x.name ≡ false → (f : Use) → first_use m.made x.name ≡ Some f → f.token ≡ x.token
        later_not c i is x n fresh f first =
            let second : IsUnbroken (second_edge m (Some x)) = subst (λ (o : Option Named). IsUnbroken (second_edge m o)) n ((fit c i).second is) in
            let late = not_broken (not (has_use m.matched x.name) && is_later (first_use m.made x.name) x.token) _ x.token second in
            let later : is_later (Some f) x.token ≡ false = ap (λ (o : Option Use). is_later o x.token) (sym first) ∙ (ap (λ t. not t && is_later (first_use m.made x.name) x.token) (sym fresh) ∙ late) in
            eqb-true f.token x.token (not_not (nat_eq f.token x.token) later)
          where
            not_not : (t : Bool) → not t ≡ false → t ≡ true
            not_not true j = refl
            not_not false j = absurd (cc j)

        same_site : b ≡ a
        same_site =
            ⊎_elim (λ i. i)
            (λ (o : OneName b a).
            let fresh = no_use o.y o.second in
            let f = has_first m.made (use_at (kind_role a.kind) o.y) ((fit a k).has o.y o.second) in
            let first = later_not a k edge o.y o.second fresh f.0 f.1 in
            let other = later_not b l edge_b o.x o.first (ap (has_use m.matched) o.same ∙ fresh) f.0 (ap (first_use m.made) o.same ∙ f.1) in
            one_name b a l k o.x o.y o.first o.second (sym other ∙ first))
            (one_key b a l k same)

    -- each edge of the chain
    linked_at : (v : Variable) (q : Place) → Contains places q → v ≡ variable_at mk q → v.kind ≡ kind.Edge → (y : Sym) → y ≡ v.var → IsPart s m.matched links IsChainNode (chain_sites s None parts) (all_of part_stored parts) y
        → IsLinked block recipe chain v.var v.grouping
    linked_at v q k is edge y same part =
        let var : y ≡ q.var = same ∙ ap (λ (w : Variable). w.var) is in
        let at = edge_site q k (sym (ap (λ (w : Variable). w.kind) is) ∙ edge) in
        subst (λ (w : Variable). IsLinked block recipe chain w.var w.grouping) (sym is) (by at.0 at.1 at.2 at.3 at.4 part var)
      where
        cases : (a : Site) → Contains sites a → a.kind ≡ kind.Edge → EdgeSite s m.matched links IsChainNode a → (b : Site) → Contains sites b → Contains b.places q → b.kind ≡ kind.Edge → q.var ≡ site_variable s b
            → site_variable s b ≡ site_variable s a → (t u : Bool) → mk.is_bound q.var ≡ t → IsLinked block recipe chain q.var (cond t (bound_grouping u) (new_grouping q.ends (all_terms mk q.var)))
        cases a l edge_a e b j there edge_b own one true true bound = tt
        cases a l edge_a e b j there edge_b own one true false bound =
            subst (HasPattern block recipe chain) (sym (own ∙ one)) (bound_edge a l edge_a e (ap mk.is_bound (sym (own ∙ one)) ∙ bound))
        cases a l edge_a e b j there edge_b own one false u bound =
            new_edge a l edge_a e b j edge_b one (ap mk.is_bound (sym (own ∙ one)) ∙ bound) q there (all_terms mk q.var)

        by : (b : Site) → Contains sites b → Contains b.places q → q.var ≡ site_variable s b → b.kind ≡ kind.Edge
            → IsPart s m.matched links IsChainNode (chain_sites s None parts) (all_of part_stored parts) y → y ≡ q.var → IsLinked block recipe chain q.var (grouping_of mk q)
        by b j there own edge_b (a_node n) var =
            absurd (cc (sym (node_kind q k (node_place y) (part_places (node_place y) (node_placed s None parts y n)) refl (sym var)) ∙ (sym (ap (λ (w : Variable). w.kind) is) ∙ edge)))
        by b j there own edge_b (a_stored n i here) var = absurd (not_path b j n (part_stores n i) (sym own ∙ (sym var ∙ here)))
        by b j there own edge_b (an_edge a i here edge_a e) var =
            cases a (part_sites a i) edge_a e b j there edge_b own (sym own ∙ (sym var ∙ here)) (mk.is_bound q.var) (mk.is_found q.var) refl

    pub chain_linked : AreLinked block recipe chain
    chain_linked v k edge listed =
        let at = variable_place mk places v (subst (λ (vs : List Variable). Contains vs v) variables k) in
        let any = any_member (λ (y : Sym). y.0 == v.var.0) chain.places listed in
        let part = chain_part s m.matched links IsChainNode None None parts (λ x e. absurd (none-some x e)) (λ n e. absurd (none-some n e)) (λ x n. n) fits_here any.0 (subst (λ (xs : List Sym). Contains xs any.0) here any.1) in
        linked_at v at.0 at.1 at.2 edge any.0 (same_var any.0 v.var any.2) part

  -- each chain of the items
  pub items_linked : (recipe : Recipe) → recipe.variables ≡ r.variables → (some : Tree (RowOf AnItem)) → ((a : Site) → Contains (sites_of s some) a → Contains sites a)
      → ((q : Place) → Contains (places_of s some) q → Contains places q) → ((n : List ℕ) → Contains (all_of item_stored some) n → Contains stored n)
      → IsUnbroken (each (loose_item m.matched links) some) → AllByRecursion (AreLinked block recipe) (all_of (item_chains s) some)
  items_linked recipe same tree.none f g n h = tt
  items_linked recipe same (tree.more (tree.GraphItem graph) some) f g n h = items_linked recipe same some f g n h.1
  items_linked recipe same (tree.more (tree.ChainItem parts changes condition) some) f g n h = (
    chain_linked parts (chain_of s parts condition) refl recipe same (λ a k. f a (Contains-append_left (chain_sites s None parts) (sites_of s some) a k))
        (λ q k. g q (Contains-append_left (chain_places s None parts) (places_of s some) q k)) (λ k l. n k (Contains-append_left (all_of part_stored parts) (all_of item_stored some) k l)) h.0,
    items_linked recipe same some (λ a k. f a (Contains-append_right (chain_sites s None parts) (sites_of s some) a k))
        (λ q k. g q (Contains-append_right (chain_places s None parts) (places_of s some) q k)) (λ k l. n k (Contains-append_right (all_of part_stored parts) (all_of item_stored some) k l)) h.1,
  )
