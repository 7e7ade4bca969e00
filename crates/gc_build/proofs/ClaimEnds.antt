-- The ends of each edge that is claimed for a variable are claimed as nodes.
use Rattle.std.proofs.Common.{◌≡◌, ⊎_elim, ℕ, zero, suc, ◌+◌, ◌==◌, ◌&&◌, ◌||◌, Bool, true, false, cond, List, [], ◌∷◌, ◌++◌, map, find, Option, None, Some, is_some, refl, sym, ap, ◌∙◌, subst, slice_get, arith}
use Rattle.std.specs.List.{Contains, flat_map, list_all, list_any}
use Rattle.std.specs.Option.{option_and_then, option_map, unwrap_or}
use Rattle.std.proofs.lemmas.Bool.{and_parts, eq-eqb, eqb-true}
use Rattle.std.proofs.lemmas.List.Elements.{Contains-append_left, Contains-append_right}
use Rattle.std.proofs.lemmas.Option.{none-some, same_Some}
use Rattle.gc_base.specs.declared.place.Sym.{Sym}
use Rattle.gc_ppg.specs.declared.shape.Kind.{Kind}
use Rattle.gc_ppg.specs.declared.shape.Kind.TheVariants as kind
use Rattle.gc_spec.specs.PropertyGraph.{PropertyGraph, Node, edge_at, is_among, node_ids}
use Rattle.gc_sets.specs.Claims.{Claims}
use Rattle.gc_rows.specs.Rows.{datum_at, lists}
use Rattle.gc_rows.specs.declared.datum.Datum.{Datum}
use Rattle.gc_rows.specs.declared.datum.Datum.TheVariants as datum
use Rattle.gc_rows.specs.declared.row.Binding.{Binding}
use Rattle.gc_rows.proofs.Members.{cons_cases, contains_here, contains_later, from_map, to_flat_map, to_map}
use Rattle.gc_group.specs.declared.grouping.Group.{Group}
use Rattle.gc_group.specs.declared.key.Key.{Key}
use Rattle.gc_values.specs.Descriptions.{Description}
use Rattle.gc_build_descriptions.specs.Described.{described, described_variable}
use Rattle.gc_build_descriptions.specs.Faults.{elements_of, listed_elements}
use Rattle.gc_build_descriptions.specs.declared.described.Described.{Described}
use Rattle.gc_build_numbers.specs.Keys.{bound_key, end_part, key_by, keys_from, keys_of, number_at, number_in, term_part, whole}
use Rattle.gc_build_numbers.specs.Numbers.{bound_number, elements_by}
use Rattle.gc_build_numbers.specs.Settings.{Setting, on_row}
use Rattle.gc_build_numbers.specs.declared.numbered.Element.{Element}
use Rattle.gc_build_numbers.specs.declared.numbered.Numbered.{Numbered}
use Rattle.gc_build_recipe.specs.Recipes.{Chain, Recipe}
use Rattle.gc_build_recipe.specs.declared.variable.Grouping.{Grouping}
use Rattle.gc_build_recipe.specs.declared.variable.Grouping.TheVariants as by
use Rattle.gc_build_recipe.specs.declared.variable.Term.{Term}
use Rattle.gc_build_recipe.specs.declared.variable.Variable.{Variable}
use Rattle.gc_build.specs.Claimed.{Ends, both_ends, claims_for, claims_of, claims_with, ends_by, node_claim, node_claims, same_kind}
use Rattle.gc_build.specs.Constructed.{elements, making}
use Rattle.gc_build.specs.Fitting.{AreDistinct, Fits, HasEnds, HasNode, IsNodePlace}
use Rattle.gc_build.specs.Kept.{Kept, has_instance, has_paths, has_places, is_claimed, is_kept, keeps, kept_from, kept_of}
use Rattle.gc_build.specs.Makings.{Making, descriptions_of, identity_at, identity_by, identity_of, listed_descriptions}
use Rattle.gc_build.specs.Walks.{read_graph, walk_nodes}
use Rattle.gc_build.specs.declared.all_paths.AllParts.{AllParts}
use Rattle.gc_build.proofs.ClaimOrigins.{at, at_number, element_among, groups, is_numbered, read_ends}
use Rattle.gc_build.proofs.NumberLaws.{apart, element_in, group_key, numbered_at}
use Rattle.gc_build.proofs.RowElements.{group_among, numbered_row, row_key, row_makes, row_of_element}
use Rattle.gc_build.proofs.WalksIn.{both_true, node_there}

-- what passes a test is one of the items
pub any_member : {X : Type 0} (p : X → Bool) (xs : List X) → list_any p xs ≡ true → (x : X) × Contains xs x × (p x ≡ true)
any_member p [] h = absurd (cc h)
any_member p (x ∷ xs) h =
    elim (p x) as (λ b. p x ≡ b → (b || list_any p xs) ≡ true → (y : _) × Contains (x ∷ xs) y × (p y ≡ true)) [
      | true ↦ λ t k. (x, contains_here x xs, t)
      | false ↦ λ t k. let rest = any_member p xs k in (rest.0, contains_later x xs rest.0 rest.1, rest.2)
    ] refl h

pub member_any : {X : Type 0} (p : X → Bool) (xs : List X) (x : X) → Contains xs x → p x ≡ true → list_any p xs ≡ true
member_any p [] x m t = absurd (omega (arith, m.1))
member_any p (y ∷ xs) x m t =
    ⊎_elim (λ e. ap (λ b. b || list_any p xs) (ap p e ∙ t)) (λ k. or_true (p y) (list_any p xs) (member_any p xs x k t)) (cons_cases y xs x m)
  where
    or_true : (a b : Bool) → b ≡ true → (a || b) ≡ true
    or_true true b h = refl
    or_true false b h = h

all_listed : (p : Sym → Bool) (xs : List Sym) (x : Sym) → list_all p xs ≡ true → lists xs x ≡ true → p x ≡ true
all_listed p [] x h k = absurd (cc k)
all_listed p (y ∷ xs) x h k =
    let parts = and_parts (p y) (list_all p xs) h in
    elim (y.0 == x.0) as (λ b. (y.0 == x.0) ≡ b → (b || lists xs x) ≡ true → p x ≡ true) [
      | true ↦ λ t l. subst (λ (z : Sym). p z ≡ true) (same y x t) parts.0
      | false ↦ λ t l. all_listed p xs x parts.1 l
    ] refl k
  where
    same : (y x : Sym) → (y.0 == x.0) ≡ true → y ≡ x
    same y x t = let e : y.0 ≡ x.0 = eqb-true y.0 x.0 t in λ i. record { 0 = e i }

-- the variable of a name is found among distinct ones
pub variable_found : (vs : List Variable) → AreDistinct vs → (v : Variable) → Contains vs v → find (λ w. w.var.0 == v.var.0) vs ≡ Some v
variable_found [] distinct v m = absurd (omega (arith, m.1))
variable_found (u ∷ vs) distinct v m =
    elim (u.var.0 == v.var.0) as (λ b. (u.var.0 == v.var.0) ≡ b → cond b (Some u) (find (λ w. w.var.0 == v.var.0) vs) ≡ Some v) [
      | true ↦ λ t. ⊎_elim (λ e. ap Some e)
          (λ k. let no : (v.var.0 == u.var.0) ≡ false = apart u.var.0 vs v distinct.0 k in
          let yes : (v.var.0 == u.var.0) ≡ true = eq-eqb v.var.0 u.var.0 (sym (eqb-true u.var.0 v.var.0 t)) in absurd (cc (no, yes))) (cons_cases u vs v m)
      | false ↦ λ t. ⊎_elim (λ e. let yes : (u.var.0 == v.var.0) ≡ true = eq-eqb u.var.0 v.var.0 (ap (λ (w : Variable). w.var.0) e) in absurd (cc (t, yes)))
          (λ k. variable_found vs distinct.1 v k) (cons_cases u vs v m)
    ] refl

found_mapped : (f : Variable → Described) → ((v : Variable) → (f v).var ≡ v.var) → (x : Sym) (vs : List Variable) (v : Variable) → find (λ w. w.var.0 == x.0) vs ≡ Some v
    → find (λ d. d.var.0 == x.0) (map f vs) ≡ Some (f v)
found_mapped f same x [] v h = absurd (none-some v h)
found_mapped f same x (u ∷ vs) v h =
    ap (λ (y : Sym). cond (y.0 == x.0) (Some (f u)) (find (λ d. d.var.0 == x.0) (map f vs))) (same u)
    ∙ (elim (u.var.0 == x.0) as (λ b. cond b (Some u) (find (λ w. w.var.0 == x.0) vs) ≡ Some v → cond b (Some (f u)) (find (λ d. d.var.0 == x.0) (map f vs)) ≡ Some (f v)) [
      | true ↦ λ k. ap (λ w. Some (f w)) (same_Some u v k)
      | false ↦ λ k. found_mapped f same x vs v k
    ] h)

-- what is claimed for an element that kept instances have is claimed
claims_have : {X : Type 0} (kept : List Kept) (x : Sym) (claim : Element → Description → List X) (f : Element → Description) (es : List Element) (e : Element) (c : X)
    → Contains es e → is_claimed kept x e ≡ true → Contains (claim e (f e)) c → Contains (claims_of kept x claim es (map f es)) c
claims_have kept x claim f [] e c m t k = absurd (omega (arith, m.1))
claims_have kept x claim f (d ∷ es) e c m t k =
    let rest = claims_of kept x claim es (map f es) in
    ⊎_elim
    (λ same. subst (λ (g : Element). Contains ((cond (is_claimed kept x g) (claim g (f g)) []) ++ rest) c) (sym same)
    (subst (λ b. Contains ((cond b (claim e (f e)) []) ++ rest) c) (sym t) (Contains-append_left (claim e (f e)) rest c k)))
    (λ behind. Contains-append_right (cond (is_claimed kept x d) (claim d (f d)) []) rest c (claims_have kept x claim f es e c behind t k))
    (cons_cases d es e m)

-- the row of an instance that is kept
kept_row : (m : Making) (c : Chain) (first : ℕ) (rows : List (List Binding)) (i : ℕ) → slice_get (kept_from m c first rows) i ≡ Some true
    → (row : List Binding) × (slice_get rows i ≡ Some row) × (keeps m c (first + i) row ≡ true)
kept_row m c first [] i h = absurd (none-some true h)
kept_row m c first (row ∷ rows) zero h = (row, refl, ap (λ n. keeps m c n row) (none first) ∙ same_Some (keeps m c first row) true h)
  where
    none : (n : ℕ) → n + 0 ≡ n
    none n = omega arith
kept_row m c first (row ∷ rows) (suc i) h = let rest = kept_row m c (first + 1) rows i h in (rest.0, rest.1, ap (λ n. keeps m c n rest.0) (plus first i) ∙ rest.2)
  where
    plus : (n i : ℕ) → n + suc i ≡ n + 1 + i
    plus n i = omega arith

-- an instance that is kept, of a chain that has a variable
pub record Instance (m : Making) (chains : List Chain) (x : Sym) (place : ℕ) : Type 0 where
  pub chain : Chain
  pub among : Contains chains chain
  pub has : lists chain.places x ≡ true
  pub kept : is_kept place (kept_of m chain) ≡ true
  pub row : List Binding
  pub there : slice_get m.setting.rows place ≡ Some row
  pub keeps : keeps m chain place row ≡ true

kept_true : (o : Option Bool) → unwrap_or o false ≡ true → o ≡ Some true
kept_true None h = absurd (cc h)
kept_true (Some true) h = refl
kept_true (Some false) h = absurd (cc h)

instance_of : (m : Making) (chains : List Chain) (x : Sym) (place : ℕ) → has_instance (map (kept_of m) chains) x place ≡ true → Instance m chains x place
instance_of m chains x place h =
    let any = any_member (λ k. lists k.places x && is_kept place k) (map (kept_of m) chains) h in
    let from = from_map (kept_of m) chains any.0 any.1 in
    let parts = and_parts (lists any.0.places x) (is_kept place any.0) any.2 in
    let kept : is_kept place (kept_of m from.0) ≡ true = subst (λ (k : Kept). is_kept place k ≡ true) from.2 parts.1 in
    let row = kept_row m from.0 0 m.setting.rows place (kept_true (slice_get (kept_from m from.0 0 m.setting.rows) place) kept) in
    record {
      chain = from.0;
      among = from.1;
      has = subst (λ (k : Kept). lists k.places x ≡ true) from.2 parts.0;
      kept = kept;
      row = row.0;
      there = row.1;
      keeps = ap (λ n. keeps m from.0 n row.0) (none place) ∙ row.2;
    }
  where
    none : (n : ℕ) → n ≡ 0 + n
    none n = omega arith

-- an element that is claimed is that of an instance on one of its rows
pub record ClaimedBy (m : Making) (chains : List Chain) (x : Sym) (e : Element) : Type 0 where
  pub place : ℕ
  pub on : Contains e.group.rows place
  pub by : Instance m chains x place

pub claimed_by : (m : Making) (chains : List Chain) (x : Sym) (e : Element) → is_claimed (map (kept_of m) chains) x e ≡ true → ClaimedBy m chains x e
claimed_by m chains x e h =
    let any = any_member (has_instance (map (kept_of m) chains) x) e.group.rows h in record { place = any.0; on = any.1; by = instance_of m chains x any.0 any.2 }

-- an instance has each of its places, and what it has is claimed
instance_has : (m : Making) (chains : List Chain) (x y : Sym) (place : ℕ) (i : Instance m chains x place) → lists i.chain.places y ≡ true → is_some (identity_at m y place) ≡ true
instance_has m chains x y place i l =
    let first = and_parts (has_places m i.chain place && has_paths i.chain i.row) _ i.keeps in
    let places = and_parts (has_places m i.chain place) (has_paths i.chain i.row) first.0 in
    all_listed (λ z. is_some (identity_at m z place)) i.chain.places y places.0 l

instance_claims : (m : Making) (chains : List Chain) (x y : Sym) (place : ℕ) (i : Instance m chains x place) → lists i.chain.places y ≡ true → (e : Element) → Contains e.group.rows place
    → is_claimed (map (kept_of m) chains) y e ≡ true
instance_claims m chains x y place i l e on =
    member_any (has_instance (map (kept_of m) chains) y) e.group.rows place on
    (member_any (λ k. lists k.places y && is_kept place k) (map (kept_of m) chains) (kept_of m i.chain) (to_map (kept_of m) chains i.chain i.among) (both_true (lists i.chain.places y) (is_kept place (kept_of m i.chain)) l i.kept))

-- the row at a place whose key is known
pub key_place : (s : Setting) (before : List Numbered) (v : Variable) (keys : List (Option Key)) (key : Key) (place : ℕ) → keys ≡ keys_of s before v → slice_get keys place ≡ Some (Some key)
    → (row : List Binding) × (key_by s before v.var v.kind v.grouping place row ≡ Some key) × (slice_get s.rows place ≡ Some row)
key_place s before v keys key place same h =
    let at = in_keys 0 s.rows place (sym (ap (λ (ks : List (Option Key)). slice_get ks place) same) ∙ h) in
    (at.0, ap (λ n. key_by s before v.var v.kind v.grouping n at.0) (none place) ∙ at.1, at.2)
  where
    none : (n : ℕ) → n ≡ 0 + n
    none n = omega arith

    plus : (n i : ℕ) → n + suc i ≡ n + 1 + i
    plus n i = omega arith

    same_place : (n : ℕ) → n + 0 ≡ n
    same_place n = omega arith

    in_keys : (first : ℕ) (rows : List (List Binding)) (i : ℕ) → slice_get (keys_from s before v first rows) i ≡ Some (Some key)
        → (row : List Binding) × (key_by s before v.var v.kind v.grouping (first + i) row ≡ Some key) × (slice_get rows i ≡ Some row)
    in_keys first [] i k = absurd (none-some (Some key) k)
    in_keys first (row ∷ rows) zero k = (row, ap (λ n. key_by s before v.var v.kind v.grouping n row) (same_place first) ∙ same_Some _ (Some key) k, refl)
    in_keys first (row ∷ rows) (suc i) k = let rest = in_keys (first + 1) rows i k in (rest.0, ap (λ n. key_by s before v.var v.kind v.grouping n rest.0) (plus first i) ∙ rest.1, rest.2)

module _ (s : Setting) (r : Recipe) (fits : Fits s r) (next : ℕ) (parts : List AllParts) where
  abbrev m : Making
  m = making s r next

  abbrev pub all_kept : List Kept
  all_kept = map (kept_of m) r.chains

  abbrev pub all_claimed : Claims
  all_claimed = claims_with m all_kept parts r.graphs

  abbrev pub IsNodeClaimed : ℕ → Type 0
  IsNodeClaimed id = is_among (node_ids all_claimed.nodes) id ≡ true

  descriptions_are : (u : Variable) → Contains r.variables u → descriptions_of m.described u.var ≡ map (described s r u) (elements_of (elements s r) u.var)
  descriptions_are u k =
      ap listed_descriptions (found_mapped (described_variable s r (elements s r)) (λ v. refl) u.var r.variables u (variable_found r.variables fits.distinct u k))

  -- a node that an instance has is claimed
  pub node_claimed : (x : Sym) (place : ℕ) (i : Instance m r.chains x place) (u : Variable) → Contains r.variables u → u.kind ≡ kind.Node → lists i.chain.places u.var ≡ true
      → (e : Element) → Contains (elements_of (elements s r) u.var) e → Contains e.group.rows place → IsNodeClaimed (identity_by next u.grouping e.number)
  node_claimed x place i u k node l e there on =
      let id = identity_by next u.grouping e.number in
      let c : Node = node_claim id (described s r u e) in
      let claimed = instance_claims m r.chains x u.var place i l e on in
      let of_elements : Contains (claims_of all_kept u.var (node_claims m u) (elements_of (elements s r) u.var) (descriptions_of m.described u.var)) c =
      subst (λ (ds : List Description). Contains (claims_of all_kept u.var (node_claims m u) (elements_of (elements s r) u.var) ds) c) (sym (descriptions_are u k))
      (claims_have all_kept u.var (node_claims m u) (described s r u) (elements_of (elements s r) u.var) e c there claimed (contains_here c [])) in
      let of_variable : Contains (claims_for m all_kept kind.Node (node_claims m) u) c =
      subst (λ (q : Kind). Contains (cond (same_kind q kind.Node) (claims_of all_kept u.var (node_claims m u) (elements_of (elements s r) u.var) (descriptions_of m.described u.var)) []) c) (sym node) of_elements in
      let all = to_flat_map (claims_for m all_kept kind.Node (node_claims m)) r.variables u c k of_variable in
      node_there all_claimed.nodes c
      (Contains-append_left (flat_map (claims_for m all_kept kind.Node (node_claims m)) r.variables ++ flat_map (walk_nodes m all_kept) parts) _ c
      (Contains-append_left (flat_map (claims_for m all_kept kind.Node (node_claims m)) r.variables) (flat_map (walk_nodes m all_kept) parts) c all))

  -- a bound variable of nodes on the row of an instance
  pub bound_claimed : (x : Sym) (place : ℕ) (i : Instance m r.chains x place) (id : ℕ) → HasNode r i.chain i.row id → IsNodeClaimed id
  bound_claimed x place i id h =
      let u = h.variable in
      let keys = keys_of s (at s r fits next u).variables u in
      let key : Key = record { parts = Some (datum.Node id) ∷ [] } in
      let has : key_by s (at s r fits next u).variables u.var u.kind u.grouping place i.row ≡ Some key =
      (λ j. key_by s (at s r fits next u).variables u.var (h.kind j) (h.bound j) place i.row) ∙ ap (bound_key kind.Node) h.node in
      let there : slice_get keys place ≡ Some (Some key) = row_key s (at s r fits next u).variables u place i.row i.there ∙ ap Some has in
      let makes = row_makes u.grouping (at s r fits next u).next keys place key there in
      let el = subst (λ o. Contains (listed_elements o) makes.element) (sym (is_numbered s r fits next u h.among).found) makes.among in
      let claimed = node_claimed x place i u h.among h.kind h.place makes.element el makes.row in
      let number = bound_is u.grouping h.bound (at s r fits next u).next (groups s r fits next u) makes.element makes.among in
      subst IsNodeClaimed ((λ j. identity_by next (h.bound j) makes.element.number) ∙ (number ∙ ap bound_number makes.is)) claimed
    where
      bound_is : (g : Grouping) → g ≡ by.Bound → (n : ℕ) (gs : List Group) (e : Element) → Contains (elements_by g n gs) e → e.number ≡ bound_number e.group.key
      bound_is by.Bound is n gs e c = (element_in by.Bound n gs e c).number
      bound_is by.EachRow is n gs e c = absurd (cc is)
      bound_is by.Walk is n gs e c = absurd (cc is)
      bound_is (by.Terms terms) is n gs e c = absurd (cc is)
      bound_is (by.Link source target terms) is n gs e c = absurd (cc is)

  -- the parts of a key that is whole are those of the row
  whole_parts : (ps : List (Option Datum)) (key : Key) → whole ps ≡ Some key → (list_all is_some ps ≡ true) × (key.parts ≡ ps)
  whole_parts ps key h =
      elim (list_all is_some ps) as (λ b. list_all is_some ps ≡ b → cond b (Some (record { parts = ps })) None ≡ Some key → (b ≡ true) × (key.parts ≡ ps)) [
        | true ↦ λ t k. (refl, ap (λ (q : Key). q.parts) (sym (same_Some (record { parts = ps }) key k)))
        | false ↦ λ t k. absurd (none-some key k)
      ] refl h

  abbrev id_in : Option Datum → Option ℕ
  id_in (Some (datum.Node id)) = Some id
  id_in d = None

  back : (o : Option ℕ) → id_in (option_map datum.Node o) ≡ o
  back None = refl
  back (Some n) = refl

  there_is : (o : Option ℕ) → is_some (option_map datum.Node o) ≡ true → (n : ℕ) × (o ≡ Some n)
  there_is None h = absurd (cc h)
  there_is (Some n) h = (n, refl)

  -- the numbers of the ends of a new edge are those in its key
  abbrev part_in : (i : ℕ) → Key → Option ℕ
  part_in i key = id_in (option_and_then (λ (part : Option Datum). part) (slice_get key.parts i))

  record HasParts (before : List Numbered) (source target : Sym) (place : ℕ) (key : Key) : Type 0 where
    first : number_at before source place ≡ part_in 0 key
    second : number_at before target place ≡ part_in 1 key
    from : (n : ℕ) × (number_at before source place ≡ Some n)
    to : (n : ℕ) × (number_at before target place ≡ Some n)

  link_parts : (before : List Numbered) (source target : Sym) (place : ℕ) (rest : List (Option Datum)) (key : Key)
      → whole (end_part before source place ∷ end_part before target place ∷ rest) ≡ Some key → HasParts before source target place key
  link_parts before source target place rest key h =
      let is = whole_parts (end_part before source place ∷ end_part before target place ∷ rest) key h in
      let some = and_parts (is_some (end_part before source place)) (list_all is_some (end_part before target place ∷ rest)) is.0 in
      let later = and_parts (is_some (end_part before target place)) (list_all is_some rest) some.1 in
      record {
        first = sym (back (number_at before source place)) ∙ ap (λ (ps : List (Option Datum)). id_in (option_and_then (λ (part : Option Datum). part) (slice_get ps 0))) (sym is.1);
        second = sym (back (number_at before target place)) ∙ ap (λ (ps : List (Option Datum)). id_in (option_and_then (λ (part : Option Datum). part) (slice_get ps 1))) (sym is.1);
        from = there_is (number_at before source place) some.0;
        to = there_is (number_at before target place) later.0;
      }

  -- a number that was given before an edge is given in the end
  found_number : (before all : List Numbered) (y : Sym) (place n : ℕ) → ((q : Numbered) → find (λ k. k.var.0 == y.0) before ≡ Some q → find (λ k. k.var.0 == y.0) all ≡ Some q)
      → number_at before y place ≡ Some n → number_at all y place ≡ Some n
  found_number before all y place n later h = by (find (λ k. k.var.0 == y.0) before) refl h
    where
      by : (o : Option Numbered) → find (λ k. k.var.0 == y.0) before ≡ o → option_and_then (number_in place) o ≡ Some n → number_at all y place ≡ Some n
      by None is k = absurd (none-some n k)
      by (Some q) is k = ap (option_and_then (number_in place)) (later q is) ∙ k

  -- an end of a new edge, by its number on the row of an instance and on the first row of the edge
  end_claimed : (x : Sym) (place first : ℕ) (i : Instance m r.chains x place) (y : Sym) → IsNodePlace r i.chain y → (n id : ℕ) → number_at (elements s r) y place ≡ Some n → number_at (elements s r) y first ≡ Some n
      → identity_at m y first ≡ Some id → IsNodeClaimed id
  end_claimed x place first i y h n id here there is =
      let u = h.variable in
      let found : find (λ w. w.var.0 == y.0) r.variables ≡ Some u = subst (λ (z : Sym). find (λ w. w.var.0 == z.0) r.variables ≡ Some u) h.is (variable_found r.variables fits.distinct u h.among) in
      let own : (q : ℕ) → number_at (elements s r) y q ≡ Some n → number_at (elements s r) u.var q ≡ Some n = λ q k. ap (λ (z : Sym). number_at (elements s r) z q) h.is ∙ k in
      let identity : identity_by next u.grouping n ≡ id =
      same_Some (identity_by next u.grouping n) id
      (sym (ap (option_and_then (identity_of m first)) found ∙ ap (option_map (identity_by next u.grouping)) (own first there)) ∙ is) in
      let number : number_in place (numbered_at s (at s r fits next u).variables (at s r fits next u).next u) ≡ Some n =
      sym (ap (option_and_then (number_in place)) (is_numbered s r fits next u h.among).found) ∙ own place here in
      let by = numbered_row u.var u.grouping (at s r fits next u).next (keys_of s (at s r fits next u).variables u) place n number in
      let el = subst (λ o. Contains (listed_elements o) by.element) (sym (is_numbered s r fits next u h.among).found) by.among in
      let listed = subst (λ (z : Sym). lists i.chain.places z ≡ true) (sym h.is) h.place in
      subst IsNodeClaimed (ap (identity_by next u.grouping) by.is ∙ identity) (node_claimed x place i u h.among h.kind listed by.element el by.row)

  both_there : (a b : Option ℕ) (ends : Ends) → both_ends a b ≡ Some ends → (a ≡ Some ends.from) × (b ≡ Some ends.to)
  both_there None b ends h = absurd (none-some ends h)
  both_there (Some f) None ends h = absurd (none-some ends h)
  both_there (Some f) (Some t) ends h = let e = same_Some _ ends h in (ap (λ (k : Ends). Some k.from) e, ap (λ (k : Ends). Some k.to) e)

  first_of : (rows : List ℕ) (place : ℕ) → Contains rows place → Contains rows (unwrap_or (slice_get rows 0) 0)
  first_of [] place m = absurd (omega (arith, m.1))
  first_of (p ∷ rows) place m = contains_here p rows

  -- the ends of a new edge that is claimed
  link_ends : (v : Variable) → Contains r.variables v → (e : Element) → Contains (elements_of (elements s r) v.var) e → (claimed : ClaimedBy m r.chains v.var e) → (source target : Sym) (terms : List Term)
      → v.grouping ≡ by.Link source target terms → IsNodePlace r claimed.by.chain source → IsNodePlace r claimed.by.chain target → (ends : Ends) → ends_by m v.var (by.Link source target terms) e ≡ Some ends
      → IsNodeClaimed ends.from × IsNodeClaimed ends.to
  link_ends v k e there claimed source target terms is from_place to_place ends h =
      let before = (at s r fits next v).variables in
      let keys = keys_of s before v in
      let first = unwrap_or (slice_get e.group.rows 0) 0 in
      let group = group_key keys e.group (group_among v.grouping (at s r fits next v).next (groups s r fits next v) e (element_in v.grouping (at s r fits next v).next (groups s r fits next v) e (element_among s r fits next v k e there))) in
      let here = key_place s before v keys e.group.key claimed.place refl (row_of_element keys e.group claimed.place group.1 claimed.on) in
      let front = key_place s before v keys e.group.key first refl (row_of_element keys e.group first group.1 (first_of e.group.rows claimed.place claimed.on)) in
      let on_here = link_parts before source target claimed.place (map (term_part (on_row s here.0)) terms) e.group.key ((λ j. key_by s before v.var v.kind (sym is j) claimed.place here.0) ∙ here.1) in
      let on_front = link_parts before source target first (map (term_part (on_row s front.0)) terms) e.group.key ((λ j. key_by s before v.var v.kind (sym is j) first front.0) ∙ front.1) in
      let both = both_there (identity_at m source first) (identity_at m target first) ends h in
      let later = (is_numbered s r fits next v k).earlier in
      let from_first : number_at before source first ≡ Some on_here.from.0 = on_front.first ∙ (sym on_here.first ∙ on_here.from.1) in
      let to_first : number_at before target first ≡ Some on_here.to.0 = on_front.second ∙ (sym on_here.second ∙ on_here.to.1) in (
        end_claimed v.var claimed.place first claimed.by source from_place on_here.from.0 ends.from (found_number before (elements s r) source claimed.place on_here.from.0 (later source) on_here.from.1)
            (found_number before (elements s r) source first on_here.from.0 (later source) from_first) both.0,
        end_claimed v.var claimed.place first claimed.by target to_place on_here.to.0 ends.to (found_number before (elements s r) target claimed.place on_here.to.0 (later target) on_here.to.1)
            (found_number before (elements s r) target first on_here.to.0 (later target) to_first) both.1,
      )

  -- the ends of a bound edge that is claimed
  bound_ends : (v : Variable) → Contains r.variables v → v.kind ≡ kind.Edge → v.grouping ≡ by.Bound → (e : Element) → Contains (elements_of (elements s r) v.var) e → (claimed : ClaimedBy m r.chains v.var e)
      → HasEnds s r claimed.by.chain v.var by.Bound → (ends : Ends) → ends_by m v.var by.Bound e ≡ Some ends → IsNodeClaimed ends.from × IsNodeClaimed ends.to
  bound_ends v k edge bound e there claimed has ends h =
      let before = (at s r fits next v).variables in
      let keys = keys_of s before v in
      let el = element_in v.grouping (at s r fits next v).next (groups s r fits next v) e (element_among s r fits next v k e there) in
      let group = group_key keys e.group (group_among v.grouping (at s r fits next v).next (groups s r fits next v) e el) in
      let here = key_place s before v keys e.group.key claimed.place refl (row_of_element keys e.group claimed.place group.1 claimed.on) in
      let same : here.0 ≡ claimed.by.row = same_Some here.0 claimed.by.row (sym here.2 ∙ claimed.by.there) in
      let key : bound_key kind.Edge (datum_at claimed.by.row v.var) ≡ Some e.group.key =
      (λ j. key_by s before v.var (sym edge j) (sym bound j) claimed.place (sym same j)) ∙ here.1 in
      let is = bound_edge (datum_at claimed.by.row v.var) e.group.key key in
      let number : e.number ≡ is.0 = number_is v.grouping bound (at s r fits next v).next (groups s r fits next v) e (element_among s r fits next v k e there) ∙ is.2 in
      let read = read_ends (read_graph s v.var) e.number ends h in
      let found : option_and_then (λ (g : PropertyGraph). edge_at g.edges is.0) (read_graph s v.var) ≡ Some read.2 =
      ap (option_and_then (λ (g : PropertyGraph). edge_at g.edges is.0)) read.1 ∙ (ap (edge_at read.0.edges) (sym number) ∙ read.3) in
      let nodes = has claimed.by.row is.0 read.2 (at_number s.rows claimed.place claimed.by.row claimed.by.there) is.1 found in (
        subst IsNodeClaimed (ap (λ (q : Ends). q.from) read.4) (bound_claimed v.var claimed.place claimed.by read.2.from nodes.0),
        subst IsNodeClaimed (ap (λ (q : Ends). q.to) read.4) (bound_claimed v.var claimed.place claimed.by read.2.to nodes.1),
      )
    where
      bound_edge : (o : Option Datum) (key : Key) → bound_key kind.Edge o ≡ Some key → (id : ℕ) × (o ≡ Some (datum.Edge id)) × (bound_number key ≡ id)
      bound_edge None key h = absurd (none-some key h)
      bound_edge (Some (datum.Edge id)) key h = (id, refl, ap bound_number (sym (same_Some (record { parts = Some (datum.Edge id) ∷ [] }) key h)))
      bound_edge (Some (datum.Node id)) key h = absurd (none-some key h)
      bound_edge (Some (datum.Stored id)) key h = absurd (none-some key h)
      bound_edge (Some (datum.Found walk)) key h = absurd (none-some key h)
      bound_edge (Some (datum.Span from to)) key h = absurd (none-some key h)
      bound_edge (Some (datum.Value values)) key h = absurd (none-some key h)
      bound_edge (Some datum.PastRange) key h = absurd (none-some key h)

      number_is : (g : Grouping) → g ≡ by.Bound → (n : ℕ) (gs : List Group) (e : Element) → Contains (elements_by g n gs) e → e.number ≡ bound_number e.group.key
      number_is by.Bound is n gs e c = (element_in by.Bound n gs e c).number
      number_is by.EachRow is n gs e c = absurd (cc is)
      number_is by.Walk is n gs e c = absurd (cc is)
      number_is (by.Terms terms) is n gs e c = absurd (cc is)
      number_is (by.Link source target terms) is n gs e c = absurd (cc is)

  -- so an edge that is claimed for a variable has its ends among the nodes that are
  pub variable_ends : (v : Variable) → Contains r.variables v → v.kind ≡ kind.Edge → (e : Element) → Contains (elements_of (elements s r) v.var) e → (claimed : ClaimedBy m r.chains v.var e)
      → (g : Grouping) → v.grouping ≡ g → HasEnds s r claimed.by.chain v.var g → (ends : Ends) → ends_by m v.var g e ≡ Some ends → IsNodeClaimed ends.from × IsNodeClaimed ends.to
  variable_ends v k edge e there claimed by.Bound is has ends h = bound_ends v k edge is e there claimed has ends h
  variable_ends v k edge e there claimed (by.Link source target terms) is has ends h = link_ends v k e there claimed source target terms is has.0 has.1 ends h
  variable_ends v k edge e there claimed by.EachRow is has ends h = absurd (none-some ends h)
  variable_ends v k edge e there claimed by.Walk is has ends h = absurd (none-some ends h)
  variable_ends v k edge e there claimed (by.Terms terms) is has ends h = absurd (none-some ends h)
