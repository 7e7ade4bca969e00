-- The sites of nodes and edges in the items of a CONSTRUCT, with what stands beside them.
use Rattle.std.proofs.Common.{◌≡◌, ⊎_elim, ℕ, List, [], ◌∷◌, ◌++◌, Option, Some, None, refl, sym, ap, subst, arith}
use Rattle.std.specs.List.{Contains}
use Rattle.std.specs.Option.{option_to_list}
use Rattle.std.proofs.lemmas.List.Elements.{Contains-append_left, Contains-append_right, Contains-append_cases}
use Rattle.std.proofs.lemmas.Option.{none-some, same_Some}
use Rattle.gc_base.specs.declared.place.Direction.{Direction}
use Rattle.gc_base.specs.declared.place.Direction.TheVariants.{Forward}
use Rattle.gc_base.specs.declared.place.Sym.{Sym}
use Rattle.gc_ast.specs.Trees as tree
use Rattle.gc_ast.specs.Trees.{Tree, Named, RowOf, AnItem, AConstructPart, ANewElement}
use Rattle.gc_build_reading.specs.Items.{part_variables}
use Rattle.gc_build_reading.specs.Places.{chain_places, edge_place, edge_places, element_variable, ends_of, item_places, next_variable, node_place, node_variable, part_places, path_place, places_of}
use Rattle.gc_build_reading.specs.Variables.{first_places}
use Rattle.gc_ppg.specs.declared.shape.Kind.{Kind}
use Rattle.gc_ppg.specs.declared.shape.Kind.TheVariants as kind
use Rattle.gc_rows.proofs.Members.{cons_cases, contains_here}
use Rattle.gc_sorts.specs.Constructs.{item_stored, part_stored}
use Rattle.gc_sorts.specs.Links.{Link, bracket, front_part_name, loose_edge, loose_part, loose_parts, name_if, part_name}
use Rattle.gc_sorts.specs.Uses.{all_of}
use Rattle.gc_sorts.specs.Variables.{Use}
use Rattle.gc_lower.specs.Scopes.{Scope, variable_of, variable_or}
use Rattle.gc_query.proofs.SearchedAtoms.{IsUnbroken}

-- the types of places and of ends, which the crate that reads items keeps to itself: those of what its definitions give
abbrev TypeOf : {X : Type 0} → X → Type 0
TypeOf {X} x = X

abbrev ItemOf : {X : Type 0} → List X → Type 0
ItemOf {X} xs = X

abbrev pub Place : Type 0
Place = ItemOf (first_places [])

abbrev pub Ends : Type 0
Ends = TypeOf (ends_of Forward (record { 0 = 0 }) (record { 0 = 0 }))

-- a kind of sites is a node's or an edge's
pub data IsElement (k : Kind) : Type 0 where
  is_node : k ≡ kind.Node → IsElement k
  is_edge : k ≡ kind.Edge → IsElement k

-- a node or an edge in a chain: the token at which it begins, its name, its kind, and its place, which an edge has between two nodes
pub record Site : Type 0 where
  pub token : ℕ
  pub name : Option Named
  pub kind : Kind
  pub places : List Place

abbrev pub site_variable : Scope → Site → Sym
site_variable s a = variable_or s a.token a.name

abbrev pub site_at : Kind → List Place → Tree ANewElement → List Site
site_at k places (tree.NewElement token name copy group labels assigns) = record { token = token; name = name; kind = k; places = places } ∷ []

abbrev pub part_sites : Scope → (left right : Option Sym) → Tree AConstructPart → List Site
part_sites s left right (tree.NewNode e) = site_at kind.Node (node_place (element_variable s e) ∷ []) e
part_sites s left right (tree.NewEdge way e) = site_at kind.Edge (edge_places s left right way e) e
part_sites s left right (tree.Projected token p) = []
part_sites s left right (tree.NewStored token p labels assigns) = []

abbrev pub chain_sites : Scope → (left : Option Sym) → Tree (RowOf AConstructPart) → List Site
chain_sites s left tree.none = []
chain_sites s left (tree.more part parts) = part_sites s left (next_variable s parts) part ++ chain_sites s (node_variable s part) parts

abbrev pub item_sites : Scope → Tree AnItem → List Site
item_sites s (tree.GraphItem g) = []
item_sites s (tree.ChainItem parts changes condition) = chain_sites s None parts

abbrev pub sites_of : Scope → Tree (RowOf AnItem) → List Site
sites_of s items = all_of (item_sites s) items

-- a place is that of a site, or of a stored path
pub data IsPlaceOf (s : Scope) (sites : List Site) (stored : List (List ℕ)) (q : Place) : Type 0 where
  of_site : (a : Site) → Contains sites a → Contains a.places q → IsPlaceOf s sites stored q
  of_stored : (n : List ℕ) → Contains stored n → q ≡ path_place (variable_of s n) → IsPlaceOf s sites stored q

of_left : (s : Scope) (es bs : List Site) (ms ns : List (List ℕ)) (q : Place) → IsPlaceOf s es ms q → IsPlaceOf s (es ++ bs) (ms ++ ns) q
of_left s es bs ms ns q (of_site a m n) = of_site a (Contains-append_left es bs a m) n
of_left s es bs ms ns q (of_stored k m is) = of_stored k (Contains-append_left ms ns k m) is

of_right : (s : Scope) (es bs : List Site) (ms ns : List (List ℕ)) (q : Place) → IsPlaceOf s bs ns q → IsPlaceOf s (es ++ bs) (ms ++ ns) q
of_right s es bs ms ns q (of_site a m n) = of_site a (Contains-append_right es bs a m) n
of_right s es bs ms ns q (of_stored k m is) = of_stored k (Contains-append_right ms ns k m) is

module _ (s : Scope) where
  part_place : (left right : Option Sym) (p : Tree AConstructPart) (q : Place) → Contains (part_places s left right p) q → IsPlaceOf s (part_sites s left right p) (part_stored p) q
  part_place left right (tree.NewNode (tree.NewElement token name copy group labels assigns)) q m = of_site _ (contains_here _ []) m
  part_place left right (tree.NewEdge way (tree.NewElement token name copy group labels assigns)) q m = of_site _ (contains_here _ []) m
  part_place left right (tree.Projected token p) q m = absurd (omega (arith, m.1))
  part_place left right (tree.NewStored token p labels assigns) q m = of_stored p.name (contains_here p.name []) (⊎_elim sym (λ k. absurd (omega (arith, k.1))) (cons_cases (path_place (variable_of s p.name)) [] q m))

  chain_place : (left : Option Sym) (ps : Tree (RowOf AConstructPart)) (q : Place) → Contains (chain_places s left ps) q → IsPlaceOf s (chain_sites s left ps) (all_of part_stored ps) q
  chain_place left tree.none q m = absurd (omega (arith, m.1))
  chain_place left (tree.more p ps) q m =
      let es = part_sites s left (next_variable s ps) p in
      let bs = chain_sites s (node_variable s p) ps in
      ⊎_elim
      (λ k. of_left s es bs (part_stored p) (all_of part_stored ps) q (part_place left (next_variable s ps) p q k))
      (λ k. of_right s es bs (part_stored p) (all_of part_stored ps) q (chain_place (node_variable s p) ps q k))
      (Contains-append_cases (part_places s left (next_variable s ps) p) (chain_places s (node_variable s p) ps) q m)

  item_place : (item : Tree AnItem) (q : Place) → Contains (item_places s item) q → IsPlaceOf s (item_sites s item) (item_stored item) q
  item_place (tree.GraphItem g) q m = absurd (omega (arith, m.1))
  item_place (tree.ChainItem parts changes condition) q m = chain_place None parts q m

  pub place_of_items : (items : Tree (RowOf AnItem)) (q : Place) → Contains (places_of s items) q → IsPlaceOf s (sites_of s items) (all_of item_stored items) q
  place_of_items tree.none q m = absurd (omega (arith, m.1))
  place_of_items (tree.more item items) q m =
      ⊎_elim
      (λ k. of_left s (item_sites s item) (sites_of s items) (item_stored item) (all_of item_stored items) q (item_place item q k))
      (λ k. of_right s (item_sites s item) (sites_of s items) (item_stored item) (all_of item_stored items) q (place_of_items items q k))
      (Contains-append_cases (item_places s item) (places_of s items) q m)

  -- what a place of a site is
  pub edge_places_are : (left right : Option Sym) (way : Direction) (e : Tree ANewElement) (q : Place) → Contains (edge_places s left right way e) q
      → (x : Sym) × (y : Sym) × (left ≡ Some x) × (right ≡ Some y) × (q ≡ edge_place (element_variable s e) (ends_of way x y))
  edge_places_are (Some x) (Some y) way e q m = (x, y, refl, refl, ⊎_elim sym (λ k. absurd (omega (arith, k.1))) (cons_cases _ [] q m))
  edge_places_are (Some x) None way e q m = absurd (omega (arith, m.1))
  edge_places_are None right way e q m = absurd (omega (arith, m.1))

  -- a site with the variable and the kind of each of its places
  pub record IsSite (a : Site) : Type 0 where
    pub element : IsElement a.kind
    pub kinds : (q : Place) → Contains a.places q → (q.kind ≡ a.kind) × (q.var ≡ site_variable s a)
    pub ends : (q : Place) → Contains a.places q → a.kind ≡ kind.Edge → (e : Ends) × (q.ends ≡ Some e)

  element_is : (e : Tree ANewElement) (token : ℕ) (name : Option Named) → Type 0
  element_is e token name = element_variable s e ≡ variable_or s token name

  part_site : (left right : Option Sym) (p : Tree AConstructPart) (a : Site) → Contains (part_sites s left right p) a → IsSite a
  part_site left right (tree.NewNode (tree.NewElement token name copy group labels assigns)) a m =
      ⊎_elim (λ e. subst IsSite e (record {
        element = is_node refl;
        kinds = λ q k. ⊎_elim (λ i. (ap (λ (r : Place). r.kind) (sym i), ap (λ (r : Place). r.var) (sym i))) (λ r. absurd (omega (arith, r.1))) (cons_cases (node_place (variable_or s token name)) [] q k);
        ends = λ q k h. absurd (cc h);
      })) (λ k. absurd (omega (arith, k.1))) (cons_cases _ [] a m)
  part_site left right (tree.NewEdge way (tree.NewElement token name copy group labels assigns)) a m =
      ⊎_elim (λ e. subst IsSite e (record {
        element = is_edge refl;
        kinds = λ q k. let at = edge_places_are left right way (tree.NewElement token name copy group labels assigns) q k in (ap (λ (r : Place). r.kind) at.4, ap (λ (r : Place). r.var) at.4);
        ends = λ q k h. let at = edge_places_are left right way (tree.NewElement token name copy group labels assigns) q k in (ends_of way at.0 at.1, ap (λ (r : Place). r.ends) at.4);
      })) (λ k. absurd (omega (arith, k.1))) (cons_cases _ [] a m)
  part_site left right (tree.Projected token p) a m = absurd (omega (arith, m.1))
  part_site left right (tree.NewStored token p labels assigns) a m = absurd (omega (arith, m.1))

  chain_site : (left : Option Sym) (ps : Tree (RowOf AConstructPart)) (a : Site) → Contains (chain_sites s left ps) a → IsSite a
  chain_site left tree.none a m = absurd (omega (arith, m.1))
  chain_site left (tree.more p ps) a m =
      ⊎_elim (λ k. part_site left (next_variable s ps) p a k) (λ k. chain_site (node_variable s p) ps a k)
      (Contains-append_cases (part_sites s left (next_variable s ps) p) (chain_sites s (node_variable s p) ps) a m)

  pub site_is : (items : Tree (RowOf AnItem)) (a : Site) → Contains (sites_of s items) a → IsSite a
  site_is tree.none a m = absurd (omega (arith, m.1))
  site_is (tree.more (tree.GraphItem g) items) a m = site_is items a m
  site_is (tree.more (tree.ChainItem parts changes condition) items) a m =
      ⊎_elim (λ k. chain_site None parts a k) (λ k. site_is items a k) (Contains-append_cases (chain_sites s None parts) (sites_of s items) a m)

  -- the nodes of a chain
  abbrev pub nodes_of : Tree (RowOf AConstructPart) → List Sym
  nodes_of parts = all_of (λ part. option_to_list (node_variable s part)) parts

  -- an edge in a chain between what stands beside it, which breaks no rule there
  pub record EdgeSite (matched : List Use) (links : List Link) (Node : Sym → Type 0) (a : Site) : Type 0 where
    pub way : Direction
    pub element : Tree ANewElement
    pub left : Option Sym
    pub right : Option Sym
    pub left_name : Option (List ℕ)
    pub right_name : Option (List ℕ)
    pub places : a.places ≡ edge_places s left right way element
    pub left_node : (x : Sym) → left ≡ Some x → Node x
    pub right_node : (x : Sym) → right ≡ Some x → Node x
    pub left_named : (n : List ℕ) → left_name ≡ Some n → left ≡ Some (variable_of s n)
    pub right_named : (n : List ℕ) → right_name ≡ Some n → right ≡ Some (variable_of s n)
    pub fits : IsUnbroken (loose_edge matched links left_name right_name way (bracket way a.token) (name_if a.name))

  part_named : (p : Tree AConstructPart) (n : List ℕ) → part_name p ≡ Some n → node_variable s p ≡ Some (variable_of s n)
  part_named (tree.NewNode (tree.NewElement token None copy group labels assigns)) n h = absurd (none-some n h)
  part_named (tree.NewNode (tree.NewElement token (Some x) copy group labels assigns)) n h = ap (λ k. Some (variable_of s k)) (same_Some x.name n h)
  part_named (tree.NewEdge way e) n h = absurd (none-some n h)
  part_named (tree.Projected token p) n h = absurd (none-some n h)
  part_named (tree.NewStored token p labels assigns) n h = absurd (none-some n h)

  next_named : (ps : Tree (RowOf AConstructPart)) (n : List ℕ) → front_part_name ps ≡ Some n → next_variable s ps ≡ Some (variable_of s n)
  next_named tree.none n h = absurd (none-some n h)
  next_named (tree.more p ps) n h = part_named p n h

  node_here : (p : Tree AConstructPart) (ps : Tree (RowOf AConstructPart)) (x : Sym) → node_variable s p ≡ Some x → Contains (nodes_of (tree.more p ps)) x
  node_here p ps x h =
      Contains-append_left (option_to_list (node_variable s p)) (nodes_of ps) x (subst (λ (o : Option Sym). Contains (option_to_list o) x) (sym h) (contains_here x []))

  node_next : (ps : Tree (RowOf AConstructPart)) (x : Sym) → next_variable s ps ≡ Some x → Contains (nodes_of ps) x
  node_next tree.none x h = absurd (none-some x h)
  node_next (tree.more p ps) x h = node_here p ps x h

  module _ (matched : List Use) (links : List Link) (Node : Sym → Type 0) where
    -- what a variable of a chain is: a node, a stored path, or an edge
    pub data IsPart (sites : List Site) (stored : List (List ℕ)) (x : Sym) : Type 0 where
      a_node : Node x → IsPart sites stored x
      a_stored : (n : List ℕ) → Contains stored n → x ≡ variable_of s n → IsPart sites stored x
      an_edge : (a : Site) → Contains sites a → x ≡ site_variable s a → a.kind ≡ kind.Edge → EdgeSite matched links Node a → IsPart sites stored x

    wider_part : (es bs : List Site) (ms ns : List (List ℕ)) (x : Sym) → ((a : Site) → Contains es a → Contains bs a) → ((n : List ℕ) → Contains ms n → Contains ns n) → IsPart es ms x → IsPart bs ns x
    wider_part es bs ms ns x f g (a_node h) = a_node h
    wider_part es bs ms ns x f g (a_stored n m is) = a_stored n (g n m) is
    wider_part es bs ms ns x f g (an_edge a m is k e) = an_edge a (f a m) is k e

    pub chain_part : (left : Option Sym) (left_name : Option (List ℕ)) (ps : Tree (RowOf AConstructPart)) → ((x : Sym) → left ≡ Some x → Node x) → ((n : List ℕ) → left_name ≡ Some n → left ≡ Some (variable_of s n))
        → ((x : Sym) → Contains (nodes_of ps) x → Node x) → IsUnbroken (loose_parts matched links left_name ps) → (x : Sym) → Contains (all_of (part_variables s) ps) x
        → IsPart (chain_sites s left ps) (all_of part_stored ps) x
    chain_part left left_name tree.none l ln nodes h x m = absurd (omega (arith, m.1))
    chain_part left left_name (tree.more p ps) l ln nodes h x m =
        let es = part_sites s left (next_variable s ps) p in
        let bs = chain_sites s (node_variable s p) ps in
        ⊎_elim
        (λ k. wider_part es (es ++ bs) (part_stored p) (part_stored p ++ all_of part_stored ps) x (Contains-append_left es bs) (Contains-append_left (part_stored p) (all_of part_stored ps)) (here p h.0 nodes k))
        (λ k. wider_part bs (es ++ bs) (all_of part_stored ps) (part_stored p ++ all_of part_stored ps) x (Contains-append_right es bs) (Contains-append_right (part_stored p) (all_of part_stored ps))
        (chain_part (node_variable s p) (part_name p) ps (λ y e. nodes y (node_here p ps y e)) (part_named p) (λ y n. nodes y (Contains-append_right (option_to_list (node_variable s p)) (nodes_of ps) y n)) h.1 x k))
        (Contains-append_cases (part_variables s p) (all_of (part_variables s) ps) x m)
      where
        here : (p : Tree AConstructPart) → IsUnbroken (loose_part matched links left_name (front_part_name ps) p) → ((y : Sym) → Contains (nodes_of (tree.more p ps)) y → Node y) → Contains (part_variables s p) x
            → IsPart (part_sites s left (next_variable s ps) p) (part_stored p) x
        here (tree.NewNode e) b f k = a_node (f x (node_here (tree.NewNode e) ps x (ap Some (⊎_elim (λ i. i) (λ r. absurd (omega (arith, r.1))) (cons_cases (element_variable s e) [] x k)))))
        here (tree.NewEdge way (tree.NewElement token name copy group labels assigns)) b f k =
            let e = tree.NewElement token name copy group labels assigns in
            let a : Site = record { token = token; name = name; kind = kind.Edge; places = edge_places s left (next_variable s ps) way e } in
            an_edge a (contains_here a []) (sym (⊎_elim (λ i. i) (λ r. absurd (omega (arith, r.1))) (cons_cases (element_variable s e) [] x k))) refl
            (record {
              way = way;
              element = e;
              left = left;
              right = next_variable s ps;
              left_name = left_name;
              right_name = front_part_name ps;
              places = refl;
              left_node = l;
              right_node = λ y i. f y (Contains-append_right (option_to_list (node_variable s (tree.NewEdge way e))) (nodes_of ps) y (node_next ps y i));
              left_named = ln;
              right_named = next_named ps;
              fits = b;
            })
        here (tree.Projected token q) b f k = absurd (omega (arith, k.1))
        here (tree.NewStored token q labels assigns) b f k =
            a_stored q.name (contains_here q.name []) (sym (⊎_elim (λ i. i) (λ r. absurd (omega (arith, r.1))) (cons_cases (variable_of s q.name) [] x k)))

  -- the nodes of a chain have places, and are among its variables
  pub node_listed : (ps : Tree (RowOf AConstructPart)) (x : Sym) → Contains (nodes_of ps) x → Contains (all_of (part_variables s) ps) x
  node_listed tree.none x m = absurd (omega (arith, m.1))
  node_listed (tree.more p ps) x m =
      ⊎_elim (λ k. Contains-append_left (part_variables s p) (all_of (part_variables s) ps) x (own p k)) (λ k. Contains-append_right (part_variables s p) (all_of (part_variables s) ps) x (node_listed ps x k))
      (Contains-append_cases (option_to_list (node_variable s p)) (nodes_of ps) x m)
    where
      own : (p : Tree AConstructPart) → Contains (option_to_list (node_variable s p)) x → Contains (part_variables s p) x
      own (tree.NewNode e) k = k
      own (tree.NewEdge way e) k = absurd (omega (arith, k.1))
      own (tree.Projected token q) k = absurd (omega (arith, k.1))
      own (tree.NewStored token q labels assigns) k = absurd (omega (arith, k.1))

  pub node_placed : (left : Option Sym) (ps : Tree (RowOf AConstructPart)) (x : Sym) → Contains (nodes_of ps) x → Contains (chain_places s left ps) (node_place x)
  node_placed left tree.none x m = absurd (omega (arith, m.1))
  node_placed left (tree.more p ps) x m =
      ⊎_elim (λ k. Contains-append_left (part_places s left (next_variable s ps) p) (chain_places s (node_variable s p) ps) (node_place x) (own p k))
      (λ k. Contains-append_right (part_places s left (next_variable s ps) p) (chain_places s (node_variable s p) ps) (node_place x) (node_placed (node_variable s p) ps x k))
      (Contains-append_cases (option_to_list (node_variable s p)) (nodes_of ps) x m)
    where
      own : (p : Tree AConstructPart) → Contains (option_to_list (node_variable s p)) x → Contains (part_places s left (next_variable s ps) p) (node_place x)
      own (tree.NewNode e) k = ⊎_elim (λ i. subst (λ y. Contains (node_place (element_variable s e) ∷ []) (node_place y)) i (contains_here (node_place (element_variable s e)) [])) (λ r. absurd (omega (arith, r.1))) (cons_cases (element_variable s e) [] x k)
      own (tree.NewEdge way e) k = absurd (omega (arith, k.1))
      own (tree.Projected token q) k = absurd (omega (arith, k.1))
      own (tree.NewStored token q labels assigns) k = absurd (omega (arith, k.1))
