-- What identities stand for: those of elements of different kinds differ.
use Rattle.std.proofs.Common.{◌≡◌, ℕ, true, false, cond, ◌||◌, ◌==◌, List, [], ◌∷◌, ◌++◌, map, Option, Some, refl, sym, ap, ◌∙◌, subst}
use Rattle.std.specs.Cmp.{nat_eq_equiv, unsigned_tied}
use Rattle.std.specs.List.{AllByRecursion}
use Rattle.std.specs.Map.{lookup}
use Rattle.std.specs.Ordering.{nat_cmp, on, is_eq}
use Rattle.std.specs.declared.cmp.Ordering.TheVariants.{Less}
use Rattle.std.proofs.lemmas.Bool.{eqb-true}
use Rattle.std.proofs.lemmas.List.{map-append}
use Rattle.gc_base.specs.Ascending.{Ascends}
use Rattle.gc_spec.specs.Coherence.{ElementShape, NodeShape, EdgeShape, PathShape, shapes_of, shape_at}
use Rattle.gc_spec.specs.PropertyGraph.{PropertyGraph, Node, Edge, Path, AreDistinct, is_among, ids_of}
use Rattle.gc_sets.specs.Additions.{AreNew}
use Rattle.gc_sets.proofs.NewIds.{neither, or_not}

itself : (a : ℕ) → (a == a) ≡ true
itself a = nat_eq_equiv.refl a

abbrev entry_ids : List (ℕ × ElementShape) → List ℕ
entry_ids es = map (λ e. e.0) es

-- each of some entries is what the look-up in all finds
abbrev AreFound : List (ℕ × ElementShape) → List (ℕ × ElementShape) → Type 0
AreFound all es = AllByRecursion (λ e. lookup (λ other. other == e.0) all ≡ Some e.1) es

found_behind : (x : ℕ × ElementShape) (all es : List (ℕ × ElementShape)) → is_among (entry_ids es) x.0 ≡ false → AreFound all es → AreFound (x ∷ all) es
found_behind x all [] apart h = tt
found_behind x all (e ∷ es) apart h =
    let parts = neither (e.0 == x.0) (is_among (entry_ids es) x.0) apart in (
      ap (λ b. cond b (Some x.1) (lookup (λ other. other == e.0) all)) (nat_eq_equiv.symm x.0 e.0 ∙ parts.0) ∙ h.0,
      found_behind x all es parts.1 h.1,
    )

all_found : (es : List (ℕ × ElementShape)) → AreDistinct (entry_ids es) → AreFound es es
all_found [] d = tt
all_found (e ∷ es) d = (
  ap (λ b. cond b (Some e.1) (lookup (λ other. other == e.0) es)) (itself e.0),
  found_behind e es es d.0 (all_found es d.1),
)

parts_of : {X : Type 0} (P : X → Type 0) (xs ys : List X) → AllByRecursion P (xs ++ ys) → AllByRecursion P xs × AllByRecursion P ys
parts_of P [] ys h = (tt, h)
parts_of P (x ∷ xs) ys h = let rest = parts_of P xs ys h.1 in ((h.0, rest.0), rest.1)

of_map : {X Y : Type 0} (P : Y → Type 0) (f : X → Y) (xs : List X) → AllByRecursion P (map f xs) → AllByRecursion (λ x. P (f x)) xs
of_map P f [] h = tt
of_map P f (x ∷ xs) h = (h.0, of_map P f xs h.1)

map_map : {X Y Z : Type 0} (f : Y → Z) (k : X → Z) (h : X → Y) → ((x : X) → f (h x) ≡ k x) → (xs : List X) → map f (map h xs) ≡ map k xs
map_map f k h e [] = refl
map_map f k h e (x ∷ xs) = λ i. e x i ∷ map_map f k h e xs i

abbrev node_entry : Node → ℕ × ElementShape
node_entry n = (n.id, NodeShape)

abbrev edge_entry : Edge → ℕ × ElementShape
edge_entry e = (e.id, EdgeShape e.from e.to)

abbrev path_entry : Path → ℕ × ElementShape
path_entry p = (p.id, PathShape p.walk)

ids_of_shapes : (g : PropertyGraph) → entry_ids (shapes_of g) ≡ ids_of g
ids_of_shapes g =
    map-append (λ e. e.0) (map node_entry g.nodes ++ map edge_entry g.edges) (map path_entry g.paths)
    ∙ (ap (λ l. l ++ entry_ids (map path_entry g.paths)) (map-append (λ e. e.0) (map node_entry g.nodes) (map edge_entry g.edges))
    ∙ (λ i. (map_map (λ e. e.0) (λ n. n.id) node_entry (λ n. refl) g.nodes i ++ map_map (λ e. e.0) (λ e. e.id) edge_entry (λ e. refl) g.edges i) ++ map_map (λ e. e.0) (λ p. p.id) path_entry (λ p. refl) g.paths i))

module _ (shape : ℕ → Option ElementShape) where
  abbrev pub AreNodes : List Node → Type 0
  AreNodes ns = AllByRecursion (λ n. shape n.id ≡ Some NodeShape) ns

  abbrev pub AreEdges : List Edge → Type 0
  AreEdges es = AllByRecursion (λ e. shape e.id ≡ Some (EdgeShape e.from e.to)) es

  abbrev pub ArePaths : List Path → Type 0
  ArePaths ps = AllByRecursion (λ p. shape p.id ≡ Some (PathShape p.walk)) ps

  injective : {X : Type 0} (x y : X) → Some x ≡ Some y → x ≡ y
  injective x y e = cc e

  pub not_among : {X : Type 0} (key : X → ℕ) (of : X → ElementShape) (xs : List X) (q : ℕ) (s : ElementShape)
      → AllByRecursion (λ x. shape (key x) ≡ Some (of x)) xs → ((x : X) → of x ≡ s → ⊥) → shape q ≡ Some s → is_among (map key xs) q ≡ false
  not_among key of [] q s h apart is = refl
  not_among key of (x ∷ xs) q s h apart is =
      elim (key x == q) as (λ b. (key x == q) ≡ b → (b || is_among (map key xs) q) ≡ false) [
        | true ↦ λ e. absurd (apart x (injective (of x) s (sym h.0 ∙ (ap shape (eqb-true (key x) q e) ∙ is))))
        | false ↦ λ e. not_among key of xs q s h.1 apart is
      ] refl

-- each element of a graph is found as what it is
pub record IsShaped (g : PropertyGraph) (shape : ℕ → Option ElementShape) : Type 0 where
  pub nodes : AreNodes shape g.nodes
  pub edges : AreEdges shape g.edges
  pub paths : ArePaths shape g.paths

pub own_shapes : (g : PropertyGraph) → AreDistinct (ids_of g) → IsShaped g (shape_at g)
own_shapes g d =
    let P : ℕ × ElementShape → Type 0 = λ e. lookup (λ other. other == e.0) (shapes_of g) ≡ Some e.1 in
    let all = all_found (shapes_of g) (subst AreDistinct (sym (ids_of_shapes g)) d) in
    let outer = parts_of P (map node_entry g.nodes ++ map edge_entry g.edges) (map path_entry g.paths) all in
    let inner = parts_of P (map node_entry g.nodes) (map edge_entry g.edges) outer.0 in
    record { nodes = of_map P node_entry g.nodes inner.0; edges = of_map P edge_entry g.edges inner.1; paths = of_map P path_entry g.paths outer.1 }

-- ascending elements have identities of their own
pub new_ascending : {X : Type 0} (key : X → ℕ) (taken : List ℕ) (xs : List X) → Ascends (on key nat_cmp) xs → AllByRecursion (λ x. is_among taken (key x) ≡ false) xs → AreNew taken (map key xs)
new_ascending key taken [] up h = tt
new_ascending {X} key taken (x ∷ xs) up h = (h.0, new_ascending key (key x ∷ taken) xs up.1 (others xs up.0 h.1))
  where
    others : (ys : List X) → AllByRecursion (λ y. on key nat_cmp x y ≡ Less) ys → AllByRecursion (λ y. is_among taken (key y) ≡ false) ys → AllByRecursion (λ y. is_among (key x ∷ taken) (key y) ≡ false) ys
    others [] a b = tt
    others (y ∷ ys) a b = (or_not (key x == key y) (is_among taken (key y)) (sym (unsigned_tied (key x) (key y)) ∙ ap is_eq a.0) b.0, others ys a.1 b.1)
