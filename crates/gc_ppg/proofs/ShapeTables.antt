-- Looking a shape up among those of nodes, edges and stored paths.
use Rattle.std.proofs.Common.{◌≡◌, ℕ, Bool, true, false, cond, ◌==◌, List, [], ◌∷◌, ◌++◌, map, Option, Some, refl, sym, ap, ◌∙◌}
use Rattle.std.specs.declared.cmp.Ordering.{Ordering}
use Rattle.std.specs.declared.cmp.Ordering.TheVariants.{Less}
use Rattle.std.specs.List.{AllByRecursion, find}
use Rattle.std.specs.Map.{lookup}
use Rattle.std.specs.Option.{option_or, option_map}
use Rattle.gc_base.specs.Ascending.{Ascends}
use Rattle.gc_spec.specs.Coherence.{ElementShape, NodeShape, EdgeShape, PathShape, shapes_of}
use Rattle.gc_spec.specs.PropertyGraph.{PropertyGraph}
use Rattle.gc_ppg.specs.Shapes.{same_if_there, shape_in}
use Rattle.gc_ppg.specs.Tables.{ends_of, walk_of}
use Rattle.gc_ppg.specs.declared.coherence.EdgeEnds.{EdgeEnds}
use Rattle.gc_ppg.specs.declared.coherence.PathWalk.{PathWalk}

or_cond : {V : Type 0} (b : Bool) (v : V) (o p : Option V) → cond b (Some v) (option_or o p) ≡ option_or (cond b (Some v) o) p
or_cond b v o p = elim b as (λ c. cond c (Some v) (option_or o p) ≡ option_or (cond c (Some v) o) p) [ true ↦ refl | false ↦ refl ]

map_cond : {X V : Type 0} (f : X → V) (b : Bool) (x : X) (o : Option X) → cond b (Some (f x)) (option_map f o) ≡ option_map f (cond b (Some x) o)
map_cond f b x o = elim b as (λ c. cond c (Some (f x)) (option_map f o) ≡ option_map f (cond c (Some x) o)) [ true ↦ refl | false ↦ refl ]

lookup-append : {V : Type 0} (test : ℕ → Bool) (es fs : List (ℕ × V)) → lookup test (es ++ fs) ≡ option_or (lookup test es) (lookup test fs)
lookup-append test [] fs = refl
lookup-append test (e ∷ es) fs = ap (cond (test e.0) (Some e.1)) (lookup-append test es fs) ∙ or_cond (test e.0) e.1 (lookup test es) (lookup test fs)

lookup-keyed : {X V : Type 0} (key : X → ℕ) (value : X → V) (xs : List X) (id : ℕ)
    → lookup (λ other. other == id) (map (λ x. (key x, value x)) xs) ≡ option_map value (find (λ x. key x == id) xs)
lookup-keyed key value [] id = refl
lookup-keyed key value (x ∷ xs) id = ap (cond (key x == id) (Some (value x))) (lookup-keyed key value xs id) ∙ map_cond value (key x == id) x (find (λ y. key y == id) xs)

abbrev pub edge_shape : EdgeEnds → ElementShape
edge_shape e = EdgeShape e.from e.to

abbrev pub path_shape : PathWalk → ElementShape
path_shape p = PathShape p.walk

abbrev pub table : List ℕ → List EdgeEnds → List PathWalk → List (ℕ × ElementShape)
table ns es ps = map (λ i. (i, NodeShape)) ns ++ map (λ e. (e.id, EdgeShape e.from e.to)) es ++ map (λ p. (p.id, PathShape p.walk)) ps

abbrev pub first_shape : Option ℕ → Option EdgeEnds → Option PathWalk → Option ElementShape
first_shape n e p = option_or (option_or (option_map (λ _. NodeShape) n) (option_map edge_shape e)) (option_map path_shape p)

shape_found : (ns : List ℕ) (es : List EdgeEnds) (ps : List PathWalk) (id : ℕ)
    → shape_in (table ns es ps) id ≡ first_shape (find (λ i. i == id) ns) (find (λ e. e.id == id) es) (find (λ p. p.id == id) ps)
shape_found ns es ps id =
    let test : ℕ → Bool = λ other. other == id in
    lookup-append test (map (λ i. (i, NodeShape)) ns ++ map (λ e. (e.id, EdgeShape e.from e.to)) es) (map (λ p. (p.id, PathShape p.walk)) ps)
    ∙ (λ j. option_or
    ((lookup-append test (map (λ i. (i, NodeShape)) ns) (map (λ e. (e.id, EdgeShape e.from e.to)) es)
    ∙ (λ k. option_or (lookup-keyed (λ i. i) (λ _. NodeShape) ns id k) (lookup-keyed (λ e. e.id) edge_shape es id k))) j)
    (lookup-keyed (λ p. p.id) path_shape ps id j))

-- whether a shape is the same as the one that is found in turn
pub found_there : (ns : List ℕ) (es : List EdgeEnds) (ps : List PathWalk) (id : ℕ) (shape : ElementShape) (shapes : List (ℕ × ElementShape)) (n : Option ℕ) (e : Option EdgeEnds) (p : Option PathWalk)
    → table ns es ps ≡ shapes → n ≡ find (λ i. i == id) ns → e ≡ find (λ x. x.id == id) es → p ≡ find (λ x. x.id == id) ps
    → same_if_there (first_shape n e p) shape ≡ same_if_there (shape_in shapes id) shape
found_there ns es ps id shape shapes n e p same hn he hp =
    (λ j. same_if_there (first_shape (hn j) (he j) (hp j)) shape) ∙ (ap (λ o. same_if_there o shape) (sym (shape_found ns es ps id)) ∙ ap (λ t. same_if_there (shape_in t id) shape) same)

map-map : {X Y Z : Type 0} (f : X → Y) (g : Y → Z) (xs : List X) → map g (map f xs) ≡ map (λ x. g (f x)) xs
map-map f g [] = refl
map-map f g (x ∷ xs) = ap (λ zs. g (f x) ∷ zs) (map-map f g xs)

below_all : {X Y : Type 0} (f : X → Y) (P : Y → Type 0) (xs : List X) → AllByRecursion (λ x. P (f x)) xs → AllByRecursion P (map f xs)
below_all f P [] h = tt
below_all f P (x ∷ xs) h = (h.0, below_all f P xs h.1)

-- what ascends by an image ascends as a list of images
pub Ascends-map : {X Y : Type 0} (f : X → Y) (cmp : Y → Y → Ordering) (xs : List X) → Ascends (λ x y. cmp (f x) (f y)) xs → Ascends cmp (map f xs)
Ascends-map f cmp [] h = tt
Ascends-map f cmp (x ∷ xs) h = (below_all f (λ y. cmp (f x) y ≡ Less) xs h.0, Ascends-map f cmp xs h.1)

-- the table of a graph's elements is its shapes
pub table_of : (g : PropertyGraph) (ns : List ℕ) (es : List EdgeEnds) (ps : List PathWalk) → ns ≡ map (λ n. n.id) g.nodes → es ≡ map ends_of g.edges → ps ≡ map walk_of g.paths → table ns es ps ≡ shapes_of g
table_of g ns es ps hn he hp =
    (λ j. table (hn j) (he j) (hp j))
    ∙ (λ j. map-map (λ n. n.id) (λ i. (i, NodeShape)) g.nodes j ++ map-map ends_of (λ e. (e.id, EdgeShape e.from e.to)) g.edges j ++ map-map walk_of (λ p. (p.id, PathShape p.walk)) g.paths j)
