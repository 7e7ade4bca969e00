-- The canonical text of a graph is read as the data of that graph.
use Rattle.std.proofs.Common.{◌≡◌, ℕ, ◌^◌, ◌<◌, ◌≤◌, pos, negsuc, List, [], ◌∷◌, map, Some, Less, refl, arith, Bool, true, false, ◌==◌, ◌&&◌, ◌||◌}
use Rattle.std.proofs.lemmas.Bool.{and_parts}
use Rattle.std.proofs.lemmas.Bool.Decides.{nat_tests}
use Rattle.std.specs.List.{AllByRecursion}
use Rattle.gc_base.specs.Ascending.{Ascends}
use Rattle.gc_base.specs.Literals.{IsLiteral, text_order}
use Rattle.gc_base.specs.PropertyLists.{IsProperty, property_order}
use Rattle.gc_base.specs.Words.{is_word}
use Rattle.gc_base.specs.declared.literal.Literal.{Literal}
use Rattle.gc_base.specs.declared.literal.Literal.TheVariants.{Truth, Number, Text}
use Rattle.gc_base.specs.declared.properties.Property.{Property}
use Rattle.gc_base.specs.declared.walk.Step.{Step}
use Rattle.gc_spec.specs.PropertyGraph.{Node, Edge, Path, PropertyGraph, IsId, IsNode, IsEdge, IsPath, IsGraph, node_ids, is_among, is_joined, are_steps_from}
use Rattle.serde_json.specs.Data.{Data, string, depth, items_depth, members_depth}
use Rattle.serde_json.specs.Read.{read}
use Rattle.serde_json.specs.View.{items_of}
use Rattle.gc_json.specs.CanonicalText.{literal_data, property_members, step_items, walk_data, node_data, edge_data, path_data, graph_data, canonical_text}
use Rattle.gc_json.proofs.ReadsBack.{IsExact, ItemsAreExact, MembersAreExact, IsBelow, read-compact_text}

fits : (id : ℕ) → IsId id → id < 2 ^ 64
fits id h = omega arith

-- ---- each part is exact

pub items_exact : {X : Type 0} (f : X → Data) (P : X → Type 0) → ((x : X) → P x → IsExact (f x)) → (xs : List X) → AllByRecursion P xs → ItemsAreExact (items_of (map f xs))
items_exact f P each [] h = tt
items_exact f P each (x ∷ xs) h = (each x h.0, items_exact f P each xs h.1)

literal_exact : (l : Literal) → IsLiteral l → IsExact (literal_data l)
literal_exact (Truth t) h = tt
literal_exact (Number (pos n)) h = omega arith
literal_exact (Number (negsuc n)) h = omega arith
literal_exact (Text t) h = tt

below : (name : List ℕ) (ps : List Property) → AllByRecursion (λ p. text_order name p.name ≡ Less) ps → IsBelow name (property_members ps)
below name [] h = tt
below name (p ∷ ps) h = (h.0, below name ps h.1)

properties_exact : (ps : List Property) → Ascends property_order ps → AllByRecursion IsProperty ps → MembersAreExact (property_members ps)
properties_exact [] h each = tt
properties_exact (p ∷ ps) h each = (items_exact literal_data IsLiteral literal_exact p.values each.0.values.literals, below p.name ps h.0, properties_exact ps h.1 each.1)

node_exact : (n : Node) → IsNode n → IsExact (node_data n)
node_exact n h =
    let id : n.id < 2 ^ 64 = omega (arith, h.id) in
    let labels = items_exact string (λ label. is_word label ≡ true) (λ label w. tt) n.labels h.labels.words in
    (id, (refl, (refl, tt)), (labels, (refl, tt), (properties_exact n.properties h.properties.ascend h.properties.each, tt, tt)))

-- ---- each part is flat enough

pub items_flat : {X : Type 0} (f : X → Data) (n : ℕ) → ((x : X) → depth (f x) ≤ n) → (xs : List X) → items_depth (items_of (map f xs)) ≤ n
items_flat f n each [] = omega arith
items_flat f n each (x ∷ xs) = omega (arith, each x, items_flat f n each xs)

literal_flat : (l : Literal) → depth (literal_data l) ≤ 0
literal_flat (Truth t) = omega arith
literal_flat (Number n) = omega arith
literal_flat (Text t) = omega arith

properties_flat : (ps : List Property) → members_depth (property_members ps) ≤ 1
properties_flat [] = omega arith
properties_flat (p ∷ ps) = omega (arith, items_flat literal_data 0 literal_flat p.values, properties_flat ps)

node_flat : (n : Node) → depth (node_data n) ≤ 3
node_flat n = omega (arith, items_flat string 0 (λ label. omega arith) n.labels, properties_flat n.properties)

edge_flat : (e : Edge) → depth (edge_data e) ≤ 3
edge_flat e = omega (arith, items_flat string 0 (λ label. omega arith) e.labels, properties_flat e.properties)

pub steps_flat : (steps : List Step) → items_depth (step_items steps) ≤ 0
steps_flat [] = omega arith
steps_flat (step ∷ steps) = omega (arith, steps_flat steps)

path_flat : (p : Path) → depth (path_data p) ≤ 3
path_flat p = omega (arith, items_flat string 0 (λ label. omega arith) p.labels, properties_flat p.properties, steps_flat p.walk.steps)

pub graph_flat : (g : PropertyGraph) → depth (graph_data g) ≤ 5
graph_flat g = omega (arith, items_flat node_data 3 node_flat g.nodes, items_flat edge_data 3 edge_flat g.edges, items_flat path_data 3 path_flat g.paths)

-- ---- ends and walks are of the graph, so their identities are bounded too

choose : (b c : Bool) {P : Type 0} → (b || c) ≡ true → (b ≡ true → P) → (c ≡ true → P) → P
choose true c h left right = left refl
choose false c h left right = right h

same_id : (a b : ℕ) → (a == b) ≡ true → IsId a → IsId b
same_id a b h bound = grind (arith, nat_tests)

pub node_bound : (nodes : List Node) (id : ℕ) → AllByRecursion IsNode nodes → is_among (node_ids nodes) id ≡ true → IsId id
node_bound [] id each h = cc
node_bound (n ∷ nodes) id each h =
    choose (n.id == id) _ h (λ same. same_id n.id id same each.0.id) (λ later. node_bound nodes id each.1 later)

-- the identities of an edge and its ends
pub record Bounded (e : Edge) : Type 0 where
  pub id : IsId e.id
  pub from : IsId e.from
  pub to : IsId e.to

pub edges_bounded : (nodes : List Node) → AllByRecursion IsNode nodes → (edges : List Edge) → AllByRecursion (IsEdge nodes) edges → AllByRecursion Bounded edges
edges_bounded nodes are [] each = tt
edges_bounded nodes are (e ∷ edges) each = (
  record { id = each.0.id; from = node_bound nodes e.from are each.0.source; to = node_bound nodes e.to are each.0.target },
  edges_bounded nodes are edges each.1,
)

pub joined_bound : (edges : List Edge) (id a b : ℕ) → AllByRecursion Bounded edges → is_joined edges id a b ≡ true → IsId id × IsId b
joined_bound [] id a b each h = cc
joined_bound (e ∷ edges) id a b each h =
    choose ((e.id == id) && ((e.from == a && e.to == b) || (e.from == b && e.to == a))) _ h
    (λ here.
    let p = and_parts (e.id == id) _ here in (
      same_id e.id id p.0 each.0.id,
      choose (e.from == a && e.to == b) _ p.1 (λ q. same_id e.to b (and_parts (e.from == a) _ q).1 each.0.to) (λ q. same_id e.from b (and_parts (e.from == b) _ q).0 each.0.from),
    ))
    (λ later. joined_bound edges id a b each.1 later)

steps_exact : (edges : List Edge) (node : ℕ) (steps : List Step) → AllByRecursion Bounded edges → are_steps_from edges node steps ≡ true → ItemsAreExact (step_items steps)
steps_exact edges node [] each h = tt
steps_exact edges node (step ∷ steps) each h =
    let p = and_parts (is_joined edges step.edge node step.node) _ h in
    let bound = joined_bound edges step.edge node step.node each p.0 in
    (fits step.edge bound.0, (fits step.node bound.1, steps_exact edges step.node steps each p.1))

edge_exact : (nodes : List Node) → AllByRecursion IsNode nodes → (e : Edge) → IsEdge nodes e → IsExact (edge_data e)
edge_exact nodes are e h =
    let labels = items_exact string (λ label. is_word label ≡ true) (λ label w. tt) e.labels h.labels.words in (
      fits e.from (node_bound nodes e.from are h.source),
      (refl, (refl, (refl, (refl, tt)))),
      (
        fits e.id h.id,
        (refl, (refl, (refl, tt))),
        (
          labels,
          (refl, (refl, tt)),
          (properties_exact e.properties h.properties.ascend h.properties.each, (refl, tt), (fits e.to (node_bound nodes e.to are h.target), tt, tt)),
        ),
      ),
    )

path_exact : (nodes : List Node) (edges : List Edge) → AllByRecursion IsNode nodes → AllByRecursion Bounded edges → (p : Path) → IsPath nodes edges p → IsExact (path_data p)
path_exact nodes edges are bounded p h =
    let labels = items_exact string (λ label. is_word label ≡ true) (λ label w. tt) p.labels h.labels.words in
    let walk = and_parts (is_among (node_ids nodes) p.walk.start) _ h.walk in
    let items : IsExact (walk_data p.walk) = (fits p.walk.start (node_bound nodes p.walk.start are walk.0), steps_exact edges p.walk.start p.walk.steps bounded walk.1) in (
      fits p.id h.id,
      (refl, (refl, (refl, tt))),
      (labels, (refl, (refl, tt)), (properties_exact p.properties h.properties.ascend h.properties.each, (refl, tt), (items, tt, tt))),
    )

pub graph_exact : (g : PropertyGraph) → IsGraph g → IsExact (graph_data g)
graph_exact g h =
    let nodes = items_exact node_data IsNode node_exact g.nodes h.nodes in
    let edges = items_exact edge_data (IsEdge g.nodes) (edge_exact g.nodes h.nodes) g.edges h.edges in
    let paths = items_exact path_data (IsPath g.nodes g.edges) (path_exact g.nodes g.edges h.nodes (edges_bounded g.nodes h.nodes g.edges h.edges)) g.paths h.paths in
    (edges, (refl, (refl, (refl, tt))), (omega arith, (refl, (refl, tt)), (nodes, (refl, tt), (paths, tt, tt))))

pub read-canonical_text : (g : PropertyGraph) → IsGraph g → read (canonical_text g) ≡ Some (graph_data g)
read-canonical_text g h = read-compact_text (graph_data g) (graph_exact g h) (omega (arith, graph_flat g))
