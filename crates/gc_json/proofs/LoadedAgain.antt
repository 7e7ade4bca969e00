-- The elements of a graph that agrees with those of earlier files, list by list.
use Rattle.std.proofs.Common.{◌≡◌, ℕ, Bool, true, List, [], ◌∷◌, ◌++◌, map}
use Rattle.std.specs.List.{AllByRecursion, list_all}
use Rattle.std.proofs.lemmas.Bool.{and_parts}
use Rattle.gc_spec.specs.Coherence.{ElementShape, NodeShape, EdgeShape, PathShape}
use Rattle.gc_spec.specs.PropertyGraph.{Node, Edge, Path, PropertyGraph}
use Rattle.gc_ppg.specs.Shapes.{agrees, graph_agrees}
use Rattle.gc_json.specs.FileElements.{Seen}
use Rattle.gc_json.proofs.FileAgrees.{all-parts}

abbrev pub NodeAgrees : Seen → Node → Type 0
NodeAgrees seen n = agrees seen n.id NodeShape ≡ true

abbrev pub EdgeAgrees : Seen → Edge → Type 0
EdgeAgrees seen e = agrees seen e.id (EdgeShape e.from e.to) ≡ true

abbrev pub PathAgrees : Seen → Path → Type 0
PathAgrees seen p = agrees seen p.id (PathShape p.walk) ≡ true

pub record AgreesWith (seen : Seen) (g : PropertyGraph) : Type 0 where
  pub nodes : AllByRecursion (NodeAgrees seen) g.nodes
  pub edges : AllByRecursion (EdgeAgrees seen) g.edges
  pub paths : AllByRecursion (PathAgrees seen) g.paths

module _ {X Y : Type 0} (p : Y → Bool) (f : X → Y) where
  each_all : (xs : List X) → list_all p (map f xs) ≡ true → AllByRecursion (λ x. p (f x) ≡ true) xs
  each_all [] h = tt
  each_all (x ∷ xs) h = let here = and_parts (p (f x)) (list_all p (map f xs)) h in (here.0, each_all xs here.1)

-- a graph agrees where each of its nodes, its edges and its stored paths does
pub agrees_by_lists : (seen : Seen) (g : PropertyGraph) → graph_agrees seen g ≡ true → AgreesWith seen g
agrees_by_lists seen g h =
    let test : ℕ × ElementShape → Bool = λ s. agrees seen s.0 s.1 in
    let nodes = map (λ (n : Node). (n.id, NodeShape)) g.nodes in
    let edges = map (λ (e : Edge). (e.id, EdgeShape e.from e.to)) g.edges in
    let paths = map (λ (p : Path). (p.id, PathShape p.walk)) g.paths in
    let last = all-parts test (nodes ++ edges) paths h in
    let first = all-parts test nodes edges last.0 in
    record {
      nodes = each_all test (λ (n : Node). (n.id, NodeShape)) g.nodes first.0;
      edges = each_all test (λ (e : Edge). (e.id, EdgeShape e.from e.to)) g.edges first.1;
      paths = each_all test (λ (p : Path). (p.id, PathShape p.walk)) g.paths last.1;
    }
