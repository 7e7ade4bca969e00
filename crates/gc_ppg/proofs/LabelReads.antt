-- Elements read through the places of their labels.
use Rattle.std.proofs.Common.{◌≡◌, ℕ, zero, suc, ◌+◌, true, false, cond, List, [], ◌∷◌, length, drop, map, refl, ap, subst, Option, Some, IfSome}
use Rattle.std.specs.List.{filter, slice_get}
use Rattle.std.specs.Option.{option_and_then}
use Rattle.gc_base.specs.Ascending.{has}
use Rattle.gc_base.specs.Literals.{text_order}
use Rattle.gc_spec.specs.PropertyGraph.{PropertyGraph}
use Rattle.gc_ppg.specs.LabelPlaces.{places_from, places_of}
use Rattle.gc_ppg.specs.LabelReads.{kind_ids, labelled_places}
use Rattle.gc_ppg.specs.LabelledIds.{labelled_ids}
use Rattle.gc_ppg.specs.declared.shape.Kind.{Kind}
use Rattle.gc_ppg.specs.declared.shape.Kind.TheVariants.{Node, Edge, Path}
use Rattle.gc_ppg.specs.Indexed.{IsIndex, labels_in}
use Rattle.gc_ppg.specs.declared.index.GraphIndex.{GraphIndex}
use Rattle.gc_ppg.proofs.EndPlaces.{head_at}

module _ {X : Type 0} (id_of : X → ℕ) (labels : X → List (List ℕ)) (label : List ℕ) where
  abbrev pub labelled : List X → List ℕ
  labelled xs = map id_of (filter (λ x. has text_order (labels x) label) xs)

  -- there are as many places as elements with the label
  pub count_places : (n : ℕ) (xs : List X) → length (places_from labels label n xs) ≡ length (labelled xs)
  count_places n [] = refl
  count_places n (x ∷ xs) =
      elim (has text_order (labels x) label) as
      (λ b. length (cond b (n ∷ places_from labels label (n + 1) xs) (places_from labels label (n + 1) xs)) ≡ length (map id_of (cond b (x ∷ filter (λ y. has text_order (labels y) label) xs) (filter (λ y. has text_order (labels y) label) xs)))) [
        | true ↦ ap suc (count_places (n + 1) xs)
        | false ↦ count_places (n + 1) xs
      ]

  -- the i-th place is that of the i-th element with the label
  pub read_places : (all : List ℕ) (n : ℕ) (xs : List X) (i : ℕ) → drop n all ≡ map id_of xs
      → option_and_then (slice_get all) (slice_get (places_from labels label n xs) i) ≡ slice_get (labelled xs) i
  read_places all n [] i h = refl
  read_places all n (x ∷ xs) zero h =
      let r = head_at n all (id_of x) (map id_of xs) h in
      elim (has text_order (labels x) label) as
      (λ b. option_and_then (slice_get all) (slice_get (cond b (n ∷ places_from labels label (n + 1) xs) (places_from labels label (n + 1) xs)) 0)
      ≡ slice_get (map id_of (cond b (x ∷ filter (λ y. has text_order (labels y) label) xs) (filter (λ y. has text_order (labels y) label) xs))) 0) [
        | true ↦ r.0
        | false ↦ read_places all (n + 1) xs 0 r.1
      ]
  read_places all n (x ∷ xs) (suc i) h =
      let r = head_at n all (id_of x) (map id_of xs) h in
      elim (has text_order (labels x) label) as
      (λ b. option_and_then (slice_get all) (slice_get (cond b (n ∷ places_from labels label (n + 1) xs) (places_from labels label (n + 1) xs)) (suc i))
      ≡ slice_get (map id_of (cond b (x ∷ filter (λ y. has text_order (labels y) label) xs) (filter (λ y. has text_order (labels y) label) xs))) (suc i)) [
        | true ↦ read_places all (n + 1) xs i r.1
        | false ↦ read_places all (n + 1) xs (suc i) r.1
      ]

pub count_of_kind : (g : PropertyGraph) (kind : Kind) (label : List ℕ) → length (labelled_places g kind label) ≡ length (labelled_ids g kind label)
count_of_kind g Node label = count_places (λ n. n.id) (λ n. n.labels) label 0 g.nodes
count_of_kind g Edge label = count_places (λ e. e.id) (λ e. e.labels) label 0 g.edges
count_of_kind g Path label = count_places (λ p. p.id) (λ p. p.labels) label 0 g.paths

pub read_of_kind : (g : PropertyGraph) (kind : Kind) (label : List ℕ) (i : ℕ) → option_and_then (slice_get (kind_ids g kind)) (slice_get (labelled_places g kind label) i) ≡ slice_get (labelled_ids g kind label) i
read_of_kind g Node label i = read_places (λ n. n.id) (λ n. n.labels) label (kind_ids g Node) 0 g.nodes i refl
read_of_kind g Edge label i = read_places (λ e. e.id) (λ e. e.labels) label (kind_ids g Edge) 0 g.edges i refl
read_of_kind g Path label i = read_places (λ p. p.id) (λ p. p.labels) label (kind_ids g Path) 0 g.paths i refl

-- an index gives for each label the places of the elements of a kind that have it
pub places_of_kind : (g : PropertyGraph) (index : GraphIndex) (kind : Kind) (label : List ℕ) → IsIndex g index → places_of (labels_in index kind) label ≡ labelled_places g kind label
places_of_kind g index Node label h = h.node_labels label
places_of_kind g index Edge label h = h.edge_labels label
places_of_kind g index Path label h = h.path_labels label

-- the index that a graph has
pub index_of : (g h : PropertyGraph) (o : Option GraphIndex) (index : GraphIndex) → IfSome o (IsIndex g) → o ≡ Some index → g ≡ h → IsIndex h index
index_of g h o index is_index some same = subst (λ k. IsIndex k index) same (subst (λ p. IfSome p (IsIndex g)) some is_index)
