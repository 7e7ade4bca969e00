-- What is made so far, with one element more.
use Rattle.std.proofs.Common.{◌≡◌, ℕ, ◌+◌, ◌<◌, ◌≤◌, true, false, List, [], ◌++◌, map, None, refl, sym, ap, ◌∙◌, subst, arith}
use Rattle.std.proofs.lemmas.List.{append-nil}
use Rattle.std.proofs.lemmas.List.FromFn.{map-range_with_len_more}
use Rattle.std.specs.List.{AllByRecursion, range_with_len}
use Rattle.gc_base.proofs.SetLaws.{AllByRecursion-append}
use Rattle.gc_make.proofs.Numbered.{keys_below, none_among, numbered_among, numbered_below, with_last}
use Rattle.gc_make.specs.MadeGraphs.{made_edge, made_node, made_nodes, made_of}
use Rattle.gc_ppg.specs.Built.{missing_end, with_edge, with_node}
use Rattle.gc_spec.specs.PropertyGraph.{Edge, Node, edge_ids, ids_of, is_among, node_ids}

nodes_below : (n k : ℕ) → n ≤ k → AllByRecursion (λ (y : Node). y.id < k) (map made_node (range_with_len 0 n))
nodes_below n k h = numbered_below (λ (y : Node). y.id) made_node 0 (λ i. omega arith) 0 n k (omega (arith, h))

node_ids_below : (n k : ℕ) → n ≤ k → AllByRecursion (λ id. id < k) (node_ids (map made_node (range_with_len 0 n)))
node_ids_below n k h = keys_below (λ (y : Node). y.id) (map made_node (range_with_len 0 n)) k (nodes_below n k h)

-- the number of the next node is free, and behind it there is one node more
pub node_fresh : (i : ℕ) → is_among (ids_of (made_nodes i)) i ≡ false
node_fresh i =
    let nodes : List ℕ = node_ids (map made_node (range_with_len 0 i)) in
    none_among (ids_of (made_nodes i)) i
    (AllByRecursion-append (λ id. id < i) (nodes ++ []) [] (AllByRecursion-append (λ id. id < i) nodes [] (node_ids_below i i (omega arith)) tt) tt)

pub node_more : (i : ℕ) → with_node (made_nodes i) (made_node i) ≡ made_nodes (i + 1)
node_more i =
    ap (λ nodes. record { nodes = nodes; edges = []; paths = [] })
    (with_last (λ (y : Node). y.id) (map made_node (range_with_len 0 i)) (made_node i) (nodes_below i i (omega arith))
    ∙ sym (map-range_with_len_more made_node 0 i i (omega arith)))

module _ (n : ℕ) (edge : ℕ → Edge) (numbered : (j : ℕ) → (edge j).id ≡ n + j) where
  edges_below : (j : ℕ) → AllByRecursion (λ (y : Edge). y.id < n + j) (map edge (range_with_len 0 j))
  edges_below j = numbered_below (λ (y : Edge). y.id) edge n numbered 0 j (n + j) (omega arith)

  -- the same of the next edge
  pub edge_fresh : (j : ℕ) → is_among (ids_of (made_of n edge j)) (n + j) ≡ false
  edge_fresh j =
      let nodes : List ℕ = node_ids (map made_node (range_with_len 0 n)) in
      let edges : List ℕ = edge_ids (map edge (range_with_len 0 j)) in
      none_among (ids_of (made_of n edge j)) (n + j)
      (AllByRecursion-append (λ id. id < n + j) (nodes ++ edges) []
      (AllByRecursion-append (λ id. id < n + j) nodes edges (node_ids_below n (n + j) (omega arith))
      (keys_below (λ (y : Edge). y.id) (map edge (range_with_len 0 j)) (n + j) (edges_below j))) tt)

  pub edge_more : (j : ℕ) → with_edge (made_of n edge j) (edge j) ≡ made_of n edge (j + 1)
  edge_more j =
      ap (λ edges. record { nodes = map made_node (range_with_len 0 n); edges = edges; paths = [] })
      (with_last (λ (y : Edge). y.id) (map edge (range_with_len 0 j)) (edge j)
      (subst (λ k. AllByRecursion (λ (y : Edge). y.id < k) (map edge (range_with_len 0 j))) (sym (numbered j)) (edges_below j))
      ∙ sym (map-range_with_len_more edge 0 j j (omega arith)))

-- each number below that of the nodes is one of a node
pub ends_there : (n id from to : ℕ) → from < n → to < n → missing_end (map made_node (range_with_len 0 n)) (made_edge id from to) ≡ None
ends_there n id from to a b =
    let source : is_among (node_ids (map made_node (range_with_len 0 n))) from ≡ true = numbered_among (λ (y : Node). y.id) made_node (λ i. refl) 0 n from (omega arith) (omega (arith, a)) in
    let target : is_among (node_ids (map made_node (range_with_len 0 n))) to ≡ true = numbered_among (λ (y : Node). y.id) made_node (λ i. refl) 0 n to (omega arith) (omega (arith, b)) in
    rw source (rw target refl)
