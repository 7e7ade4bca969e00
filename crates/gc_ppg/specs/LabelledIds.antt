-- The identities of the elements of a kind that have a label.
use Rattle.std.specs.Prelude.{ℕ, List, map}
use Rattle.std.specs.List.{filter}
use Rattle.gc_base.specs.Ascending.{has}
use Rattle.gc_base.specs.Literals.{text_order}
use Rattle.gc_spec.specs.PropertyGraph.{PropertyGraph}
use Rattle.gc_ppg.specs.declared.shape.Kind.{Kind}
use Rattle.gc_ppg.specs.declared.shape.Kind.TheVariants.{Node, Edge, Path}

-- by ascending identity, as the elements stand in the graph
abbrev pub labelled_ids : PropertyGraph → Kind → List ℕ → List ℕ
labelled_ids g Node label = map (λ n. n.id) (filter (λ n. has text_order n.labels label) g.nodes)
labelled_ids g Edge label = map (λ e. e.id) (filter (λ e. has text_order e.labels label) g.edges)
labelled_ids g Path label = map (λ p. p.id) (filter (λ p. has text_order p.labels label) g.paths)
