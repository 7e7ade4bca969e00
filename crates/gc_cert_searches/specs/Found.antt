-- What is known of the walks that the table binds to the variable of a pattern, and of the documents so far.
use Rattle.std.specs.Prelude.{◌≡◌, ℕ, List, [], ◌∷◌, ◌++◌, map, Some, slice_get}
use Rattle.std.specs.List.{AllByRecursion, Contains}
use Rattle.std.specs.Ordering.{nat_cmp}
use Rattle.gc_base.specs.Walks.{end_of}
use Rattle.gc_base.specs.declared.walk.Walk.{Walk}
use Rattle.gc_spec.specs.PropertyGraph.{PropertyGraph}
use Rattle.gc_automata.specs.Machines.{IsAutomatonOf}
use Rattle.gc_automata.specs.Moves.{Network, IsThere}
use Rattle.gc_regx.specs.Expressions.{HasParts}
use Rattle.gc_regx.specs.Trees.{RegexTree, ARegex}
use Rattle.gc_regx.specs.Views.{regex_tree}
use Rattle.gc_prod.specs.Products.{Setting}
use Rattle.gc_prod.specs.Segments.{AreSegments}
use Rattle.gc_alg.specs.FirstWalks.{AreFirst, CostedWalk, IsConforming}
use Rattle.gc_alg.specs.Instances.{search}
use Rattle.gc_walks.specs.Databases.{used_segments}
use Rattle.gc_cert.specs.Acceptance.{Accepts, network_of}
use Rattle.gc_cert.specs.Potentials.{potential_order}
use Rattle.gc_cert.specs.declared.document.SearchDoc.{SearchDoc}
use Rattle.gc_cert_searches.specs.BoundWalks.{IsBound}
use Rattle.gc_cert_searches.specs.Patterns.{Pattern}
use Rattle.gc_cert_searches.specs.declared.documents.Asked.{Asked}
use Rattle.gc_cert_searches.specs.declared.ends.WalkEnds.{WalkEnds}
use Rattle.gc_cert_searches.specs.Searches.{Matched, AreLow, AreSearchesInTurn, AreThose, IsAccepted, IsReachedAt, IsTold}

-- a walk is the first of those between its ends that conform, at some cost
pub record IsFirst (network : Network) (tree : RegexTree ARegex) (w : Walk) : Type 0 where
  pub cost : ℕ
  pub first : AreFirst (search network tree w.start (end_of w)) 1 (record { walk = w; cost = cost } ∷ [])

-- the network of a pattern on a graph
abbrev pub network_on : Matched → Pattern → PropertyGraph → Network
network_on m f g = record { graph = g; segments = used_segments m.segments f.graph f.views }

-- the graph of a pattern is there, and a walk is the first by it
pub record IsFirstBy (m : Matched) (f : Pattern) (w : Walk) : Type 0 where
  pub graph : PropertyGraph
  pub there : slice_get m.graphs f.graph ≡ Some graph
  pub first : IsFirst (network_on m f graph) f.expression w

-- the walks that the rows bind to the variable of a pattern are the first by it
abbrev pub AreFirstBy : Matched → Pattern → Type 0
AreFirstBy m f = (w : Walk) → IsBound m.rows f.path w → IsFirstBy m f w

-- some walk from a node to a node conforms, at the least cost at which it does
abbrev pub HasWalk : Network → RegexTree ARegex → (source target : ℕ) → Type 0
HasWalk network tree source target = (w : CostedWalk) × IsConforming (search network tree source target) w

-- what a search from a source tells of the walks to some nodes, each of which is the first by an expression; where there is one to
-- each, it tells one to each
pub record IsDocFrom (setting : Setting) (tree : RegexTree ARegex) (source : ℕ) (targets : List ℕ) (d : SearchDoc) : Type 0 where
  pub expression : regex_tree d.expression ≡ tree
  pub network : setting.network ≡ network_of d
  pub start : d.start ≡ source
  pub potentials : AreThose potential_order (IsReachedAt setting source) d.potentials
  pub ends : AllByRecursion (HasWalk setting.network tree source) targets → map (λ w. end_of w.walk) d.walks ≡ targets
  pub told : AllByRecursion (IsTold setting tree source) d.walks
  pub first : AllByRecursion (λ w. IsFirst setting.network tree w.walk) d.walks
  pub accepts : Accepts d setting
  pub low : AreLow d

-- an expression is asked for in a product: this is of its automaton, and of a graph with segments of it
pub record IsAsked (asked : Asked) : Type 0 where
  pub network : asked.product.now.network ≡ record { graph = asked.graph.now; segments = asked.segments.now }
  pub segments : AreSegments asked.graph.now asked.segments.now
  pub automaton : IsAutomatonOf asked.expression.now asked.product.now.machine
  pub parts : HasParts asked.expression.now

-- between the ends of a walk some walk conforms
pub record IsEndsOf (network : Network) (tree : RegexTree ARegex) (e : WalkEnds) : Type 0 where
  pub there : IsThere network e.start
  pub walk : HasWalk network tree e.start e.target

-- the document of a search tells the first walks to where walks from its start end
pub record IsDocOf (setting : Setting) (tree : RegexTree ARegex) (ends : List WalkEnds) (d : SearchDoc) : Type 0 where
  pub targets : List ℕ
  pub those : AreThose nat_cmp (λ target. Contains ends (record { start = d.start; target = target })) targets
  pub doc : IsDocFrom setting tree d.start targets d

-- such documents, from some sources, come behind others
pub record AreDocsFrom (setting : Setting) (tree : RegexTree ARegex) (ends : List WalkEnds) (sources : List ℕ) (old now : List SearchDoc) : Type 0 where
  pub added : List SearchDoc
  pub whole : now ≡ old ++ added
  pub starts : map (λ d. d.start) added ≡ sources
  pub each : AllByRecursion (IsDocOf setting tree ends) added

-- a walk starts at a node
abbrev pub IsStart : List WalkEnds → ℕ → Type 0
IsStart ends start = (target : ℕ) × Contains ends (record { start = start; target = target })

-- such documents, one for each start, ascending, come behind others
pub record AreDocsOf (setting : Setting) (tree : RegexTree ARegex) (ends : List WalkEnds) (old now : List SearchDoc) : Type 0 where
  pub sources : List ℕ
  pub those : AreThose nat_cmp (IsStart ends) sources
  pub docs : AreDocsFrom setting tree ends sources old now

-- the documents of some patterns come behind others, where the walks that the rows bind to their variables are the first
pub record AreAdded (m : Matched) (patterns : List Pattern) (old now : List SearchDoc) : Type 0 where
  pub added : List SearchDoc
  pub whole : now ≡ old ++ added
  pub told : AllByRecursion (AreFirstBy m) patterns → AreSearchesInTurn m patterns added
  pub accepted : AllByRecursion IsAccepted added
  pub low : AllByRecursion AreLow added
