-- The documents of the searches that the MATCH of a CONSTRUCT asks for.
use Rattle.std.specs.Prelude.{◌≡◌, ◌↔◌, ◌<◌, ◌^◌, ℕ, List, [], ◌∷◌, ◌++◌, map, Some, slice_get}
use Rattle.std.specs.declared.cmp.Ordering.{Ordering}
use Rattle.std.specs.List.{AllByRecursion, Contains}
use Rattle.std.specs.Ordering.{nat_cmp, on}
use Rattle.gc_base.specs.Ascending.{Ascends}
use Rattle.gc_base.specs.Walks.{end_of}
use Rattle.gc_spec.specs.PropertyGraph.{PropertyGraph}
use Rattle.gc_regx.specs.Trees.{RegexTree, ARegex}
use Rattle.gc_regx.specs.Views.{regex_tree}
use Rattle.gc_prod.specs.Products.{Setting}
use Rattle.gc_prod.specs.Segments.{Segments}
use Rattle.gc_rows.specs.Tables.{Relation}
use Rattle.gc_rows.specs.declared.row.Binding.{Binding}
use Rattle.gc_search.specs.Finding.{IsLeastCost}
use Rattle.gc_alg.specs.FirstWalks.{IsConforming}
use Rattle.gc_alg.specs.Instances.{search}
use Rattle.gc_alg.specs.Trees.{Tree, ABlock}
use Rattle.gc_walks.specs.Databases.{used_segments}
use Rattle.gc_cert.specs.Acceptance.{Accepts, IsPassed, IsProductOf}
use Rattle.gc_cert.specs.Potentials.{at_pair, potential_order}
use Rattle.gc_cert.specs.Runs.{run_cost}
use Rattle.gc_cert.specs.declared.document.Potential.{Potential}
use Rattle.gc_cert.specs.declared.document.SearchDoc.{SearchDoc}
use Rattle.gc_cert.specs.declared.document.WalkDoc.{WalkDoc}
use Rattle.gc_cert_searches.specs.BoundWalks.{IsBoundFrom, IsSource}
use Rattle.gc_cert_searches.specs.Patterns.{Pattern, patterns_of}
use Rattle.gc_cert_searches.specs.SegmentOrder.{segment_order}

-- Take `MATCH (x)-/p<:A*>/->(y)` on a graph with the nodes 1 and 2 and an edge 3 with A from 1 to 2. The table binds to p the walks 1,
-- 1-3-2 and 2. So there are two documents. That of the source 1 has the walks 1 and 1-3-2, at the costs 0 and 1, and the potentials 0
-- of node 1 in the states 0, 1 and 3, and 1 of node 2 in the states 1, 2 and 3. That of the source 2 has the walk 2.

-- on what searches are made: graphs by number, the segments of views on them, and the rows of the table
pub record Matched : Type 0 where
  pub graphs : List PropertyGraph
  pub segments : List Segments
  pub rows : List (List Binding)

abbrev pub matched : List PropertyGraph → List Segments → Relation → Matched
matched graphs segments table = record { graphs = graphs; segments = segments; rows = table.rows }

-- a list has exactly the items of which something holds, in order and each once
pub record AreThose {X : Type 0} (order : X → X → Ordering) (Holds : X → Type 0) (xs : List X) : Type 0 where
  pub ascend : Ascends order xs
  pub exact : (x : X) → Contains xs x ↔ Holds x

-- a potential is of a pair that a run from a source reaches, and is the least cost at which one does
abbrev pub IsReachedAt : Setting → ℕ → Potential → Type 0
IsReachedAt setting source q = IsLeastCost setting source (at_pair q) q.cost

-- a walk has the least cost at which it conforms, and a run that passes it at this cost
pub record IsTold (setting : Setting) (tree : RegexTree ARegex) (source : ℕ) (w : WalkDoc) : Type 0 where
  pub cost : IsConforming (search setting.network tree source (end_of w.walk)) (record { walk = w.walk; cost = w.cost })
  pub run : IsPassed setting source w
  pub price : run_cost setting.network.segments w.run ≡ w.cost

-- the document of the search for the walks of a pattern from one source: its walks are those that the table binds, by target
pub record IsSearchOf (m : Matched) (f : Pattern) (d : SearchDoc) : Type 0 where
  pub expression : regex_tree d.expression ≡ f.expression
  pub graph : slice_get m.graphs f.graph ≡ Some d.graph
  pub segments : AreThose segment_order (Contains (used_segments m.segments f.graph f.views)) d.segments
  pub setting : Setting
  pub product : IsProductOf d setting
  pub potentials : AreThose potential_order (IsReachedAt setting d.start) d.potentials
  pub walks : AreThose (on end_of nat_cmp) (IsBoundFrom m.rows f.path d.start) (map (λ w. w.walk) d.walks)
  pub told : AllByRecursion (IsTold setting f.expression d.start) d.walks

-- the documents of a pattern, one for each source, ascending
pub record AreSearchesFor (m : Matched) (f : Pattern) (docs : List SearchDoc) : Type 0 where
  pub sources : AreThose nat_cmp (IsSource m.rows f.path) (map (λ d. d.start) docs)
  pub each : AllByRecursion (IsSearchOf m f) docs

-- documents are those of a pattern, and then others
pub record IsSplit (First Later : List SearchDoc → Type 0) (docs : List SearchDoc) : Type 0 where
  pub first : List SearchDoc
  pub later : List SearchDoc
  pub whole : docs ≡ first ++ later
  pub ours : First first
  pub others : Later later

-- the documents of some patterns, one pattern after another
abbrev pub AreSearchesInTurn : Matched → List Pattern → List SearchDoc → Type 0
AreSearchesInTurn m [] docs = docs ≡ []
AreSearchesInTurn m (f ∷ patterns) docs = IsSplit (AreSearchesFor m f) (AreSearchesInTurn m patterns) docs

-- the documents of a block, by the patterns of all its parts in the order of the text. EXISTS queries have none
abbrev pub AreSearchesOf : Matched → Tree ABlock → List SearchDoc → Type 0
AreSearchesOf m block docs = AreSearchesInTurn m (patterns_of block) docs

-- the costs of a document are below 2^127
pub record AreLow (d : SearchDoc) : Type 0 where
  pub potentials : AllByRecursion (λ q. q.cost < 2 ^ 127) d.potentials
  pub walks : AllByRecursion (λ w. w.cost < 2 ^ 127) d.walks

-- a document is accepted, given the product of its graph and segments and of the automaton of its expression
pub record IsAccepted (d : SearchDoc) : Type 0 where
  pub setting : Setting
  pub product : IsProductOf d setting
  pub accepts : Accepts d setting
