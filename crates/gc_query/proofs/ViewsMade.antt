-- What a view comes to, by the table of its block.
use Rattle.std.proofs.Common.{◌≡◌, ℕ, true, false, List, [], Result, Ok, Err, refl, sym, ap, ◌∙◌, subst}
use Rattle.std.specs.Prelude.{IfOk, IfErr, Some, slice_get}
use Rattle.gc_alg.specs.Tables.{IsTableOfBlock}
use Rattle.gc_alg.specs.Trees.{Tree, ABlock, reads_of}
use Rattle.gc_alg.specs.Views.{block_tree}
use Rattle.gc_alg.specs.declared.block.Block.{Block, out-Block}
use Rattle.gc_alg.proofs.Layers.{block_is}
use Rattle.gc_automata.specs.Moves.{Segment}
use Rattle.gc_exec.specs.Runs.{setting}
use Rattle.gc_lower.specs.Scopes.{Scope}
use Rattle.gc_prod.specs.Segments.{AreSegments, Segments}
use Rattle.gc_rows.specs.Tables.{Relation}
use Rattle.gc_spec.specs.PropertyGraph.{PropertyGraph}
use Rattle.gc_values.specs.declared.reads.ReadUse.{ReadUse}
use Rattle.gc_views.specs.Segments.{ComesTo, IsFault, View}
use Rattle.gc_views.specs.Views.{IsTableOfView, head_view}
use Rattle.gc_views.specs.declared.fault.ViewFault.{ViewFault}
use Rattle.gc_views.specs.declared.fault.ViewFault.TheVariants as view
use Rattle.gc_walks.specs.Databases.{database}
use Rattle.gc_query.specs.Answered.{IsAnswered, told_of}
use Rattle.gc_query.specs.Segments.{Declared, IsOfView, OfRows, OfView, block_on, is_view, on_graph}
use Rattle.gc_query.specs.declared.fault.Fault.{Fault}
use Rattle.gc_query.specs.declared.fault.QueryRefusal.{QueryRefusal}

module _ (s : Scope) (graphs : List PropertyGraph) (graph : ℕ) (d : Declared) where
  -- a view of nodes and edges comes to what its table does, any other has no segments
  pub as_view : is_view d ≡ true → (result : Result (List Segment) QueryRefusal) → IsAnswered (IsOfView s graphs graph d) result → IsAnswered (OfView (is_view d) s graphs graph d) result
  as_view h result a = subst (λ b. IsAnswered (OfView b s graphs graph d) result) (sym h) a

  pub no_view : is_view d ≡ false → (found : List Segment) → found ≡ [] → OfView (is_view d) s graphs graph d (Ok found)
  no_view h found e = subst (λ b. OfView b s graphs graph d (Ok found)) (sym h) (ap Ok e)

  module _ (block : Block) (is : block_tree block ≡ block_on s graph d) (none : List Segments) (empty : none ≡ []) (table : Relation)
      (matched : IsTableOfBlock (setting graphs none (block_tree block) []) table) where
    abbrev view_by : List ReadUse → View
    view_by reads = head_view (on_graph s graph) d.name d.chains d.cost reads graphs

    due_table : IsTableOfBlock (setting graphs [] (block_on s graph d) []) table
    due_table =
        subst (λ (b : Tree ABlock). IsTableOfBlock (setting graphs [] b []) table) is
        (subst (λ (n : List Segments). IsTableOfBlock (setting graphs n (block_tree block) []) table) empty matched)

    same_reads : (out-Block block).reads ≡ reads_of (block_on s graph d)
    same_reads = sym (ap reads_of (block_is block)) ∙ ap reads_of is

    outcome_is : (outcome : Result (List Segment) Fault) → OfRows (view_by (out-Block block).reads) d.name.token table outcome → IsOfView s graphs graph d outcome
    outcome_is outcome h =
        record { table = table; matched = due_table; rows = subst (λ (reads : List ReadUse). OfRows (view_by reads) d.name.token table outcome) same_reads h }

    pub view_comes : (found : Result (List Segment) ViewFault)
        → IfOk found (λ segments. ComesTo (view_by (out-Block block).reads) table.rows (Ok segments))
        → IfErr found (IsFault (λ walk. ComesTo (view_by (out-Block block).reads) table.rows (Err walk)))
        → (result : Result (List Segment) QueryRefusal) → result ≡ told_of d.name.token found → IsAnswered (IsOfView s graphs graph d) result
    view_comes found good bad result told = subst (IsAnswered (IsOfView s graphs graph d)) (sym told) (by found good bad)
      where
        by : (f : Result (List Segment) ViewFault) → IfOk f (λ segments. ComesTo (view_by (out-Block block).reads) table.rows (Ok segments))
            → IfErr f (IsFault (λ walk. ComesTo (view_by (out-Block block).reads) table.rows (Err walk))) → IsAnswered (IsOfView s graphs graph d) (told_of d.name.token f)
        by (Ok segments) good bad = outcome_is (Ok segments) good
        by (Err (view.BadCost walk)) good bad = outcome_is (Err _) (refl, bad)
        by (Err view.Memory) good bad = tt

    -- the table is that of a view on a graph that is there
    pub table_there : (g : PropertyGraph) → slice_get graphs graph ≡ Some g → IsTableOfView (on_graph s graph) d.chains graph g table
    table_there g there = record { database = database graphs []; filter = d.filter; there = there; is_table = due_table }

-- what holds of the segments that are found holds of those that are told
pub still_there : (P : PropertyGraph → Type 0) (token : ℕ) (found : Result (List Segment) ViewFault) (result : Result (List Segment) QueryRefusal) → result ≡ told_of token found
    → ((g : PropertyGraph) → P g → IfOk found (AreSegments g)) → IfOk result (λ segments. (g : PropertyGraph) → P g → AreSegments g segments)
still_there P token found result told h = subst (λ (r : Result (List Segment) QueryRefusal). IfOk r (λ segments. (g : PropertyGraph) → P g → AreSegments g segments)) (sym told) (by found h)
  where
    by : (f : Result (List Segment) ViewFault) → ((g : PropertyGraph) → P g → IfOk f (AreSegments g)) → IfOk (told_of token f) (λ segments. (g : PropertyGraph) → P g → AreSegments g segments)
    by (Ok segments) k = k
    by (Err (view.BadCost walk)) k = tt
    by (Err view.Memory) k = tt
