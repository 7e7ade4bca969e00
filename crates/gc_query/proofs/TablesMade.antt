-- The table of a plan that means a block is the table of the block.
use Rattle.std.proofs.Common.{◌≡◌, List, [], subst, sym, ◌∙◌}
use Rattle.gc_alg.specs.Matches.{Setting as Matching}
use Rattle.gc_alg.specs.Networks.{Database}
use Rattle.gc_alg.specs.Plans.{Means, PlanTree}
use Rattle.gc_alg.specs.Tables.{IsTableOfBlock, IsTableOfPlan, table_schema}
use Rattle.gc_alg.specs.Trees.{Tree, ABlock}
use Rattle.gc_exec.specs.Runs.{setting}
use Rattle.gc_prod.specs.Segments.{Segments}
use Rattle.gc_rows.specs.Rows.{row_order}
use Rattle.gc_rows.specs.Tables.{Relation}
use Rattle.gc_rows.proofs.AscendingLists.{same_ascending}
use Rattle.gc_rows.proofs.RowLaws.{row_order_total}
use Rattle.gc_rows.specs.declared.row.Binding.{Binding}
use Rattle.gc_spec.specs.PropertyGraph.{PropertyGraph}
use Rattle.gc_walks.specs.Databases.{database}

module _ (graphs : List PropertyGraph) (segments : List Segments) (block : Tree ABlock) where
  of_block : (p : PlanTree) (table : Relation) → Means (database graphs segments) block p → IsTableOfPlan (setting graphs segments block []) p table
      → IsTableOfBlock (setting graphs segments block []) table
  of_block p table means t =
      record {
        over = t.over;
        rows = t.rows;
        sound = λ row m. (means [] tt row).0 (t.sound row m);
        complete = λ row h. t.complete row ((means [] tt row).1 h);
      }

  -- for nothing given
  pub table_is : (p : PlanTree) (given : List Binding) (table : Relation) → ((db : Database) → Means db block p) → given ≡ []
      → IsTableOfPlan (setting graphs segments block given) p table → IsTableOfBlock (setting graphs segments block []) table
  table_is p given table means none t =
      of_block p table (means (database graphs segments)) (subst (λ row. IsTableOfPlan (setting graphs segments block row) p table) none t)

-- a block has one table
pub one_table : (s : Matching) (t u : Relation) → IsTableOfBlock s t → IsTableOfBlock s u → t ≡ u
one_table s t u a b =
    let over : t.schema ≡ u.schema = a.over ∙ sym b.over in
    let rows : t.rows ≡ u.rows =
    same_ascending (row_order (table_schema s)) (row_order_total (table_schema s)) t.rows u.rows a.rows.ascend b.rows.ascend
    (λ x m. b.complete x (a.sound x m)) (λ x m. a.complete x (b.sound x m)) in
    λ i. record { schema = over i; rows = rows i }
