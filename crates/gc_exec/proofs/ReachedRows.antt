-- The rows of a reach pattern over a row that binds the node at its left alone.
use Rattle.std.proofs.Common.{◌≡◌, ◌==◌, ◌++◌, ℕ, true, false, cond, List, [], ◌∷◌, map, None, Some, refl, sym, ap, ◌∙◌}
use Rattle.std.specs.Cmp.{tied_itself}
use Rattle.std.specs.Option.{option_and_then}
use Rattle.std.specs.Ordering.{is_eq}
use Rattle.gc_base.specs.declared.place.Sym.{Sym}
use Rattle.gc_ppg.specs.declared.shape.Kind.TheVariants as kind
use Rattle.gc_rows.specs.Data.{datum_order}
use Rattle.gc_rows.specs.DataLaws.{datum_order_total}
use Rattle.gc_rows.specs.Rows.{IsRow, datum_at}
use Rattle.gc_rows.specs.declared.datum.Datum.{Datum}
use Rattle.gc_rows.specs.declared.datum.Datum.TheVariants as datum
use Rattle.gc_rows.specs.declared.row.Binding.{Binding}
use Rattle.gc_rows.proofs.RowLaws.{IsRow-bind}
use Rattle.gc_rows.proofs.UnionLaws.{bound_at, same_row}
use Rattle.gc_spec.specs.PropertyGraph.{IsGraph}
use Rattle.gc_regx.specs.Trees.{RegexTree, ARegex}
use Rattle.gc_automata.specs.Moves.{Network}
use Rattle.gc_prod.specs.Segments.{AreSegments}
use Rattle.gc_reach.specs.Reached.{AreThose, IsReached}
use Rattle.gc_alg.specs.Instances.{bound}
use Rattle.gc_exec.specs.Extensions.{bound_beside, extended, listed, with_bindings}
use Rattle.gc_exec.specs.Near.{element_id}
use Rattle.gc_exec.specs.Outwards.{IsFree}
use Rattle.gc_exec.specs.Reached.{row_at, rows_at}
use Rattle.gc_exec.specs.States.{AreMade, ByWalks}
use Rattle.gc_exec.specs.Walks.{asked, ends_bound}
use Rattle.gc_exec.specs.declared.wanted.WalkEnds.{WalkEnds}
use Rattle.gc_exec.specs.declared.wanted.Wanted.TheVariants.{Together}
use Rattle.gc_exec.proofs.Keeping.{node_is}
use Rattle.gc_exec.proofs.Outgoing.{IsHand}
use Rattle.gc_exec.proofs.WalkRows.{each_from, made_at}

module _ (schema : List Sym) (row : List Binding) (ends : WalkEnds) (d : Datum) (at : datum_at row ends.left ≡ Some d) (free : IsFree schema row ends.right) where
  -- the bindings of two nodes over the row
  bound_so : (start target : ℕ) → d ≡ datum.Node start → with_bindings schema row (ends_bound ends None start target) ≡ Some (row_at row ends.right target)
  bound_so start target is =
      let right = bound ends.right (datum.Node target) in
      let tied : is_eq (datum_order d (datum.Node start)) ≡ true = ap is_eq (ap (datum_order d) (sym is) ∙ tied_itself datum_order_total d) in
      ap (λ o. option_and_then (λ r. with_bindings schema r (right ∷ [])) (bound_beside schema o row (bound ends.left (datum.Node start)))) at
      ∙ (ap (λ t. option_and_then (λ r. with_bindings schema r (right ∷ [])) (cond t (Some row) None)) tied
      ∙ (ap (λ o. option_and_then (λ r. with_bindings schema r []) (bound_beside schema o row right)) free.unbound
      ∙ ap (λ t. option_and_then (λ r. with_bindings schema r []) (cond t None (Some (row_at row ends.right target)))) free.unlisted))

  each_row : (start : ℕ) → d ≡ datum.Node start → (nodes : List ℕ) → rows_at row ends.right nodes ≡ extended schema row (map (ends_bound ends None start) nodes)
  each_row start is [] = refl
  each_row start is (node ∷ nodes) =
      sym (ap (λ o. listed o ++ extended schema row (map (ends_bound ends None start) nodes)) (bound_so start node is)
      ∙ ap (λ rs. row_at row ends.right node ∷ rs) (sym (each_row start is nodes)))

  -- the rows of the pattern over the row
  pub made_reached : (network : Network) → IsGraph network.graph → AreSegments network.graph network.segments → IsRow row → (tree : RegexTree ARegex) (start : ℕ) (nodes : List ℕ) → ends.wanted ≡ Together None
      → element_id kind.Node d ≡ Some start → AreThose (IsReached network tree start) nodes → AreMade schema row (ByWalks network (asked ends tree)) (rows_at row ends.right nodes)
  made_reached network graph segments up tree start nodes wanted node those =
      made_at network graph segments (asked ends tree) schema row up d at start (rows_at row ends.right nodes) node
      (each_from network graph segments (asked ends tree) schema row start None nodes (rows_at row ends.right nodes) wanted those (each_row start (node_is d start node) nodes))

-- a row in hand, which is a row but for one variable, with a node in its place
pub same_at : (row hand : List Binding) (far : Sym) (node : ℕ) → IsRow row → IsHand row far far hand → row_at hand far node ≡ row_at row far node
same_at row hand far node up h = same_row (row_at hand far node) (row_at row far node) (IsRow-bind hand new h.up) (IsRow-bind row new up) alike
  where
    new : Binding
    new = bound far (datum.Node node)

    alike : (z : Sym) → datum_at (row_at hand far node) z ≡ datum_at (row_at row far node) z
    alike z =
        bound_at hand new z
        ∙ ((elim (far.0 == z.0) as (λ t. (far.0 == z.0) ≡ t → cond t (Some (datum.Node node)) (datum_at hand z) ≡ cond t (Some (datum.Node node)) (datum_at row z)) [
          | true ↦ λ p. refl
          | false ↦ λ p. h.alike z p p
        ] refl) ∙ sym (bound_at row new z))

pub hand_at : (row : List Binding) (far : Sym) (node : ℕ) → IsRow row → IsHand row far far (row_at row far node)
hand_at row far node up = record {
  up = IsRow-bind row (bound far (datum.Node node)) up;
  alike = λ z p q. bound_at row (bound far (datum.Node node)) z ∙ ap (λ t. cond t (Some (datum.Node node)) (datum_at row z)) q;
}
