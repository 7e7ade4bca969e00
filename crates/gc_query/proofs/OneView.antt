-- The segments of a view on a graph, and those that a MATCH uses, are one thing; so is the fault of a view.
use Rattle.std.proofs.Common.{◌≡◌, ℕ, Bool, true, false, List, [], ◌∷◌, ◌++◌, map, Some, None, Result, Ok, Err, refl, sym, ap, ◌∙◌, subst}
use Rattle.std.specs.Option.{option_and_then, option_map}
use Rattle.std.specs.List.{Contains}
use Rattle.std.proofs.lemmas.Option.{same_Some}
use Rattle.gc_alg.specs.Trees as alg
use Rattle.gc_ast.specs.Trees.{Tree, AHead, PathHead, GraphHead}
use Rattle.gc_automata.specs.Moves.{Segment}
use Rattle.gc_base.specs.declared.walk.Walk.{Walk}
use Rattle.gc_exec.specs.Runs.{setting}
use Rattle.gc_lower.specs.Scopes.{Scope}
use Rattle.gc_prod.specs.Segments.{Segments}
use Rattle.gc_rows.specs.Tables.{Relation}
use Rattle.gc_rows.specs.declared.row.Binding.{Binding}
use Rattle.gc_rows.proofs.AscendingLists.{same_ascending}
use Rattle.gc_spec.specs.PropertyGraph.{PropertyGraph}
use Rattle.gc_views.specs.Segments.{AreSegmentsOf, IsBad, IsFirstBad, View, segment_at, segment_of, segment_order}
use Rattle.gc_views.proofs.Orders.{segment_order_total}
use Rattle.gc_query.specs.Outcomes.{Then}
use Rattle.gc_query.specs.Segments.{Declared, HasSegments, IsOfView, OfHead, OfRows, OfUses, OfView, block_on, declared, entry, is_view, uses_of_block, view_on}
use Rattle.gc_query.specs.UsedViews.{UsedView}
use Rattle.gc_query.specs.declared.fault.Fault.{Fault}
use Rattle.gc_query.specs.declared.fault.Fault.TheVariants.{BadCost, CostPastRange, IdsSpent, Undefined}
use Rattle.gc_query.proofs.Outcomes.{one_then}
use Rattle.gc_query.proofs.TablesMade.{one_table}

all_same : (xs ys : List Segment) → map Some xs ≡ map Some ys → xs ≡ ys
all_same [] [] e = refl
all_same [] (y ∷ ys) e = absurd (cc)
all_same (x ∷ xs) [] e = absurd (cc)
all_same (x ∷ xs) (y ∷ ys) e =
    let first : x ≡ y = cc in
    let rest : map Some xs ≡ map Some ys = cc in
    λ i. first i ∷ all_same xs ys rest i

module _ (v : View) where
  -- a row whose cost is bad has no segment
  no_segment : (row : List Binding) (walk : Walk) → IsBad v row walk → segment_of v row ≡ None
  no_segment row walk b =
      ap (option_and_then (segment_at v row)) b.walk_is ∙ ap (option_map (λ cost. record { view = v.name; walk = walk; cost = cost })) b.no_cost

  -- where each row has a segment, none is bad
  none_bad : (before : List (List Binding)) (row : List Binding) (after : List (List Binding)) (xs : List Segment) → map (segment_of v) (before ++ row ∷ after) ≡ map Some xs
      → segment_of v row ≡ None → ⊥
  none_bad [] row after [] e n = absurd (cc)
  none_bad [] row after (x ∷ xs) e n = let h : segment_of v row ≡ Some x = cc in absurd (cc)
  none_bad (b ∷ before) row after [] e n = absurd (cc)
  none_bad (b ∷ before) row after (x ∷ xs) e n = let rest : map (segment_of v) (before ++ row ∷ after) ≡ map Some xs = cc in none_bad before row after xs rest n

  -- the first bad row is one
  same_row : (b : List (List Binding)) (r : List Binding) (a : List (List Binding)) (xs : List Segment) (d : List (List Binding)) (s : List Binding) (c : List (List Binding)) (ys : List Segment)
      → b ++ r ∷ a ≡ d ++ s ∷ c → map (segment_of v) b ≡ map Some xs → map (segment_of v) d ≡ map Some ys → segment_of v r ≡ None → segment_of v s ≡ None → r ≡ s
  same_row [] r a xs [] s c ys e f g n m = cc
  same_row [] r a xs (y ∷ d) s c [] e f g n m = absurd (cc)
  same_row [] r a xs (y ∷ d) s c (z ∷ ys) e f g n m = let h : segment_of v y ≡ Some z = cc in let same : r ≡ y = cc in absurd (cc)
  same_row (y ∷ b) r a [] [] s c ys e f g n m = absurd (cc)
  same_row (y ∷ b) r a (z ∷ xs) [] s c ys e f g n m = let h : segment_of v y ≡ Some z = cc in let same : y ≡ s = cc in absurd (cc)
  same_row (y ∷ b) r a [] (z ∷ d) s c ys e f g n m = absurd (cc)
  same_row (y ∷ b) r a (p ∷ xs) (z ∷ d) s c [] e f g n m = absurd (cc)
  same_row (y ∷ b) r a (p ∷ xs) (z ∷ d) s c (q ∷ ys) e f g n m =
      let rest : b ++ r ∷ a ≡ d ++ s ∷ c = cc in
      let left : map (segment_of v) b ≡ map Some xs = cc in
      let right : map (segment_of v) d ≡ map Some ys = cc in
      same_row b r a xs d s c ys rest left right n m

  same_walk : (rows : List (List Binding)) (walk other : Walk) → IsFirstBad v rows walk → IsFirstBad v rows other → walk ≡ other
  same_walk rows walk other p q =
      let row : p.row ≡ q.row =
      same_row p.before p.row p.after p.of_rows q.before q.row q.after q.of_rows (sym p.split ∙ q.split) p.each q.each (no_segment p.row walk p.bad) (no_segment q.row other q.bad) in
      let there : IsBad v q.row walk = subst (λ r. IsBad v r walk) row p.bad in
      same_Some _ _ (sym there.walk_is ∙ q.bad.walk_is)

  not_both : (rows : List (List Binding)) (xs : List Segment) (walk : Walk) → AreSegmentsOf v rows xs → IsFirstBad v rows walk → ⊥
  not_both rows xs walk p q = none_bad q.before q.row q.after p.of_rows (ap (map (segment_of v)) (sym q.split) ∙ p.each) (no_segment q.row walk q.bad)

  same_segments : (rows : List (List Binding)) (xs ys : List Segment) → AreSegmentsOf v rows xs → AreSegmentsOf v rows ys → xs ≡ ys
  same_segments rows xs ys p q =
      let same : p.of_rows ≡ q.of_rows = all_same p.of_rows q.of_rows (sym p.each ∙ q.each) in
      same_ascending segment_order segment_order_total xs ys p.ascend q.ascend
      (λ x m. q.exact.complete x (subst (λ l. Contains l x) same (p.exact.sound x m)))
      (λ x m. p.exact.complete x (subst (λ l. Contains l x) (sym same) (q.exact.sound x m)))

  -- what the rows of a view come to
  one_of_rows : (token : ℕ) (table : Relation) (a b : Result (List Segment) Fault) → OfRows v token table a → OfRows v token table b → a ≡ b
  one_of_rows token table (Ok xs) (Ok ys) p q = ap Ok (same_segments table.rows xs ys p q)
  one_of_rows token table (Ok xs) (Err (BadCost at walk)) p q = absurd (not_both table.rows xs walk p q.1)
  one_of_rows token table (Ok xs) (Err (Undefined at row why)) p q = absurd q
  one_of_rows token table (Ok xs) (Err (CostPastRange at row)) p q = absurd q
  one_of_rows token table (Ok xs) (Err (IdsSpent at needed)) p q = absurd q
  one_of_rows token table (Err (BadCost at walk)) (Ok ys) p q = absurd (not_both table.rows ys walk q p.1)
  one_of_rows token table (Err (BadCost at walk)) (Err (BadCost at' other)) p q =
      let there : at ≡ at' = p.0 ∙ sym q.0 in
      let same : walk ≡ other = same_walk table.rows walk other p.1 q.1 in
      λ i. Err (BadCost (there i) (same i))
  one_of_rows token table (Err (BadCost at walk)) (Err (Undefined at' row why)) p q = absurd q
  one_of_rows token table (Err (BadCost at walk)) (Err (CostPastRange at' row)) p q = absurd q
  one_of_rows token table (Err (BadCost at walk)) (Err (IdsSpent at' needed)) p q = absurd q
  one_of_rows token table (Err (Undefined at row why)) b p q = absurd p
  one_of_rows token table (Err (CostPastRange at row)) b p q = absurd p
  one_of_rows token table (Err (IdsSpent at needed)) b p q = absurd p

module _ (s : Scope) (graphs : List PropertyGraph) where
  one_view : (graph : ℕ) (d : Declared) (a b : Result (List Segment) Fault) → IsOfView s graphs graph d a → IsOfView s graphs graph d b → a ≡ b
  one_view graph d a b p q =
      let tables : p.table ≡ q.table = one_table (setting graphs [] (block_on s graph d) []) p.table q.table p.matched q.matched in
      one_of_rows (view_on s graphs graph d) d.name.token q.table a b (subst (λ (t : Relation). OfRows (view_on s graphs graph d) d.name.token t a) tables p.rows) q.rows

  one_if : (is : Bool) (graph : ℕ) (d : Declared) (a b : Result (List Segment) Fault) → OfView is s graphs graph d a → OfView is s graphs graph d b → a ≡ b
  one_if true graph d a b p q = one_view graph d a b p q
  one_if false graph d a b p q = p ∙ sym q

  one_head : (graph : ℕ) (head : Tree AHead) (a b : Result (List Segment) Fault) → OfHead s graphs graph head a → OfHead s graphs graph head b → a ≡ b
  one_head graph (PathHead name chains filter cost) a b p q = one_if (is_view (declared name chains filter cost)) graph (declared name chains filter cost) a b p q
  one_head graph (GraphHead name query) a b p q = p ∙ sym q

  one_uses : (uses : List UsedView) (a b : Result (List Segments) Fault) → OfUses s graphs uses a → OfUses s graphs uses b → a ≡ b
  unfolding OfUses
  one_uses [] a b p q = p ∙ sym q
  one_uses (u ∷ uses) a b p q =
      one_then p.0 q.0 (λ segments whole. (rest : Result (List Segments) Fault) × OfUses s graphs uses rest × Then rest (λ entries all. all ≡ Ok (entry u segments ∷ entries)) whole) a b
      (one_head u.graph u.head p.0 q.0 p.1 q.1)
      (λ segments c d h k. one_then h.0 k.0 (λ entries all. all ≡ Ok (entry u segments ∷ entries)) c d (one_uses uses h.0 k.0 h.1 k.1) (λ entries x y f g. f ∙ sym g) h.2 k.2) p.2 q.2

  pub one_segments : (block : alg.Tree alg.ABlock) (a b : Result (List Segments) Fault) → HasSegments s graphs block a → HasSegments s graphs block b → a ≡ b
  one_segments block a b p q = one_uses (uses_of_block s block) a b p q
