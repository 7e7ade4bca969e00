-- The segments of the rows of a view's block are segments of the graph.
use Rattle.std.proofs.Common.{◌≡◌, ℕ, zero, suc, pos, ◌<◌, Bool, true, false, cond, List, [], ◌∷◌, length, map, Option, None, Some, Ok, Err, Result, IfOk, sym, ap, ◌∙◌, subst, arith, slice_get}
use Rattle.std.specs.List.{AllByRecursion, Contains}
use Rattle.std.proofs.lemmas.List.Elements.{All-contains, All-contains_itself, All-filter}
use Rattle.std.proofs.lemmas.Option.{none-some, option_and_then_some, same_Some}
use Rattle.gc_alg.specs.Blocks.{IsRowOfBlock, IsRowOfPart, IsRowOfParts, IsRowWith}
use Rattle.gc_alg.specs.Instances.{Satisfies}
use Rattle.gc_alg.specs.Networks.{Database}
use Rattle.gc_ast.specs.Trees as tree
use Rattle.gc_ast.specs.Trees.{Tree, RowOf, APattern, AFormula}
use Rattle.gc_automata.specs.Moves.{Segment}
use Rattle.gc_base.specs.declared.literal.Literal.TheVariants as literal
use Rattle.gc_base.specs.declared.place.Sym.{Sym}
use Rattle.gc_base.specs.declared.walk.Step.{Step}
use Rattle.gc_base.specs.declared.walk.Walk.{Walk}
use Rattle.gc_expr.specs.Trees.{TreeOf, AnExpr}
use Rattle.gc_lower.specs.Blocks.{view_block}
use Rattle.gc_lower.specs.Chains.{chain_atoms, view_atoms}
use Rattle.gc_lower.specs.Scopes.{Scope}
use Rattle.gc_prod.specs.Segments.{AreSegments, IsSegment}
use Rattle.gc_rows.proofs.Members.{each_member, from_map, to_map}
use Rattle.gc_rows.specs.Tables.{Relation}
use Rattle.gc_rows.specs.declared.row.Binding.{Binding}
use Rattle.gc_spec.specs.PropertyGraph.{PropertyGraph, is_walk}
use Rattle.gc_values.specs.ExprValues.{value_of}
use Rattle.gc_values.specs.declared.val.Val.{Val}
use Rattle.gc_values.specs.declared.val.Val.TheVariants as val
use Rattle.gc_views.specs.Segments.{AreSegmentsOf, View, as_cost, context, cost_along, cost_of, has_walk, price, segment_at, segment_of, value_cost, walk_along, walk_of, walking}
use Rattle.gc_views.specs.Views.{IsTableOfView, first_trail}
use Rattle.gc_views.specs.declared.fault.ViewFault.{ViewFault}
use Rattle.gc_views.specs.declared.trail.Trail.{Trail}
use Rattle.gc_views.proofs.ChainWalks.{option_map_some, split_append, walk_law}

-- a row of the block of a view meets the atoms of its chains
pub meets_view : (db : Database) (s : Scope) (chains : Tree (RowOf (RowOf APattern))) (filter : Tree (RowOf AFormula)) (row : List Binding)
    → IsRowOfBlock db [] (view_block s chains filter) row → AllByRecursion (Satisfies db row) (view_atoms s chains)
unfolding IsRowOfBlock IsRowOfParts IsRowWith IsRowOfPart
meets_view db s chains filter row h = h.0.meets

-- the first chain of a view
chain_law : (db : Database) (s : Scope) (g : PropertyGraph) → slice_get db.graphs s.on ≡ Some g → (chains : Tree (RowOf (RowOf APattern))) (row : List Binding)
    → AllByRecursion (Satisfies db row) (view_atoms s chains) → (trail : Trail) (walk : Walk)
    → first_trail s chains ≡ Some trail → walk_along row trail ≡ Some walk
    → is_walk g.nodes g.edges walk ≡ true
chain_law db s g there tree.none row all trail walk is made = absurd (none-some trail is)
chain_law db s g there (tree.more chain chains) row all trail walk is made =
    let first = split_append (Satisfies db row) (chain_atoms s s.on None chain) (view_atoms s chains) all in
    walk_law db s s.on g there row chain trail walk first.0 is made

-- a cost is positive, and so is the number of edges of a walk that has one
picked : (t : Bool) (n cost : ℕ) → cond t (Some n) None ≡ Some cost → n ≡ cost
picked true n cost h = same_Some n cost h
picked false n cost h = absurd (none-some cost h)

positive : (n cost : ℕ) → as_cost n ≡ Some cost → 0 < cost
positive zero cost h = absurd (none-some cost h)
positive (suc n) cost h = let same : suc n ≡ cost = picked _ (suc n) cost h in omega arith

value_positive : (value : Val) (cost : ℕ) → value_cost value ≡ Some cost → 0 < cost
value_positive (val.Set (literal.Number (pos n) ∷ [])) cost h = positive n cost h
value_positive value cost h = absurd (none-some cost h)

price_positive : (v : View) (row : List Binding) (edges : ℕ) (e : Option (TreeOf Sym AnExpr)) (cost : ℕ) → price v row edges e ≡ Some cost → 0 < cost
price_positive v row edges None cost h = positive edges cost h
price_positive v row edges (Some e) cost h = value_positive (value_of (context v row) [] e) cost h

cost_positive : (v : View) (row : List Binding) (steps : List Step) (cost : ℕ) → cost_along v row steps ≡ Some cost → (0 < length steps) × (0 < cost)
cost_positive v row [] cost h = absurd (none-some cost h)
cost_positive v row (step ∷ steps) cost h = (omega arith, price_positive v row (length (step ∷ steps)) v.cost cost h)

module _ (db : Database) (s : Scope) (g : PropertyGraph) (there : slice_get db.graphs s.on ≡ Some g) (chains : Tree (RowOf (RowOf APattern)))
    (v : View) (asked : v.trail ≡ first_trail s chains) where
  -- the segment of a row
  row_law : (row : List Binding) (segment : Segment) → AllByRecursion (Satisfies db row) (view_atoms s chains)
      → segment_of v row ≡ Some segment → IsSegment g segment
  row_law row segment all is =
      option_and_then_some (segment_at v row) (walk_of v row) segment is (λ walk walk_is whole.
      option_and_then_some (walk_along row) v.trail walk walk_is (λ trail trail_is made.
      option_map_some (λ cost. record { view = v.name; walk = walk; cost = cost }) (cost_of v row walk) segment whole (λ cost cost_is segment_is.
      let walks : is_walk g.nodes g.edges walk ≡ true = chain_law db s g there chains row all trail walk (sym asked ∙ trail_is) made in
      let some = cost_positive v row walk.steps cost cost_is in
      let due : IsSegment g (record { view = v.name; walk = walk; cost = cost }) = record { walk = walks; moves = some.0; costs = some.1 } in
      subst (IsSegment g) segment_is due)))

  module _ (rows : List (List Binding)) (met : (row : List Binding) → Contains rows row → AllByRecursion (Satisfies db row) (view_atoms s chains)) where
    all_law : (segments : List Segment) → AreSegmentsOf v rows segments → AreSegments g segments
    all_law segments of =
        each_member (IsSegment g) segments (λ segment m.
        let listed : Contains (map (segment_of v) (walking v rows)) (Some segment) =
        subst (λ os. Contains os (Some segment)) (sym of.each) (to_map Some of.of_rows segment (of.exact.sound segment m)) in
        let from = from_map (segment_of v) (walking v rows) (Some segment) listed in
        let among : Contains rows from.0 =
        All-contains (Contains rows) (walking v rows) from.0 (All-filter (has_walk v) (Contains rows) rows (All-contains_itself rows)) from.1 in
        row_law from.0 segment (met from.0 among) (sym from.2))

    pub if_ok : (r : Result (List Segment) ViewFault) → IfOk r (AreSegmentsOf v rows) → IfOk r (AreSegments g)
    if_ok (Ok segments) of = all_law segments of
    if_ok (Err fault) of = tt

-- the same where the table is that of the block of the view
pub of_view : (s : Scope) (chains : Tree (RowOf (RowOf APattern))) (on : ℕ) (g : PropertyGraph) (table : Relation)
    → IsTableOfView s chains on g table → s.on ≡ on
    → (v : View) → v.trail ≡ first_trail s chains → (rows : List (List Binding)) → rows ≡ table.rows
    → (r : Result (List Segment) ViewFault) → IfOk r (AreSegmentsOf v rows) → IfOk r (AreSegments g)
of_view s chains on g table h number v asked rows same =
    if_ok h.database s g (ap (slice_get h.database.graphs) number ∙ h.there) chains v asked rows
    (λ row m. meets_view h.database s chains h.filter row (h.is_table.sound row (subst (λ rows. Contains rows row) same m)))
