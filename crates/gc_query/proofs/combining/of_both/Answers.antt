use Rattle.std.proofs.Common.{◌≡◌, ℕ, sym, subst}
use Rattle.gc_spec.specs.PropertyGraph.{PropertyGraph}
use Rattle.gc_sets.specs.Differences.{difference}
use Rattle.gc_sets.specs.Intersections.{IsIntersection}
use Rattle.gc_sets.specs.Origins.{ComesFrom}
use Rattle.gc_sets.specs.Unions.{IsUnion}
use Rattle.gc_sets.proofs.OriginLaws.{difference_comes, intersection_comes, union_comes}
use Rattle.gc_query.specs.Answered.{ComesOfBoth}
use Rattle.gc_query.proofs.Outcomes.{if_ok}
use Rattle.gc_query.proofs.combining.of_both.Goals as goal

pub returns-in-Union-clause-comes : goal.returns-in-Union-clause-comes
returns-in-Union-clause-comes g c =
    if_ok (IsUnion c.args.left.now c.args.right.now) (λ u. (after : ℕ) → ComesOfBoth c.args.left.now c.args.right.now after u)
    (λ u h after graphs next turns. union_comes graphs next after c.args.left.now c.args.right.now turns u c.node_count.ensures.valid c.node_count-2.ensures.valid h) c.union.result c.union.ensures

pub returns-in-Intersect-clause-comes : goal.returns-in-Intersect-clause-comes
returns-in-Intersect-clause-comes g c =
    if_ok (IsIntersection c.args.left.now c.args.right.now) (λ u. (after : ℕ) → ComesOfBoth c.args.left.now c.args.right.now after u)
    (λ u h after graphs next turns. intersection_comes graphs next after c.args.left.now c.args.right.now turns u c.node_count.ensures.valid c.node_count-2.ensures.valid h) c.intersect.result c.intersect.ensures

pub returns-in-Minus-clause-comes : goal.returns-in-Minus-clause-comes
returns-in-Minus-clause-comes g c =
    if_ok (λ u. u ≡ difference c.args.left.now c.args.right.now) (λ u. (after : ℕ) → ComesOfBoth c.args.left.now c.args.right.now after u)
    (λ u h after graphs next turns. subst (λ (d : PropertyGraph). ComesFrom graphs next after d) (sym h) (difference_comes graphs next after c.args.left.now c.args.right.now turns c.node_count.ensures.valid)) c.minus.result c.minus.ensures
