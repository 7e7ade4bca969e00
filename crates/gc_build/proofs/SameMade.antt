-- The value of an expression and the truth of a condition hang on what was made by the variables that occur in them.
use Rattle.std.proofs.Common.{◌≡◌, ℕ, ◌==◌, ◌||◌, Bool, true, false, List, [], drop, Option, refl, ap, ◌∙◌, arith, slice_get}
use Rattle.std.proofs.lemmas.Bool.Decides.{nat_tests}
use Rattle.gc_base.specs.Walks.{edges_of}
use Rattle.gc_base.specs.declared.place.Sym.{Sym}
use Rattle.gc_expr.specs.Trees.{Kind, TreeOf, AnExpr, ANode, ASumPart, AProductPart, RowOf, At, Number, Text, Truth, Var, Property, Labelled, NodeAt, EdgeAt, Length}
use Rattle.gc_expr.specs.Trees.{Aggregate, Negate, Sum, Product, Compare, Not, And, Or, Exists, SumPart, ProductPart, none, more}
use Rattle.gc_rows.specs.Rows.{datum_at}
use Rattle.gc_values.specs.Arithmetic.{negated, operated, product_operation, sum_operation}
use Rattle.gc_values.specs.Comparisons.{compared}
use Rattle.gc_values.specs.Contexts.{Context, datum_made_or, made_of, own_graph}
use Rattle.gc_values.specs.Descriptions.{described_in, described_made_or, expr_described, label_truth, property_of}
use Rattle.gc_values.specs.ExprTruths.{all_of, any_of, node_truth, truth_of}
use Rattle.gc_values.specs.ExprValues.{aggregates, datum_value, node_value, product_from, sum_from, value_of}
use Rattle.gc_values.specs.Kleene.{both, denied, either}
use Rattle.gc_values.specs.Mentions.{mentions}
use Rattle.gc_values.specs.PathParts.{length_of, nodes_along, part_at, walk_in, walk_of}
use Rattle.gc_values.specs.declared.reads.Made.{Made}
use Rattle.gc_values.specs.declared.val.Val.{Val}

itself : (n : ℕ) → (n == n) ≡ true
itself n = grind (arith, nat_tests)

or_left : (s t : Bool) → s ≡ true → (s || t) ≡ true
or_left true t h = refl
or_left false t h = cc

or_right : (s t : Bool) → t ≡ true → (s || t) ≡ true
or_right true t h = refl
or_right false t h = h

-- contexts that differ in what was made alone
module _ (ctx : Context) (made : List Made) where
  abbrev moved : Context
  moved = record ctx { made = made }

  -- they agree on the variables that occur in a tree
  abbrev AgreeOn : {k : Kind} → TreeOf Sym k → Type 0
  AgreeOn t = (x : Sym) → mentions x t ≡ true → made_of ctx x ≡ made_of moved x

  described_same : (e : TreeOf Sym AnExpr) (v : Val) → AgreeOn e → expr_described ctx e v ≡ expr_described moved e v
  unfolding mentions
  described_same (At token (Var x)) v h = ap (described_made_or (described_in (own_graph ctx x) (datum_at ctx.row x))) (h x (itself x.0))
  described_same (At token (NodeAt p i)) v h = refl
  described_same (At token (EdgeAt p i)) v h = refl
  described_same (At token (Number n)) v h = refl
  described_same (At token (Text t)) v h = refl
  described_same (At token (Truth b)) v h = refl
  described_same (At token (Property e k)) v h = refl
  described_same (At token (Labelled e l)) v h = refl
  described_same (At token (Length p)) v h = refl
  described_same (At token (Aggregate fold operand)) v h = refl
  described_same (At token (Negate e)) v h = refl
  described_same (At token (Sum e parts)) v h = refl
  described_same (At token (Product e parts)) v h = refl
  described_same (At token (Compare how a b)) v h = refl
  described_same (At token (Not e)) v h = refl
  described_same (At token (And parts)) v h = refl
  described_same (At token (Or parts)) v h = refl
  described_same (At token (Exists i)) v h = refl

  walk_same : (p : Sym) → made_of ctx p ≡ made_of moved p → walk_of ctx p ≡ walk_of moved p
  walk_same p h = ap (λ m. walk_in (own_graph ctx p) (datum_made_or (datum_at ctx.row p) m)) h

  mutual
    unfolding mentions value_of

    value_same : (folded : List Val) (e : TreeOf Sym AnExpr) → AgreeOn e → value_of ctx folded e ≡ value_of moved folded e
    value_same folded (At token node) h = node_same folded node h

    node_same : (folded : List Val) (node : TreeOf Sym ANode) → AgreeOn node → node_value ctx folded node ≡ node_value moved folded node
    node_same folded (Number n) h = refl
    node_same folded (Text t) h = refl
    node_same folded (Truth b) h = refl
    node_same folded (Var x) h = ap (λ m. datum_value (datum_made_or (datum_at ctx.row x) m)) (h x (itself x.0))
    node_same folded (Property e name) h =
        ap (λ s. property_of s name) (described_same e (value_of ctx folded e) h ∙ ap (expr_described moved e) (value_same folded e h))
    node_same folded (Labelled e l) h = refl
    node_same folded (NodeAt p i) h =
        ap (λ w. part_at nodes_along w (value_of ctx folded i)) (walk_same p (h p (or_left (p.0 == p.0) (mentions p i) (itself p.0))))
        ∙ ap (part_at nodes_along (walk_of moved p)) (value_same folded i (λ x m. h x (or_right (p.0 == x.0) (mentions x i) m)))
    node_same folded (EdgeAt p i) h =
        ap (λ w. part_at edges_of w (value_of ctx folded i)) (walk_same p (h p (or_left (p.0 == p.0) (mentions p i) (itself p.0))))
        ∙ ap (part_at edges_of (walk_of moved p)) (value_same folded i (λ x m. h x (or_right (p.0 == x.0) (mentions x i) m)))
    node_same folded (Length p) h = ap length_of (walk_same p (h p (itself p.0)))
    node_same folded (Aggregate fold operand) h = refl
    node_same folded (Negate e) h = ap negated (value_same folded e h)
    node_same folded (Sum e parts) h =
        ap (λ v. sum_from ctx (drop (aggregates e) folded) v parts) (value_same folded e (λ x m. h x (or_left (mentions x e) (mentions x parts) m)))
        ∙ sum_same (drop (aggregates e) folded) (value_of moved folded e) parts (λ x m. h x (or_right (mentions x e) (mentions x parts) m))
    node_same folded (Product e parts) h =
        ap (λ v. product_from ctx (drop (aggregates e) folded) v parts) (value_same folded e (λ x m. h x (or_left (mentions x e) (mentions x parts) m)))
        ∙ product_same (drop (aggregates e) folded) (value_of moved folded e) parts (λ x m. h x (or_right (mentions x e) (mentions x parts) m))
    node_same folded (Compare how a b) h = refl
    node_same folded (Not e) h = refl
    node_same folded (And parts) h = refl
    node_same folded (Or parts) h = refl
    node_same folded (Exists i) h = refl

    sum_same : (folded : List Val) (v : Val) (parts : TreeOf Sym (RowOf ASumPart)) → AgreeOn parts → sum_from ctx folded v parts ≡ sum_from moved folded v parts
    sum_same folded v none h = refl
    sum_same folded v (more (SumPart minus e) parts) h =
        ap (λ w. sum_from ctx (drop (aggregates e) folded) (operated (sum_operation minus) v w) parts) (value_same folded e (λ x m. h x (or_left (mentions x e) (mentions x parts) m)))
        ∙ sum_same (drop (aggregates e) folded) (operated (sum_operation minus) v (value_of moved folded e)) parts (λ x m. h x (or_right (mentions x e) (mentions x parts) m))

    product_same : (folded : List Val) (v : Val) (parts : TreeOf Sym (RowOf AProductPart)) → AgreeOn parts → product_from ctx folded v parts ≡ product_from moved folded v parts
    product_same folded v none h = refl
    product_same folded v (more (ProductPart op e) parts) h =
        ap (λ w. product_from ctx (drop (aggregates e) folded) (operated (product_operation op) v w) parts) (value_same folded e (λ x m. h x (or_left (mentions x e) (mentions x parts) m)))
        ∙ product_same (drop (aggregates e) folded) (operated (product_operation op) v (value_of moved folded e)) parts (λ x m. h x (or_right (mentions x e) (mentions x parts) m))

  mutual
    unfolding mentions truth_of

    pub truth_same : (answers : List Bool) (e : TreeOf Sym AnExpr) → AgreeOn e → truth_of ctx answers e ≡ truth_of moved answers e
    truth_same answers (At token node) h = node_truth_same answers node h

    node_truth_same : (answers : List Bool) (node : TreeOf Sym ANode) → AgreeOn node → node_truth ctx answers node ≡ node_truth moved answers node
    node_truth_same answers (Labelled e l) h =
        ap (λ s. label_truth s l) (described_same e (value_of ctx [] e) h ∙ ap (expr_described moved e) (value_same [] e h))
    node_truth_same answers (Compare how a b) h =
        ap (λ v. compared how v (value_of ctx [] b)) (value_same [] a (λ x m. h x (or_left (mentions x a) (mentions x b) m)))
        ∙ ap (compared how (value_of moved [] a)) (value_same [] b (λ x m. h x (or_right (mentions x a) (mentions x b) m)))
    node_truth_same answers (Not e) h = ap denied (truth_same answers e h)
    node_truth_same answers (And parts) h = all_same answers parts h
    node_truth_same answers (Or parts) h = any_same answers parts h
    node_truth_same answers (Exists i) h = refl
    node_truth_same answers (Number n) h = refl
    node_truth_same answers (Text t) h = refl
    node_truth_same answers (Truth b) h = refl
    node_truth_same answers (Var x) h = refl
    node_truth_same answers (Property e k) h = refl
    node_truth_same answers (NodeAt p i) h = refl
    node_truth_same answers (EdgeAt p i) h = refl
    node_truth_same answers (Length p) h = refl
    node_truth_same answers (Aggregate fold operand) h = refl
    node_truth_same answers (Negate e) h = refl
    node_truth_same answers (Sum e parts) h = refl
    node_truth_same answers (Product e parts) h = refl

    all_same : (answers : List Bool) (parts : TreeOf Sym (RowOf AnExpr)) → AgreeOn parts → all_of ctx answers parts ≡ all_of moved answers parts
    all_same answers none h = refl
    all_same answers (more e parts) h =
        ap (λ t. both t (all_of ctx answers parts)) (truth_same answers e (λ x m. h x (or_left (mentions x e) (mentions x parts) m)))
        ∙ ap (both (truth_of moved answers e)) (all_same answers parts (λ x m. h x (or_right (mentions x e) (mentions x parts) m)))

    any_same : (answers : List Bool) (parts : TreeOf Sym (RowOf AnExpr)) → AgreeOn parts → any_of ctx answers parts ≡ any_of moved answers parts
    any_same answers none h = refl
    any_same answers (more e parts) h =
        ap (λ t. either t (any_of ctx answers parts)) (truth_same answers e (λ x m. h x (or_left (mentions x e) (mentions x parts) m)))
        ∙ ap (either (truth_of moved answers e)) (any_same answers parts (λ x m. h x (or_right (mentions x e) (mentions x parts) m)))
