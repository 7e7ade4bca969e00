-- A node or an edge on a walk, as an expression.
use Rattle.std.proofs.Common.{◌≡◌, rules, Box, Global}
use Rattle.gc_base.specs.declared.place.Sym.{Sym}
use Rattle.gc_expr.specs.Views.{numbered_expr, numbered_node}
use Rattle.gc_expr.specs.declared.expr.Expr.{Expr}
use Rattle.gc_expr.specs.declared.expr.ExprNode.{the_lemmas}
use Rattle.gc_expr.specs.declared.expr.ExprNode.TheViews.{NodeAt, EdgeAt}
use Rattle.gc_values.specs.Contexts.{Context, walk_graph}
use Rattle.gc_values.specs.Descriptions.{node_description, edge_description, value_described, expr_described}
use Rattle.gc_values.specs.declared.val.Val.{Val}

pub node_at_described : (ctx : Context) (e : Expr) (p : Sym) (i : Box Expr Global) (v : Val) → e.node ≡ NodeAt p i
    → value_described (node_description (walk_graph ctx p)) v ≡ expr_described ctx (numbered_expr e) v
unfolding numbered_expr numbered_node
node_at_described ctx e p i v h = search (rules, the_lemmas)

pub edge_at_described : (ctx : Context) (e : Expr) (p : Sym) (i : Box Expr Global) (v : Val) → e.node ≡ EdgeAt p i
    → value_described (edge_description (walk_graph ctx p)) v ≡ expr_described ctx (numbered_expr e) v
unfolding numbered_expr numbered_node
edge_at_described ctx e p i v h = search (rules, the_lemmas)
