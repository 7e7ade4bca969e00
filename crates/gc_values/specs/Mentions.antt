-- Which variables occur in an expression.
use Rattle.std.specs.Prelude.{◌==◌, Bool, false, ◌||◌}
use Rattle.gc_base.specs.declared.place.Sym.{Sym}
use Rattle.gc_expr.specs.Trees.{Kind, TreeOf, At, Number, Text, Truth, Var, Property, Labelled, NodeAt, EdgeAt, Length}
use Rattle.gc_expr.specs.Trees.{Aggregate, Negate, Sum, Product, Compare, Not, And, Or, Exists, SumPart, ProductPart, none, more}

-- whether a variable occurs in an expression
unfoldable pub mentions : {k : Kind} → Sym → TreeOf Sym k → Bool
mentions x (At token node) = mentions x node
mentions x (Number n) = false
mentions x (Text t) = false
mentions x (Truth b) = false
mentions x (Var y) = y.0 == x.0
mentions x (Property e k) = mentions x e
mentions x (Labelled e l) = mentions x e
mentions x (NodeAt p i) = p.0 == x.0 || mentions x i
mentions x (EdgeAt p i) = p.0 == x.0 || mentions x i
mentions x (Length p) = p.0 == x.0
mentions x (Aggregate fold operand) = mentions x operand
mentions x (Negate e) = mentions x e
mentions x (Sum e parts) = mentions x e || mentions x parts
mentions x (Product e parts) = mentions x e || mentions x parts
mentions x (Compare how a b) = mentions x a || mentions x b
mentions x (Not e) = mentions x e
mentions x (And parts) = mentions x parts
mentions x (Or parts) = mentions x parts
mentions x (Exists i) = false
mentions x (SumPart minus e) = mentions x e
mentions x (ProductPart op e) = mentions x e
mentions x none = false
mentions x (more e es) = mentions x e || mentions x es
