-- The variables in an expression.
use Rattle.std.specs.Prelude.{List, [], ◌∷◌, ◌++◌}
use Rattle.gc_base.specs.declared.place.Sym.{Sym}
use Rattle.gc_expr.specs.Trees.{Kind, TreeOf, At, Var, Property, Labelled, NodeAt, EdgeAt, Length}
use Rattle.gc_expr.specs.Trees.{Aggregate, Negate, Sum, Product, Compare, Not, And, Or, SumPart, ProductPart, more}

-- the variables, in the order of the text, each as often as it stands there
unfoldable pub in_expression : {k : Kind} → TreeOf Sym k → List Sym
in_expression (At token node) = in_expression node
in_expression (Var x) = x ∷ []
in_expression (Property e k) = in_expression e
in_expression (Labelled e l) = in_expression e
in_expression (NodeAt p i) = p ∷ in_expression i
in_expression (EdgeAt p i) = p ∷ in_expression i
in_expression (Length p) = p ∷ []
in_expression (Aggregate fold operand) = in_expression operand
in_expression (Negate e) = in_expression e
in_expression (Sum e parts) = in_expression e ++ in_expression parts
in_expression (Product e parts) = in_expression e ++ in_expression parts
in_expression (Compare how a b) = in_expression a ++ in_expression b
in_expression (Not e) = in_expression e
in_expression (And parts) = in_expression parts
in_expression (Or parts) = in_expression parts
in_expression (SumPart minus e) = in_expression e
in_expression (ProductPart op e) = in_expression e
in_expression (more e es) = in_expression e ++ in_expression es
in_expression tree = []
