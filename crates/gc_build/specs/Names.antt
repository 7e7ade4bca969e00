-- The variables that occur in an expression, and what a condition reads of what a row makes.
use Rattle.std.specs.Prelude.{◌==◌, List, [], ◌∷◌, ◌++◌, Option, Some, None}
use Rattle.std.specs.List.{find, flat_map}
use Rattle.std.specs.Option.{option_to_list}
use Rattle.gc_base.specs.declared.place.Sym.{Sym}
use Rattle.gc_build_recipe.specs.declared.variable.Variable.{Variable}
use Rattle.gc_expr.specs.Trees.{Kind, TreeOf, AnExpr, At, Var, Property, Labelled, NodeAt, EdgeAt, Length}
use Rattle.gc_expr.specs.Trees.{Aggregate, Negate, Sum, Product, Compare, Not, And, Or, SumPart, ProductPart, more}
use Rattle.gc_build.specs.Makings.{Making}

-- the variables, in the order of the text
unfoldable pub names_in : {k : Kind} → TreeOf Sym k → List Sym
names_in (At token node) = names_in node
names_in (Var x) = x ∷ []
names_in (Property e k) = names_in e
names_in (Labelled e l) = names_in e
names_in (NodeAt p i) = p ∷ names_in i
names_in (EdgeAt p i) = p ∷ names_in i
names_in (Length p) = p ∷ []
names_in (Aggregate fold operand) = names_in operand
names_in (Negate e) = names_in e
names_in (Sum e parts) = names_in e ++ names_in parts
names_in (Product e parts) = names_in e ++ names_in parts
names_in (Compare how a b) = names_in a ++ names_in b
names_in (Not e) = names_in e
names_in (And parts) = names_in parts
names_in (Or parts) = names_in parts
names_in (SumPart minus e) = names_in e
names_in (ProductPart op e) = names_in e
names_in (more e es) = names_in e ++ names_in es
names_in tree = []

-- those of them that the CONSTRUCT has
abbrev pub found_of : Making → List Sym → List Variable
found_of m names = flat_map (λ x. option_to_list (find (λ v. v.var.0 == x.0) m.variables)) names

-- those that a condition names, if there is one
abbrev pub named_by : Making → Option (TreeOf Sym AnExpr) → List Variable
named_by m None = []
named_by m (Some condition) = found_of m (names_in condition)
