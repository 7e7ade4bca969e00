-- The places in expressions: each expression and each name, by what it is and what its place takes, aggregates and EXISTS.
use Rattle.std.specs.Prelude.{ℕ, ◌+◌, List, [], ◌∷◌, ◌++◌, slice_get}
use Rattle.gc_expr.specs.Trees as expr
use Rattle.gc_expr.specs.Trees.{ExprTree, Kind}
use Rattle.gc_ast.specs.Trees as tree
use Rattle.gc_ast.specs.Trees.{Tree, Named, RowOf, AFormula, AQuery}
use Rattle.gc_sorts.specs.declared.form.Form.{Form}
use Rattle.gc_sorts.specs.declared.form.Takes.{Takes}
use Rattle.gc_sorts.specs.declared.form.Takes.TheVariants as takes
use Rattle.gc_sorts.specs.Expressions as known
use Rattle.gc_sorts.specs.Expressions.{Standing, left_takes, right_takes, fold_takes}
use Rattle.gc_sort_rules.specs.Places.{Scope, Occurrence, At, Name, Operand, Aggregate, Exists, Around, Aggregated}

-- where an expression stands: what is in scope; the paths that the CONSTRUCT stores, where they may be described; in the
-- WHERE of a block the queries of its EXISTS, elsewhere none
pub record Setting : Type 0 where
  pub scope : Scope
  pub stored : List (List ℕ)
  pub queries : List (Tree AQuery)

-- what a name and an expression are there
abbrev pub standing : Setting → Standing
standing s = record { uses = s.scope.variables; stored = s.stored; exists = [] }

abbrev pub name_form : Setting → List ℕ → Form
name_form s name = known.name_form (standing s) name

-- a name where its place takes some forms
abbrev pub named : Setting → Takes → (name : List ℕ) → (token : ℕ) → List Occurrence
named s place name token = At token (Name name) s.scope ∷ At token (Operand place (name_form s name)) s.scope ∷ []

-- those of an expression where its place takes some forms; a node is given its token, and the path of `nodes(p)`,
-- `edges(p)` and `length(p)` is the second token behind
unfoldable pub in_expression : {k : Kind} → Setting → Around → Takes → ℕ → ExprTree k → List Occurrence
in_expression s around place at (expr.At token node) =
    At token (Operand place (known.node_form (standing s) node)) s.scope ∷ in_expression s around place token node
in_expression s around place at (expr.Number n) = []
in_expression s around place at (expr.Text t) = []
in_expression s around place at (expr.Truth b) = []
in_expression s around place at (expr.Var x) = At at (Name x) s.scope ∷ []
in_expression s around place at (expr.Property e k) = in_expression s around takes.Described at e
in_expression s around place at (expr.Labelled e l) = in_expression s around takes.Described at e
in_expression s around place at (expr.NodeAt p i) = named s takes.Walked p (at + 2) ++ in_expression s around takes.Value at i
in_expression s around place at (expr.EdgeAt p i) = named s takes.Walked p (at + 2) ++ in_expression s around takes.Value at i
in_expression s around place at (expr.Length p) = named s takes.Walked p (at + 2)
in_expression s around place at (expr.Aggregate f operand) =
    At at (Aggregate around) s.scope ∷ in_expression s Aggregated (fold_takes f) at operand
in_expression s around place at (expr.Negate e) = in_expression s around takes.Value at e
in_expression s around place at (expr.Sum e parts) = in_expression s around takes.Value at e ++ in_expression s around takes.Value at parts
in_expression s around place at (expr.Product e parts) = in_expression s around takes.Value at e ++ in_expression s around takes.Value at parts
in_expression s around place at (expr.Compare how a b) =
    in_expression s around (left_takes how) at a ++ in_expression s around (right_takes how (known.form (standing s) a)) at b
in_expression s around place at (expr.Not e) = in_expression s around takes.Condition at e
in_expression s around place at (expr.And parts) = in_expression s around takes.Condition at parts
in_expression s around place at (expr.Or parts) = in_expression s around takes.Condition at parts
in_expression s around place at (expr.Exists i) = At at (Exists (slice_get s.queries i)) s.scope ∷ []
in_expression s around place at (expr.SumPart minus e) = in_expression s around place at e
in_expression s around place at (expr.ProductPart op e) = in_expression s around place at e
in_expression s around place at expr.none = []
in_expression s around place at (expr.more e es) = in_expression s around place at e ++ in_expression s around place at es

abbrev pub in_formula : Setting → Around → Takes → Tree AFormula → List Occurrence
in_formula s around place (tree.Formula e queries) = in_expression s around place 0 e

-- a row of queries as a list
abbrev pub queries_of : Tree (RowOf AQuery) → List (Tree AQuery)
queries_of tree.none = []
queries_of (tree.more query queries) = query ∷ queries_of queries
