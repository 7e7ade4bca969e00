-- Trees without the numbers of their tokens: each number is 0.
use Rattle.std.specs.Prelude.{map}
use Rattle.std.specs.Option.{option_map}
use Rattle.gc_expr.specs.Trees as expr
use Rattle.gc_expr.specs.Trees.{ExprTree}
use Rattle.gc_ast.specs.declared.pattern.CountAt.{CountAt}
use Rattle.gc_ast.specs.Trees as tree
use Rattle.gc_ast.specs.Trees.{Kind, Tree, Named}

-- an expression
unfoldable pub unnumbered_expr : {k : expr.Kind} → ExprTree k → ExprTree k
unnumbered_expr (expr.At token node) = expr.At 0 (unnumbered_expr node)
unnumbered_expr (expr.Number n) = expr.Number n
unnumbered_expr (expr.Text t) = expr.Text t
unnumbered_expr (expr.Truth b) = expr.Truth b
unnumbered_expr (expr.Var x) = expr.Var x
unnumbered_expr (expr.Property e k) = expr.Property (unnumbered_expr e) k
unnumbered_expr (expr.Labelled e l) = expr.Labelled (unnumbered_expr e) l
unnumbered_expr (expr.NodeAt p i) = expr.NodeAt p (unnumbered_expr i)
unnumbered_expr (expr.EdgeAt p i) = expr.EdgeAt p (unnumbered_expr i)
unnumbered_expr (expr.Length p) = expr.Length p
unnumbered_expr (expr.Aggregate fold operand) = expr.Aggregate fold (unnumbered_expr operand)
unnumbered_expr (expr.Negate e) = expr.Negate (unnumbered_expr e)
unnumbered_expr (expr.Sum e parts) = expr.Sum (unnumbered_expr e) (unnumbered_expr parts)
unnumbered_expr (expr.Product e parts) = expr.Product (unnumbered_expr e) (unnumbered_expr parts)
unnumbered_expr (expr.Compare how a b) = expr.Compare how (unnumbered_expr a) (unnumbered_expr b)
unnumbered_expr (expr.Not e) = expr.Not (unnumbered_expr e)
unnumbered_expr (expr.And parts) = expr.And (unnumbered_expr parts)
unnumbered_expr (expr.Or parts) = expr.Or (unnumbered_expr parts)
unnumbered_expr (expr.Exists i) = expr.Exists i
unnumbered_expr (expr.SumPart minus e) = expr.SumPart minus (unnumbered_expr e)
unnumbered_expr (expr.ProductPart op e) = expr.ProductPart op (unnumbered_expr e)
unnumbered_expr expr.none = expr.none
unnumbered_expr (expr.more t ts) = expr.more (unnumbered_expr t) (unnumbered_expr ts)

-- a name
abbrev pub unnumbered_name : Named → Named
unnumbered_name n = record { name = n.name; token = 0 }

-- a number of paths
abbrev pub unnumbered_count : CountAt → CountAt
unnumbered_count k = record { count = k.count; token = 0 }

-- a query file's tree
unfoldable pub unnumbered : {k : Kind} → Tree k → Tree k
unnumbered (tree.View name query) = tree.View (unnumbered_name name) (unnumbered query)
unnumbered (tree.Ask query) = tree.Ask (unnumbered query)
unnumbered (tree.Query heads first rest) = tree.Query (unnumbered heads) (unnumbered first) (unnumbered rest)
unnumbered (tree.NextTerm op term) = tree.NextTerm op (unnumbered term)
unnumbered (tree.BasicTerm basic) = tree.BasicTerm (unnumbered basic)
unnumbered (tree.GraphTerm name) = tree.GraphTerm (unnumbered_name name)
unnumbered (tree.QueryTerm query) = tree.QueryTerm (unnumbered query)
unnumbered (tree.PathHead name chains filter cost) = tree.PathHead (unnumbered_name name) (unnumbered chains) (unnumbered filter) (unnumbered cost)
unnumbered (tree.GraphHead name query) = tree.GraphHead (unnumbered_name name) (unnumbered query)
unnumbered (tree.Formula e queries) = tree.Formula (unnumbered_expr e) (unnumbered queries)
unnumbered (tree.Basic token items main optionals) = tree.Basic 0 (unnumbered items) (unnumbered main) (unnumbered optionals)
unnumbered (tree.Block patterns filter) = tree.Block (unnumbered patterns) (unnumbered filter)
unnumbered (tree.Optional token block) = tree.Optional 0 (unnumbered block)
unnumbered (tree.Located chain on) = tree.Located (unnumbered chain) (option_map unnumbered_name on)
unnumbered (tree.Node element) = tree.Node (unnumbered element)
unnumbered (tree.Edge way element) = tree.Edge way (unnumbered element)
unnumbered (tree.Path token regex_at body) = tree.Path 0 0 (unnumbered body)
unnumbered (tree.Element token name labels properties) = tree.Element 0 (option_map unnumbered_name name) labels (unnumbered properties)
unnumbered (tree.PropertyUse token property value) = tree.PropertyUse 0 property (unnumbered_name value)
unnumbered (tree.Reach regex views) = tree.Reach regex (map unnumbered_name views)
unnumbered (tree.Found k name regex views cost) =
    tree.Found (option_map unnumbered_count k) (unnumbered_name name) regex (map unnumbered_name views) (option_map unnumbered_name cost)
unnumbered (tree.All name regex views) = tree.All (unnumbered_name name) regex (map unnumbered_name views)
unnumbered (tree.Stored name labels) = tree.Stored (unnumbered_name name) labels
unnumbered (tree.GraphItem name) = tree.GraphItem (unnumbered_name name)
unnumbered (tree.ChainItem parts changes condition) = tree.ChainItem (unnumbered parts) (unnumbered changes) (unnumbered condition)
unnumbered (tree.NewNode element) = tree.NewNode (unnumbered element)
unnumbered (tree.NewEdge way element) = tree.NewEdge way (unnumbered element)
unnumbered (tree.Projected token name) = tree.Projected 0 (unnumbered_name name)
unnumbered (tree.NewStored token name labels assigns) = tree.NewStored 0 (unnumbered_name name) labels (unnumbered assigns)
unnumbered (tree.NewElement token name copy group labels assigns) =
    tree.NewElement 0 (option_map unnumbered_name name) (option_map unnumbered_name copy) (unnumbered group) labels (unnumbered assigns)
unnumbered (tree.GroupTerm name property) = tree.GroupTerm (unnumbered_name name) property
unnumbered (tree.Assign token property value) = tree.Assign 0 property (unnumbered value)
unnumbered (tree.SetProperty name assign) = tree.SetProperty (unnumbered_name name) (unnumbered assign)
unnumbered (tree.AddLabel name label) = tree.AddLabel (unnumbered_name name) label
unnumbered (tree.DropProperty name property) = tree.DropProperty (unnumbered_name name) property
unnumbered (tree.DropLabel name label) = tree.DropLabel (unnumbered_name name) label
unnumbered tree.none = tree.none
unnumbered (tree.more t ts) = tree.more (unnumbered t) (unnumbered ts)
