-- The conjuncts of a condition.
use Rattle.std.specs.Prelude.{ℕ, ◌+◌, ◌-◌, List, [], ◌∷◌, take, drop}
use Rattle.gc_base.specs.declared.place.Sym.{Sym}
use Rattle.gc_expr.specs.Trees.{Kind, TreeOf, AnExpr, RowOf, At, Number, Text, Truth, Var, Property, Labelled, NodeAt, EdgeAt, Length}
use Rattle.gc_expr.specs.Trees.{Aggregate, Negate, Sum, Product, Compare, Not, And, Or, Exists, SumPart, ProductPart, none, more, renamed}
use Rattle.gc_alg.specs.Trees as alg
use Rattle.gc_alg.specs.Trees.{Tree, AConjunct, AnExists, ConjunctOf}

-- the parts of the outermost AND of a condition, or the condition itself
abbrev pub listed : TreeOf Sym (RowOf AnExpr) → List (TreeOf Sym AnExpr)
listed none = []
listed (more e es) = e ∷ listed es

abbrev pub and_parts : TreeOf Sym AnExpr → List (TreeOf Sym AnExpr)
and_parts (At token (And parts)) = listed parts
and_parts e = e ∷ []

-- how many EXISTS an expression has
unfoldable pub exists_count : {k : Kind} → TreeOf Sym k → ℕ
exists_count (At token node) = exists_count node
exists_count (Number n) = 0
exists_count (Text t) = 0
exists_count (Truth b) = 0
exists_count (Var x) = 0
exists_count (Property e k) = exists_count e
exists_count (Labelled e l) = exists_count e
exists_count (NodeAt p i) = exists_count i
exists_count (EdgeAt p i) = exists_count i
exists_count (Length p) = 0
exists_count (Aggregate fold operand) = exists_count operand
exists_count (Negate e) = exists_count e
exists_count (Sum e parts) = exists_count e + exists_count parts
exists_count (Product e parts) = exists_count e + exists_count parts
exists_count (Compare how a b) = exists_count a + exists_count b
exists_count (Not e) = exists_count e
exists_count (And parts) = exists_count parts
exists_count (Or parts) = exists_count parts
exists_count (Exists i) = 1
exists_count (SumPart minus e) = exists_count e
exists_count (ProductPart op e) = exists_count e
exists_count none = 0
exists_count (more e es) = exists_count e + exists_count es

-- an expression, the numbers of whose EXISTS are less by some
unfoldable pub counted_from : {k : Kind} → ℕ → TreeOf Sym k → TreeOf Sym k
counted_from before (At token node) = At token (counted_from before node)
counted_from before (Number n) = Number n
counted_from before (Text t) = Text t
counted_from before (Truth b) = Truth b
counted_from before (Var x) = Var x
counted_from before (Property e k) = Property (counted_from before e) k
counted_from before (Labelled e l) = Labelled (counted_from before e) l
counted_from before (NodeAt p i) = NodeAt p (counted_from before i)
counted_from before (EdgeAt p i) = EdgeAt p (counted_from before i)
counted_from before (Length p) = Length p
counted_from before (Aggregate fold operand) = Aggregate fold (counted_from before operand)
counted_from before (Negate e) = Negate (counted_from before e)
counted_from before (Sum e parts) = Sum (counted_from before e) (counted_from before parts)
counted_from before (Product e parts) = Product (counted_from before e) (counted_from before parts)
counted_from before (Compare how a b) = Compare how (counted_from before a) (counted_from before b)
counted_from before (Not e) = Not (counted_from before e)
counted_from before (And parts) = And (counted_from before parts)
counted_from before (Or parts) = Or (counted_from before parts)
counted_from before (Exists i) = Exists (i - before)
counted_from before (SumPart minus e) = SumPart minus (counted_from before e)
counted_from before (ProductPart op e) = ProductPart op (counted_from before e)
counted_from before none = none
counted_from before (more e es) = more (counted_from before e) (counted_from before es)

-- conjuncts, to which EXISTS queries are dealt out in order: each has those of its own EXISTS, which are numbered from 0 in it
abbrev pub dealt : (before : ℕ) → List (TreeOf Sym AnExpr) → List (Tree AnExists) → List (Tree AConjunct)
dealt before [] queries = []
dealt before (e ∷ es) queries =
    ConjunctOf (counted_from before e) (alg.row (take (exists_count e) queries))
    ∷ dealt (before + exists_count e) es (drop (exists_count e) queries)

-- an expression over other names, the numbers of whose EXISTS are less by some
abbrev pub moved : {k : Kind} → (Sym → Sym) → (before : ℕ) → TreeOf Sym k → TreeOf Sym k
moved f before t = counted_from before (renamed f t)
