-- An expression over other names has as many EXISTS.
use Rattle.std.proofs.Common.{◌≡◌, refl, ◌+◌}
use Rattle.gc_base.specs.declared.place.Sym.{Sym}
use Rattle.gc_expr.specs.Trees.{Kind, TreeOf, At, Number, Text, Truth, Var, Property, Labelled, NodeAt, EdgeAt, Length, Aggregate, Negate, Sum, Product, Compare, Not, And, Or, Exists, SumPart, ProductPart, none, more, renamed}
use Rattle.gc_lower.specs.Conditions.{exists_count}

pub exists_renamed : {k : Kind} (f : Sym → Sym) (t : TreeOf Sym k) → exists_count (renamed f t) ≡ exists_count t
unfolding renamed exists_count
exists_renamed f (At token node) = exists_renamed f node
exists_renamed f (Number n) = refl
exists_renamed f (Text t) = refl
exists_renamed f (Truth b) = refl
exists_renamed f (Var x) = refl
exists_renamed f (Property e k) = exists_renamed f e
exists_renamed f (Labelled e l) = exists_renamed f e
exists_renamed f (NodeAt p i) = exists_renamed f i
exists_renamed f (EdgeAt p i) = exists_renamed f i
exists_renamed f (Length p) = refl
exists_renamed f (Aggregate fold operand) = exists_renamed f operand
exists_renamed f (Negate e) = exists_renamed f e
exists_renamed f (Sum e parts) = λ i. exists_renamed f e i + exists_renamed f parts i
exists_renamed f (Product e parts) = λ i. exists_renamed f e i + exists_renamed f parts i
exists_renamed f (Compare how a b) = λ i. exists_renamed f a i + exists_renamed f b i
exists_renamed f (Not e) = exists_renamed f e
exists_renamed f (And parts) = exists_renamed f parts
exists_renamed f (Or parts) = exists_renamed f parts
exists_renamed f (Exists i) = refl
exists_renamed f (SumPart minus e) = exists_renamed f e
exists_renamed f (ProductPart op e) = exists_renamed f e
exists_renamed f none = refl
exists_renamed f (more t ts) = λ i. exists_renamed f t i + exists_renamed f ts i
