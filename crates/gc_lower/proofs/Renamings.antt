-- Two renamings, one after the other.
use Rattle.std.proofs.Common.{◌≡◌, refl, ap}
use Rattle.gc_expr.specs.Trees.{Kind, TreeOf, At, Number, Text, Truth, Var, Property, Labelled, NodeAt, EdgeAt, Length, Aggregate, Negate, Sum, Product, Compare, Not, And, Or, Exists, SumPart, ProductPart, none, more, renamed}

-- renaming twice is renaming once
pub renamed_twice : {A B C : Type 0} {k : Kind} (f : B → C) (g : A → B) (t : TreeOf A k) → renamed f (renamed g t) ≡ renamed (λ x. f (g x)) t
unfolding renamed
renamed_twice f g (At token node) = ap (At token) (renamed_twice f g node)
renamed_twice f g (Number n) = refl
renamed_twice f g (Text t) = refl
renamed_twice f g (Truth b) = refl
renamed_twice f g (Var x) = refl
renamed_twice f g (Property e k) = ap (λ of. Property of k) (renamed_twice f g e)
renamed_twice f g (Labelled e l) = ap (λ of. Labelled of l) (renamed_twice f g e)
renamed_twice f g (NodeAt p i) = ap (NodeAt (f (g p))) (renamed_twice f g i)
renamed_twice f g (EdgeAt p i) = ap (EdgeAt (f (g p))) (renamed_twice f g i)
renamed_twice f g (Length p) = refl
renamed_twice f g (Aggregate fold operand) = ap (Aggregate fold) (renamed_twice f g operand)
renamed_twice f g (Negate e) = ap Negate (renamed_twice f g e)
renamed_twice f g (Sum e parts) = λ i. Sum (renamed_twice f g e i) (renamed_twice f g parts i)
renamed_twice f g (Product e parts) = λ i. Product (renamed_twice f g e i) (renamed_twice f g parts i)
renamed_twice f g (Compare how a b) = λ i. Compare how (renamed_twice f g a i) (renamed_twice f g b i)
renamed_twice f g (Not e) = ap Not (renamed_twice f g e)
renamed_twice f g (And parts) = ap And (renamed_twice f g parts)
renamed_twice f g (Or parts) = ap Or (renamed_twice f g parts)
renamed_twice f g (Exists i) = refl
renamed_twice f g (SumPart minus e) = ap (SumPart minus) (renamed_twice f g e)
renamed_twice f g (ProductPart op e) = ap (ProductPart op) (renamed_twice f g e)
renamed_twice f g none = refl
renamed_twice f g (more tree trees) = λ i. more (renamed_twice f g tree i) (renamed_twice f g trees i)
