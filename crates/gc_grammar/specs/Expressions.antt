-- The grammar of expressions.
use Rattle.std.specs.Prelude.{ℕ, Bool, true, false, List, [], ◌∷◌, codes, Option, Some, None}
use Rattle.gc_lex.specs.declared.token.Mark.TheVariants as mark
use Rattle.gc_expr.specs.declared.expr.Comparison.{Comparison}
use Rattle.gc_expr.specs.declared.expr.Comparison.TheVariants.{Equal, Unequal, Less, LessEqual, Greater, GreaterEqual, Member, Included}
use Rattle.gc_expr.specs.declared.expr.Fold.{Fold}
use Rattle.gc_expr.specs.declared.expr.Fold.TheVariants as fold
use Rattle.gc_expr.specs.declared.expr.ProductOp.{ProductOp}
use Rattle.gc_expr.specs.declared.expr.ProductOp.TheVariants.{Times, Divided, Remainder}
use Rattle.gc_expr.specs.Trees as tree
use Rattle.gc_expr.specs.Trees.{ExprTree, AnExpr, ANode, ASumPart, AProductPart, row, maybe, At}
use Rattle.gc_ast.specs.Trees.{Tree, AQuery, AFormula, Formula}
use Rattle.gc_ast.specs.Trees as query
use Rattle.gc_grammar.specs.Words.{Lang, ◌⋅◌, ◌∣◌, ◌⇒◌, ◌▸◌, ◌◂◌, optional, many, separated, as_value, mark, the_word, number, text, word, name, alone, numbered}

-- an expression
abbrev pub Expr : Type 0
Expr = ExprTree AnExpr

-- what brackets may hold: the expressions and the queries whose own brackets are less deep
pub record Inside : Type 1 where
  pub expr : Lang Expr
  pub query : Lang (Tree AQuery)

-- what may stand after a primary
pub data Suffix : Type 0 where
  PropertyOf : List ℕ → Suffix
  LabelOf : List ℕ → Suffix

-- a primary with its suffix, if it has one
abbrev pub suffixed : ℕ → Expr → Option Suffix → Expr
suffixed n e None = e
suffixed n e (Some (PropertyOf k)) = At n (tree.Property e k)
suffixed n e (Some (LabelOf l)) = At n (tree.Labelled e l)

-- an operand with a prefix, if it has one
abbrev pub prefixed : (Expr → ExprTree ANode) → ℕ → Option (Unit {0}) → Expr → Expr
prefixed make n None e = e
prefixed make n (Some u) e = At n (make e)

-- a sum of one part is the part itself
abbrev pub summed : ℕ → Expr → List (ExprTree ASumPart) → Expr
summed n e [] = e
summed n e (part ∷ parts) = At n (tree.Sum e (row (part ∷ parts)))

-- a product of one part is the part itself
abbrev pub multiplied : ℕ → Expr → List (ExprTree AProductPart) → Expr
multiplied n e [] = e
multiplied n e (part ∷ parts) = At n (tree.Product e (row (part ∷ parts)))

-- a comparison, if there is a right side
abbrev pub compared : ℕ → Expr → Option (Comparison × Expr) → Expr
compared n e None = e
compared n e (Some right) = At n (tree.Compare right.0 e right.1)

-- a list of one part is the part itself
abbrev pub chained : (ExprTree (tree.RowOf AnExpr) → ExprTree ANode) → ℕ → List Expr → Expr
chained make n (part ∷ []) = part
chained make n parts = At n (make (row parts))

-- `(` L `)`
abbrev pub in_parentheses : {A : Type 0} → Lang A → Lang A
in_parentheses L = mark mark.OpenParenthesis ▸ L ◂ mark mark.CloseParenthesis

-- `nodes` or `edges`, and `(` name `)` `[` expr `]`
abbrev pub indexed : List ℕ → (List ℕ → Expr → ExprTree ANode) → Inside → Lang Expr
indexed what make inside =
    (the_word what ▸ in_parentheses name ⋅ mark mark.OpenBracket ▸ inside.expr ◂ mark mark.CloseBracket)
    ⇒ λ n v. At n (make v.0.name v.1)

-- a word that folds the values of an operand
abbrev pub folding : Lang Fold
folding =
    as_value (the_word (codes "COUNT")) fold.Count ∣ as_value (the_word (codes "SUM")) fold.Sum
    ∣ as_value (the_word (codes "MIN")) fold.Min ∣ as_value (the_word (codes "MAX")) fold.Max
    ∣ as_value (the_word (codes "COLLECT")) fold.Collect

-- prim = number | text | `TRUE` | `FALSE` | name | `(` expr `)` | `EXISTS` `(` query `)`
--     | (`nodes` | `edges`) `(` name `)` `[` expr `]` | `length` `(` name `)` | `COUNT` `(` `*` `)`
--     | (`COUNT` | `SUM` | `MIN` | `MAX` | `COLLECT`) `(` expr `)`; parentheses leave no mark
abbrev pub prim : Inside → Lang Expr
prim inside =
    number ⇒ (λ n v. At n (tree.Number v))
    ∣ text ⇒ (λ n v. At n (tree.Text v))
    ∣ the_word (codes "TRUE") ⇒ (λ n v. At n (tree.Truth true))
    ∣ the_word (codes "FALSE") ⇒ (λ n v. At n (tree.Truth false))
    ∣ name ⇒ (λ n v. At n (tree.Var v.name))
    ∣ in_parentheses inside.expr
    ∣ (the_word (codes "EXISTS") ▸ in_parentheses (numbered inside.query)) ⇒ (λ n i. At n (tree.Exists i))
    ∣ indexed (codes "nodes") tree.NodeAt inside
    ∣ indexed (codes "edges") tree.EdgeAt inside
    ∣ (the_word (codes "length") ▸ in_parentheses name) ⇒ (λ n v. At n (tree.Length v.name))
    ∣ (the_word (codes "COUNT") ▸ in_parentheses (mark mark.Star)) ⇒ (λ n v. At n (tree.Aggregate fold.Rows (maybe None)))
    ∣ (folding ⋅ in_parentheses inside.expr) ⇒ (λ n v. At n (tree.Aggregate v.0 (maybe (Some v.1))))

-- `.` word | `:` word
abbrev pub suffix : Lang Suffix
suffix = (mark mark.Dot ▸ word) ⇒ (λ n v. PropertyOf v) ∣ (mark mark.Colon ▸ word) ⇒ (λ n v. LabelOf v)

-- post = prim [ `.` word | `:` word ]
abbrev pub post : Inside → Lang Expr
post inside = (prim inside ⋅ optional suffix) ⇒ λ n v. suffixed n v.0 v.1

-- neg = [ `-` ] post
abbrev pub neg : Inside → Lang Expr
neg inside = (optional (mark mark.Minus) ⋅ post inside) ⇒ λ n v. prefixed tree.Negate n v.0 v.1

-- `*` | `/` | `%`
abbrev pub product_op : Lang ProductOp
product_op = as_value (mark mark.Star) Times ∣ as_value (mark mark.Slash) Divided ∣ as_value (mark mark.Percent) Remainder

-- a later part of a product
abbrev pub product_part : Inside → Lang (ExprTree AProductPart)
product_part inside = (product_op ⋅ neg inside) ⇒ λ n v. tree.ProductPart v.0 v.1

-- prod = neg { (`*` | `/` | `%`) neg }
abbrev pub prod : Inside → Lang Expr
prod inside = (neg inside ⋅ many (product_part inside)) ⇒ λ n v. multiplied n v.0 v.1

-- `+` | `-`, which is true
abbrev pub sign : Lang Bool
sign = as_value (mark mark.Plus) false ∣ as_value (mark mark.Minus) true

-- a later part of a sum
abbrev pub sum_part : Inside → Lang (ExprTree ASumPart)
sum_part inside = (sign ⋅ prod inside) ⇒ λ n v. tree.SumPart v.0 v.1

-- sum = prod { (`+` | `-`) prod }
abbrev pub sum : Inside → Lang Expr
sum inside = (prod inside ⋅ many (sum_part inside)) ⇒ λ n v. summed n v.0 v.1

-- `=` | `<>` | `<` | `<=` | `>` | `>=` | `IN` | `SUBSET`
abbrev pub comparison : Lang Comparison
comparison =
    as_value (mark mark.Equals) Equal ∣ as_value (mark mark.Differs) Unequal
    ∣ as_value (mark mark.Less) Less ∣ as_value (mark mark.AtMost) LessEqual
    ∣ as_value (mark mark.Greater) Greater ∣ as_value (mark mark.AtLeast) GreaterEqual
    ∣ as_value (the_word (codes "IN")) Member ∣ as_value (the_word (codes "SUBSET")) Included

-- cmp = sum [ (`=` | `<>` | `<` | `<=` | `>` | `>=` | `IN` | `SUBSET`) sum ]
abbrev pub cmp : Inside → Lang Expr
cmp inside = (sum inside ⋅ optional (comparison ⋅ sum inside)) ⇒ λ n v. compared n v.0 v.1

-- not = [ `NOT` ] cmp
abbrev pub not : Inside → Lang Expr
not inside = (optional (the_word (codes "NOT")) ⋅ cmp inside) ⇒ λ n v. prefixed tree.Not n v.0 v.1

-- and = not { `AND` not }
abbrev pub and : Inside → Lang Expr
and inside = separated (not inside) (the_word (codes "AND")) ⇒ λ n parts. chained tree.And n parts

-- expr = and { `OR` and }
abbrev pub expr : Inside → Lang Expr
expr inside = separated (and inside) (the_word (codes "OR")) ⇒ λ n parts. chained tree.Or n parts

-- an expression in a query, with the queries of its own EXISTS beside it
abbrev pub formula : Inside → Lang (Tree AFormula)
formula inside = alone (expr inside) ⇒ λ n v. Formula v.0 (query.row v.1)
