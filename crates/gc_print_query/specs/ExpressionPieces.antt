-- The pieces of expressions.
use Rattle.std.specs.Prelude.{ℕ, Bool, nat_lt, List, [], ◌∷◌, ◌++◌, map, codes, slice_index_or, if◌then◌else◌}
use Rattle.std.specs.List.{flat_map}
use Rattle.gc_lex.specs.declared.token.Token.TheVariants.{Word, Number, Text, Symbol}
use Rattle.gc_lex.specs.declared.token.Mark.{Mark}
use Rattle.gc_lex.specs.declared.token.Mark.TheVariants as mark
use Rattle.gc_expr.specs.declared.expr.Comparison.{Comparison}
use Rattle.gc_expr.specs.declared.expr.Comparison.TheVariants as compare
use Rattle.gc_expr.specs.declared.expr.Fold.{Fold}
use Rattle.gc_expr.specs.declared.expr.Fold.TheVariants as fold
use Rattle.gc_expr.specs.declared.expr.ProductOp.{ProductOp}
use Rattle.gc_expr.specs.declared.expr.ProductOp.TheVariants.{Times, Divided, Remainder}
use Rattle.gc_expr.specs.Trees as tree
use Rattle.gc_expr.specs.Trees.{Kind, AnExpr, ANode, ASumPart, AProductPart, RowOf, ExprTree, At}
use Rattle.gc_print_query.specs.Pieces.{Piece, Blank, Lexeme, joined}

abbrev pub word : List ℕ → Piece
word bytes = Lexeme (Word bytes)

abbrev pub mark_piece : Mark → Piece
mark_piece symbol = Lexeme (Symbol symbol)

-- pieces between parentheses
abbrev pub parenthesized : List Piece → List Piece
parenthesized pieces = mark_piece mark.OpenParenthesis ∷ (pieces ++ mark_piece mark.CloseParenthesis ∷ [])

-- an expression: how loosely it holds together, and its pieces. The tightest are the primaries, at 0;
-- then at 1 those with `.` or `:`, at 2 with a sign, at 3 products, at 4 sums, at 5 comparisons, at 6
-- with NOT, at 7 with AND and at 8 with OR
pub record Part : Type 0 where
  pub rank : ℕ
  pub pieces : List Piece

abbrev pub primary : List Piece → Part
primary pieces = record { rank = 0; pieces = pieces }

-- the pieces of an expression where only those up to some rank stand without parentheses
abbrev pub closed : ℕ → Part → List Piece
closed most part = if nat_lt most part.rank then parenthesized part.pieces else part.pieces

abbrev pub truth_word : Bool → List ℕ
truth_word truth = if truth then codes "TRUE" else codes "FALSE"

abbrev pub fold_word : Fold → List ℕ
fold_word fold.Rows = codes "COUNT"
fold_word fold.Count = codes "COUNT"
fold_word fold.Sum = codes "SUM"
fold_word fold.Min = codes "MIN"
fold_word fold.Max = codes "MAX"
fold_word fold.Collect = codes "COLLECT"

-- what is folded: without an operand the rows
abbrev pub folded : List Part → List Piece
folded [] = mark_piece mark.Star ∷ []
folded (operand ∷ others) = operand.pieces

abbrev pub sign_piece : Bool → Piece
sign_piece minus = if minus then mark_piece mark.Minus else mark_piece mark.Plus

abbrev pub product_piece : ProductOp → Piece
product_piece Times = mark_piece mark.Star
product_piece Divided = mark_piece mark.Slash
product_piece Remainder = mark_piece mark.Percent

abbrev pub comparison_piece : Comparison → Piece
comparison_piece compare.Equal = mark_piece mark.Equals
comparison_piece compare.Unequal = mark_piece mark.Differs
comparison_piece compare.Less = mark_piece mark.Less
comparison_piece compare.LessEqual = mark_piece mark.AtMost
comparison_piece compare.Greater = mark_piece mark.Greater
comparison_piece compare.GreaterEqual = mark_piece mark.AtLeast
comparison_piece compare.Member = word (codes "IN")
comparison_piece compare.Included = word (codes "SUBSET")

-- a word between spaces
abbrev pub between : List ℕ → List Piece
between bytes = Blank ∷ word bytes ∷ Blank ∷ []

-- `nodes(p)[i]` and its kin
abbrev pub indexed : List ℕ → List ℕ → List Piece → List Piece
indexed what name index =
    word what ∷ mark_piece mark.OpenParenthesis ∷ word name ∷ mark_piece mark.CloseParenthesis
    ∷ mark_piece mark.OpenBracket ∷ (index ++ mark_piece mark.CloseBracket ∷ [])

-- an expression is a part, a later part of a sum or a product has pieces, and a row has what each has
abbrev pub PartsOf : Kind → Type 0
PartsOf AnExpr = Part
PartsOf ANode = Part
PartsOf ASumPart = List Piece
PartsOf AProductPart = List Piece
PartsOf (RowOf k) = List (PartsOf k)

-- the parts of an expression beside the pieces of its EXISTS queries, by their numbers
unfoldable pub parts_of : {k : Kind} → List (List Piece) → ExprTree k → PartsOf k
parts_of exists (At token node) = parts_of exists node
parts_of exists (tree.Number n) = primary (Lexeme (Number n) ∷ [])
parts_of exists (tree.Text t) = primary (Lexeme (Text t) ∷ [])
parts_of exists (tree.Truth b) = primary (word (truth_word b) ∷ [])
parts_of exists (tree.Var x) = primary (word x ∷ [])
parts_of exists (tree.Property e k) = record { rank = 1; pieces = closed 0 (parts_of exists e) ++ mark_piece mark.Dot ∷ word k ∷ [] }
parts_of exists (tree.Labelled e l) = record { rank = 1; pieces = closed 0 (parts_of exists e) ++ mark_piece mark.Colon ∷ word l ∷ [] }
parts_of exists (tree.NodeAt p i) = primary (indexed (codes "nodes") p (parts_of exists i).pieces)
parts_of exists (tree.EdgeAt p i) = primary (indexed (codes "edges") p (parts_of exists i).pieces)
parts_of exists (tree.Length p) = primary (word (codes "length") ∷ parenthesized (word p ∷ []))
parts_of exists (tree.Aggregate f operand) = primary (word (fold_word f) ∷ parenthesized (folded (parts_of exists operand)))
parts_of exists (tree.Negate e) = record { rank = 2; pieces = mark_piece mark.Minus ∷ closed 1 (parts_of exists e) }
parts_of exists (tree.Product e parts) = record { rank = 3; pieces = closed 2 (parts_of exists e) ++ flat_map (λ part. part) (parts_of exists parts) }
parts_of exists (tree.Sum e parts) = record { rank = 4; pieces = closed 3 (parts_of exists e) ++ flat_map (λ part. part) (parts_of exists parts) }
parts_of exists (tree.Compare how a b) =
    record { rank = 5; pieces = closed 4 (parts_of exists a) ++ Blank ∷ comparison_piece how ∷ Blank ∷ closed 4 (parts_of exists b) }
parts_of exists (tree.Not e) = record { rank = 6; pieces = word (codes "NOT") ∷ Blank ∷ closed 5 (parts_of exists e) }
parts_of exists (tree.And parts) = record { rank = 7; pieces = joined (between (codes "AND")) (map (closed 6) (parts_of exists parts)) }
parts_of exists (tree.Or parts) = record { rank = 8; pieces = joined (between (codes "OR")) (map (closed 7) (parts_of exists parts)) }
parts_of exists (tree.Exists i) = primary (word (codes "EXISTS") ∷ Blank ∷ slice_index_or exists i [])
parts_of exists (tree.SumPart minus e) = Blank ∷ sign_piece minus ∷ Blank ∷ closed 3 (parts_of exists e)
parts_of exists (tree.ProductPart op e) = Blank ∷ product_piece op ∷ Blank ∷ closed 2 (parts_of exists e)
parts_of exists tree.none = []
parts_of exists (tree.more t ts) = parts_of exists t ∷ parts_of exists ts
