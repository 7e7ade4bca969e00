-- Token lists and trees of the examples.
use Rattle.std.specs.Prelude.{ℕ, true, List, [], ◌∷◌, codes}
use Rattle.gc_lex.specs.declared.token.Token.{Token}
use Rattle.gc_lex.specs.declared.token.Token.TheVariants.{Word, Symbol}
use Rattle.gc_lex.specs.declared.token.Mark.TheVariants.{Minus}
use Rattle.gc_ast.specs.Trees.{Tree, AStatement, Ask, Query, GraphTerm, none}
use Rattle.gc_expr.specs.Trees as tree
use Rattle.gc_expr.specs.Trees.{row, At}
use Rattle.gc_grammar.specs.Words.{Point}
use Rattle.gc_grammar.specs.Expressions.{Expr}

-- the file that asks for the graph of a name, whose token has this number
abbrev pub graph_file : List ℕ → ℕ → List (Tree AStatement)
graph_file name token = Ask (Query none (GraphTerm (record { name = name; token = token })) none) ∷ []

-- before the token of this number, with no EXISTS so far
abbrev pub before_token : ℕ → Point
before_token token = record { token = token; exists = [] }

-- a variable whose token has this number
abbrev pub variable : ℕ → List ℕ → Expr
variable token name = At token (tree.Var name)

-- `a AND b OR c`
abbrev pub a_and_b_or_c : List ℕ → List ℕ → List ℕ → List Token
a_and_b_or_c a b c = Word a ∷ Word (codes "AND") ∷ Word b ∷ Word (codes "OR") ∷ Word c ∷ []

-- one of two: both a and b, or c
abbrev pub both_or : List ℕ → List ℕ → List ℕ → Expr
both_or a b c =
    At 0 (tree.Or (row (At 0 (tree.And (row (variable 0 a ∷ variable 2 b ∷ []))) ∷ variable 4 c ∷ [])))

-- `a - b - c`
abbrev pub a_minus_b_minus_c : List ℕ → List ℕ → List ℕ → List Token
a_minus_b_minus_c a b c = Word a ∷ Symbol Minus ∷ Word b ∷ Symbol Minus ∷ Word c ∷ []

-- a, from which first b and then c is taken away
abbrev pub less_both : List ℕ → List ℕ → List ℕ → Expr
less_both a b c =
    At 0 (tree.Sum (variable 0 a) (row (tree.SumPart true (variable 2 b) ∷ tree.SumPart true (variable 4 c) ∷ [])))
