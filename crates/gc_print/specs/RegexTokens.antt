-- The tokens of regular path expressions.
use Rattle.std.specs.Prelude.{nat_lt, List, [], ◌∷◌, ◌++◌, map, if◌then◌else◌}
use Rattle.gc_lex.specs.declared.token.Token.{Token}
use Rattle.gc_lex.specs.declared.token.Token.TheVariants.{Word, Symbol}
use Rattle.gc_lex.specs.declared.token.Mark.TheVariants as mark
use Rattle.gc_regx.specs.Trees.{Kind, RegexTree, ARegex, ARow, Label, Back, Any, AnyBack, Test, View, Cat, Alt, Star, none, more}
use Rattle.gc_print.specs.LooseTrees.{looseness_of, rank}
use Rattle.gc_print.specs.declared.looseness.Looseness.{Looseness}
use Rattle.gc_print.specs.declared.looseness.Looseness.TheVariants as loose

-- a part of a list: how loose it is, and its tokens
pub record TokenPart : Type 0 where
  pub looseness : Looseness
  pub tokens : List Token

-- the tokens of a part where only parts up to some looseness stand without parentheses
abbrev pub enclosed_tokens : Looseness → TokenPart → List Token
enclosed_tokens most part =
    if nat_lt (rank most) (rank part.looseness)
    then Symbol mark.OpenParenthesis ∷ (part.tokens ++ Symbol mark.CloseParenthesis ∷ [])
    else part.tokens

-- lists one after another, with what stands between them
abbrev pub joined : List Token → List (List Token) → List Token
joined between [] = []
joined between (tokens ∷ []) = tokens
joined between (tokens ∷ others ∷ lists) = tokens ++ (between ++ joined between (others ∷ lists))

-- an expression has tokens, and a row of expressions has those of each
abbrev pub TokensOf : Kind → Type 0
TokensOf ARegex = List Token
TokensOf ARow = List TokenPart

-- the tokens that stand in the text of an expression
unfoldable pub tokens_of : {k : Kind} → RegexTree k → TokensOf k
tokens_of (Label l) = Symbol mark.Colon ∷ Word l ∷ []
tokens_of (Back l) = Symbol mark.Colon ∷ Word l ∷ Symbol mark.Minus ∷ []
tokens_of Any = Symbol mark.LowLine ∷ []
tokens_of AnyBack = Symbol mark.LowLine ∷ Symbol mark.Minus ∷ []
tokens_of (Test l) = Symbol mark.Bang ∷ Symbol mark.Colon ∷ Word l ∷ []
tokens_of (View v) = Symbol mark.Tilde ∷ Word v ∷ []
tokens_of (Cat parts) = joined [] (map (enclosed_tokens loose.Star) (tokens_of parts))
tokens_of (Alt parts) = joined (Symbol mark.Bar ∷ []) (map (enclosed_tokens loose.Juxtaposition) (tokens_of parts))
tokens_of (Star part) = enclosed_tokens loose.Unit (record { looseness = looseness_of part; tokens = tokens_of part }) ++ Symbol mark.Star ∷ []
tokens_of none = []
tokens_of (more part parts) = record { looseness = looseness_of part; tokens = tokens_of part } ∷ tokens_of parts
