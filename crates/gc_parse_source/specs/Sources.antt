-- What the parser reads from: the tokens of a file, and the number of each name among them.
use Rattle.std.specs.Prelude.{◌≡◌, false, List, [], ◌∷◌, ◌++◌, Some, fold, slice_get, if◌then◌else◌}
use Rattle.gc_ast.specs.Names.{with_name}
use Rattle.gc_base.specs.declared.place.Sym.{Sym}
use Rattle.gc_base.specs.Words.{is_reserved}
use Rattle.gc_lex.specs.declared.token.Token.{Token}
use Rattle.gc_lex.specs.declared.token.Token.TheVariants.{Word}
use Rattle.gc_expr.specs.Views.{Names}

-- the tokens, and the names by number
pub record Tokens : Type 0 where
  pub tokens : List Token
  pub names : Names

-- a number is that of the token, where this is a name
abbrev pub IsNumberOf : Names → Token → Sym → Type 0
IsNumberOf names (Word a) sym = is_reserved a ≡ false → slice_get names sym.0 ≡ Some a
IsNumberOf names token sym = Unit {0}

-- the same one by one
abbrev pub AreNumbersOf : Names → List Token → List Sym → Type 0
AreNumbersOf names [] [] = Unit {0}
AreNumbersOf names [] (sym ∷ syms) = ⊥
AreNumbersOf names (token ∷ ts) [] = ⊥
AreNumbersOf names (token ∷ ts) (sym ∷ syms) = IsNumberOf names token sym × AreNumbersOf names ts syms

-- a table with names behind those of another
abbrev pub Extends : Names → Names → Type 0
Extends names others = (more : Names) × (others ≡ names ++ more)

-- a table with the name that a token is; a reserved word is none
abbrev pub with_token : Names → Token → Names
with_token names (Word a) = if is_reserved a then names else with_name names a
with_token names token = names

-- the names among tokens, by first occurrence
abbrev pub names_among : List Token → Names
names_among tokens = fold with_token [] tokens
