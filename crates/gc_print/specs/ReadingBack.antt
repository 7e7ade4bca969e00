-- What it is for a text to read back.
use Rattle.std.specs.Prelude.{◌≡◌, ℕ, List, Ok}
use Rattle.gc_lex.specs.Lexis.{TokenList, lexed}
use Rattle.gc_regx.specs.Trees.{RegexTree, ARegex}
use Rattle.gc_grammar.specs.Queries.{SpellsRegex}

-- a text has tokens, and they spell the expression
pub record ReadsBack (text : List ℕ) (tree : RegexTree ARegex) : Type 0 where
  pub list : TokenList
  pub lexed_so : lexed text ≡ Ok list
  pub spells : SpellsRegex list.tokens tree
