-- What it is for a text to read back.
use Rattle.std.specs.Prelude.{◌≡◌, ℕ, List, map, Ok}
use Rattle.gc_lex.specs.Lexis.{TokenList, lexed}
use Rattle.gc_ast.specs.Trees.{Tree, AStatement}
use Rattle.gc_grammar.specs.Queries.{SpellsFile}
use Rattle.gc_print_query.specs.Unnumbered.{unnumbered}

-- a text has tokens, and they spell these statements but for the numbers of their tokens
pub record ReadsBack (text : List ℕ) (statements : List (Tree AStatement)) : Type 0 where
  pub list : TokenList
  pub lexed_so : lexed text ≡ Ok list
  pub read : List (Tree AStatement)
  pub spells : SpellsFile list.tokens read
  pub same : map unnumbered read ≡ map unnumbered statements
