-- The expressions of a certificate.
use Rattle.std.specs.Prelude.{ℕ, Bool, nat_le, List, Option}
use Rattle.gc_automata.specs.Automata.{automaton_of}
use Rattle.gc_lex.specs.Lexis.{lexed}
use Rattle.gc_lex.specs.declared.token.Token.{Token}
use Rattle.gc_parse.specs.Parses.{parsed_regex}
use Rattle.gc_regx.specs.Trees.{RegexTree, ARegex}
use Rattle.serde_json.specs.Data.{Data}
use Rattle.serde_json.specs.Find.{as_str}
use Rattle.gc_cert_text.specs.Options.{◌>>=◌, found, if_so}

-- the expression that tokens spell
unfoldable pub tree_of_tokens : List Token → Option (RegexTree ARegex)
tree_of_tokens ts = found (parsed_regex ts)

-- whether its automaton has at most 1,024 states
abbrev pub is_small : RegexTree ARegex → Bool
is_small tree = nat_le (automaton_of {k = ARegex} tree).states 1024

-- the expression that tokens spell, where it is small enough
abbrev pub small_tree_of_tokens : List Token → Option (RegexTree ARegex)
small_tree_of_tokens ts = tree_of_tokens ts >>= if_so is_small

-- the expression of a text
abbrev pub tree_of_text : List ℕ → Option (RegexTree ARegex)
tree_of_text text = found (lexed text) >>= λ list. small_tree_of_tokens list.tokens

abbrev pub expression_in : Data → Option (RegexTree ARegex)
expression_in d = as_str d >>= tree_of_text
