-- The expression of tokens is what their parse gives.
use Rattle.std.proofs.Common.{◌≡◌, List, Some, None, Ok, Err, ap}
use Rattle.gc_lex.specs.declared.token.Token.{Token}
use Rattle.gc_grammar.specs.Queries.{SpellsRegex}
use Rattle.gc_parse.specs.Depths.{IsDepthFault}
use Rattle.gc_parse.specs.Parses.{parsed_regex}
use Rattle.gc_parse.specs.declared.refusal.ParseRefusal.{ParseRefusal}
use Rattle.gc_parse.proofs.ParsedExpressions.{expression_spelled, expression_spells}
use Rattle.gc_regx.specs.Trees.{RegexTree, ARegex}
use Rattle.gc_cert_text.specs.Expressions.{tree_of_tokens}
use Rattle.gc_cert_text.specs.Options.{found}
use Rattle.gc_cert_text.proofs.FoundLaws.{was_found}

pub given : (ts : List Token) (tree : RegexTree ARegex) → parsed_regex ts ≡ Ok tree → tree_of_tokens ts ≡ Some tree
unfolding tree_of_tokens
given ts tree is = ap found is

pub refused : (ts : List Token) (why : ParseRefusal) → parsed_regex ts ≡ Err why → tree_of_tokens ts ≡ None
unfolding tree_of_tokens
refused ts why is = ap found is

-- tokens that spell an expression have it
pub spelled : (ts : List Token) (tree : RegexTree ARegex) → IsDepthFault ts None → SpellsRegex ts tree → tree_of_tokens ts ≡ Some tree
spelled ts tree none spelling = given ts tree (expression_spelled ts tree none spelling)

-- the expression of tokens is one that they spell
pub tree_spelled : (ts : List Token) (tree : RegexTree ARegex) → tree_of_tokens ts ≡ Some tree → IsDepthFault ts None × SpellsRegex ts tree
unfolding tree_of_tokens
tree_spelled ts tree h = expression_spells ts tree (was_found (parsed_regex ts) tree h)
