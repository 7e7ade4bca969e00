use Rattle.std.proofs.Common.{refl, [], ◌∷◌}
use Rattle.gc_lex.specs.declared.token.Token.TheVariants.{Word, Symbol}
use Rattle.gc_lex.specs.declared.token.Mark.TheVariants.{OpenParenthesis, CloseParenthesis}
use Rattle.gc_grammar.specs.Words.{next}
use Rattle.gc_grammar.specs.Queries.{start, within}
use Rattle.gc_grammar.proofs.Spellings.{spells_graph_inside, spells_file, graph_query}
use Rattle.gc_grammar.proofs.laws.a_name_in_parentheses_is_that_name.Goals as goal

pub returns : goal.returns
returns c = λ g is_name. (
  next (next (next start)),
  (
    1,
    spells_file (within 1) start (next (next (next start))) (Symbol OpenParenthesis ∷ Word g ∷ Symbol CloseParenthesis ∷ []) (graph_query g 1) refl
        (spells_graph_inside 0 g is_name start),
  ),
)
