use Rattle.std.proofs.Common.{refl, [], ◌∷◌}
use Rattle.gc_lex.specs.declared.token.Token.TheVariants.{Word}
use Rattle.gc_grammar.specs.Words.{next}
use Rattle.gc_grammar.specs.Queries.{start, within}
use Rattle.gc_grammar.proofs.Spellings.{spells_graph, spells_file, graph_query}
use Rattle.gc_grammar.proofs.laws.a_name_is_a_file.Goals as goal

pub returns : goal.returns
returns c = λ g is_name. (
  next start,
  (0, spells_file (within 0) start (next start) (Word g ∷ []) (graph_query g 0) refl (spells_graph (within 0) g is_name start)),
)
