use Rattle.std.proofs.Common.{refl}
use Rattle.gc_regx.specs.Trees.{Label}
use Rattle.gc_grammar.specs.Words.{next}
use Rattle.gc_grammar.specs.Regexes.{plain}
use Rattle.gc_grammar.specs.Queries.{start}
use Rattle.gc_grammar.proofs.Spellings.{spells_regex}
use Rattle.gc_grammar.proofs.laws.labels_are_spelled.Goals as goal

pub returns : goal.returns
returns c = λ a. (next (next start), plain (Label a), (1, spells_regex a start), refl)
