use Rattle.gc_print.proofs.GrammarGives.{regex_gives}
use Rattle.gc_print.proofs.LexedWords.{lexed_written}
use Rattle.gc_print.proofs.laws.texts_spell_such_expressions.Goals as goal

pub returns : goal.returns
returns c text list tree lexed spelled = regex_gives list.tokens tree (lexed_written text list lexed) spelled
