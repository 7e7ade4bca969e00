-- The text of an expression reads back.
use Rattle.std.proofs.Common.{[], ◌++◌, length, refl, sym, ap, subst, ◌∙◌, arith}
use Rattle.std.proofs.lemmas.List.{append-nil}
use Rattle.gc_lex.specs.Lexis.{lexed}
use Rattle.gc_regx.specs.Trees.{RegexTree, ARegex}
use Rattle.gc_grammar.specs.Queries.{SpellsRegex}
use Rattle.gc_regx.specs.Expressions.{IsExpression}
use Rattle.gc_print.specs.ReadingBack.{ReadsBack}
use Rattle.gc_print.specs.RegexTexts.{regex_text}
use Rattle.gc_print.specs.RegexTokens.{tokens_of}
use Rattle.gc_print.proofs.AsciiTexts.{text_utf8}
use Rattle.gc_print.proofs.Lexing.{HasTokens, lexes_end}
use Rattle.gc_print.proofs.LexedExpressions.{expression_lexes}
use Rattle.gc_print.proofs.SpelledExpressions.{tokens_spell}

pub reads_back : (tree : RegexTree ARegex) → IsExpression tree → ReadsBack (regex_text tree) tree
unfolding lexed
reads_back tree is =
    let text = regex_text tree in
    let whole : HasTokens text 0 (length text) (tokens_of tree ++ []) =
    (expression_lexes tree is).lexes [] [] refl lexes_end text 0 (length text) (sym (append-nil text)) (omega (arith, ap length (append-nil text))) in
    record {
      list = whole.list;
      lexed_so = rw (text_utf8 tree is) whole.given;
      spells = subst (λ ts. SpellsRegex ts tree) (sym (whole.tokens_are ∙ append-nil (tokens_of tree))) (tokens_spell tree is);
    }
