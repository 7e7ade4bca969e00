-- The expression of a search that is written is read as it is.
use Rattle.std.proofs.Common.{◌≡◌, ◌≤◌, true, [], ◌++◌, length, Some, None, Ok, refl, sym, ap, ◌∙◌, arith}
use Rattle.std.proofs.lemmas.Bool.Decides.{nat_tests}
use Rattle.std.proofs.lemmas.List.{append-nil}
use Rattle.gc_lex.specs.Lexis.{TokenList, lexed}
use Rattle.gc_parse.specs.Depths.{IsDepthFault}
use Rattle.gc_print.specs.RegexTexts.{regex_text}
use Rattle.gc_print.specs.RegexTokens.{tokens_of}
use Rattle.gc_print.proofs.AsciiTexts.{text_utf8}
use Rattle.gc_print.proofs.LexedExpressions.{expression_lexes}
use Rattle.gc_print.proofs.Lexing.{HasTokens, lexes_end}
use Rattle.gc_print.proofs.SpelledExpressions.{tokens_spell}
use Rattle.gc_regx.specs.Expressions.{IsExpression}
use Rattle.gc_regx.specs.Trees.{RegexTree, ARegex}
use Rattle.gc_cert_text.specs.Certificates.{SearchTold, tree_in}
use Rattle.gc_cert_text.specs.CertificateTexts.{search_data}
use Rattle.gc_cert_text.specs.Expressions.{is_small, tree_of_text, tree_of_tokens}
use Rattle.gc_cert_text.specs.Nesting.{nesting_of}
use Rattle.gc_cert_text.specs.WritableSearches.{IsWritable}
use Rattle.gc_cert_text.proofs.ExpressionTexts.{spelled}
use Rattle.gc_cert_text.proofs.Fronts.{no_fault}
use Rattle.gc_cert_text.proofs.NestedTokens.{expression_nests}

-- the text of an expression has the tokens of that expression
record LexesTo (tree : RegexTree ARegex) : Type 0 where
  pub list : TokenList
  pub lexed_so : lexed (regex_text tree) ≡ Ok list
  pub are : list.tokens ≡ tokens_of {k = ARegex} tree

lexes_to : (tree : RegexTree ARegex) → IsExpression tree → LexesTo tree
unfolding lexed
lexes_to tree is =
    let text = regex_text tree in
    let whole : HasTokens text 0 (length text) (tokens_of tree ++ []) =
    (expression_lexes tree is).lexes [] [] refl lexes_end text 0 (length text) (sym (append-nil text)) (omega (arith, ap length (append-nil text))) in
    record { list = whole.list; lexed_so = rw (text_utf8 tree is) whole.given; are = whole.tokens_are ∙ append-nil (tokens_of tree) }

text_back : (tree : RegexTree ARegex) → IsExpression tree → is_small tree ≡ true → nesting_of {k = ARegex} tree ≤ 64 → tree_of_text (regex_text tree) ≡ Some tree
text_back tree is small shallow =
    let lexed = lexes_to tree is in
    let fault : IsDepthFault (tokens_of {k = ARegex} tree) None = no_fault (nesting_of tree) (tokens_of tree) shallow (expression_nests tree) in
    let whole : tree_of_tokens lexed.list.tokens ≡ Some tree = ap tree_of_tokens lexed.are ∙ spelled (tokens_of tree) tree fault (tokens_spell tree is) in
    rw (lexed.lexed_so, whole, small) refl

pub tree_back : (s : SearchTold) → IsWritable s → tree_in (search_data s) ≡ Some s.expression
tree_back s h =
    let small : is_small s.expression ≡ true = grind (arith, nat_tests, h.formed.few) in
    text_back s.expression h.formed.expression small h.formed.shallow
