use Rattle.std.proofs.Common.{◌≡◌, Result, Ok, IfOk, IfErr, ◌∙◌, subst}
use Rattle.gc_lex.specs.declared.refusal.LexRefusal.{LexRefusal}
use Rattle.gc_lex.specs.Lexis.{TokenList, IsDue}
use Rattle.gc_lex.proofs.Progress.{lexed_text, lexed_not_utf8}
use Rattle.gc_lex.proofs.lexer.lex.Goals as goal

pub returns-in-Ok-clause-tokens : goal.returns-in-Ok-clause-tokens
returns-in-Ok-clause-tokens c =
    let same = lexed_text c.in-Ok.text.now c.args.text.now c.in-Ok.ensures.cases.0 c.in-Ok.ensures.cases.1 in
    subst (λ (due : Result TokenList LexRefusal). IfOk c.tokens_of.result (λ tokens. due ≡ Ok tokens)) same c.tokens_of.ensures.tokens

pub returns-in-Ok-clause-refusal : goal.returns-in-Ok-clause-refusal
returns-in-Ok-clause-refusal c =
    let same = lexed_text c.in-Ok.text.now c.args.text.now c.in-Ok.ensures.cases.0 c.in-Ok.ensures.cases.1 in
    subst (λ (due : Result TokenList LexRefusal). IfErr c.tokens_of.result (IsDue due)) same c.tokens_of.ensures.refusal

pub returns-in-Err-clause-refusal : goal.returns-in-Err-clause-refusal
returns-in-Err-clause-refusal c =
    lexed_not_utf8 c.args.text.now c.valid_up_to.result c.moved.result c.in-Err.ensures.cases.0 (c.valid_up_to.ensures ∙ c.in-Err.ensures.valid_len) c.moved.ensures
