use Rattle.std.proofs.Common.{◌≡◌, Err, sym, subst}
use Rattle.gc_parse.specs.Parses.{IsDueParse, parsed_regex}
use Rattle.gc_parse.specs.declared.refusal.ParseRefusal.TheVariants.{TooDeep, Syntax}
use Rattle.gc_regx.specs.Views.{regex_tree}
use Rattle.gc_cert_text.proofs.ExpressionTexts.{given, refused}
use Rattle.gc_cert_text.proofs.expressions.regex_of_tokens.Goals as goal

pub returns-in-Ok : goal.returns-in-Ok
returns-in-Ok c = sym (given c.args.tokens.now.tokens (regex_tree c.in-Ok.regex) c.in-Ok.ensures.due)

pub returns-in-Err-TooDeep : goal.returns-in-Err-TooDeep
returns-in-Err-TooDeep c =
    let e = c.in-Err-TooDeep in
    let ts = c.args.tokens.now.tokens in
    let is : e.field-0 ≡ TooDeep e.field-0-0 = cc (e.field-0-is) in
    sym (refused ts (TooDeep e.field-0-0) (subst (λ r. IsDueParse regex_tree (parsed_regex ts) (Err r)) is e.ensures.due))

pub returns-in-Err-Syntax : goal.returns-in-Err-Syntax
returns-in-Err-Syntax c =
    let e = c.in-Err-Syntax in
    let ts = c.args.tokens.now.tokens in
    let is : e.field-0 ≡ Syntax e.field-0-0 = cc (e.field-0-is) in
    sym (refused ts (Syntax e.field-0-0) (subst (λ r. IsDueParse regex_tree (parsed_regex ts) (Err r)) is e.ensures.due))
