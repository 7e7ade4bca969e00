use Rattle.std.proofs.Common.{sym, ◌∙◌, drop}
use Rattle.std.proofs.lemmas.Option.{same_Some}
use Rattle.gc_expr.specs.Views.{name_of}
use Rattle.gc_parse_readers.proofs.TokenKinds.{name_word}
use Rattle.gc_parse_source.proofs.source.Source.name_with_bytes.Goals as goal

pub returns-clause-number : goal.returns-clause-number
returns-clause-number c =
    let names = c.args.self.now.names in
    let ts = drop c.args.at c.args.self.now.tokens in
    same_Some (name_of names c.in_ok-name.name.sym) c.in_ok-bytes.bytes
    (sym (name_word ts (name_of names c.in_ok-name.name.sym) c.in_ok-name.ensures.taken.0) ∙ c.in_ok-bytes.ensures.0)

pub returns-clause-taken : goal.returns-clause-taken
returns-clause-taken c =
    let names = c.args.self.now.names in
    let ts = drop c.args.at c.args.self.now.tokens in (
      c.in_ok-name.ensures.taken.0 ∙ sym (name_word ts (name_of names c.in_ok-name.name.sym) c.in_ok-name.ensures.taken.0) ∙ c.in_ok-bytes.ensures.0,
      c.in_ok-name.ensures.taken.1,
      c.in_ok-name.ensures.taken.2,
    )
