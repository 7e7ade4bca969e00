use Rattle.std.proofs.Common.{Some, None, length, refl, ◌∙◌, arith, ◌-◌}
use Rattle.std.proofs.lemmas.Option.{slice_get_past, slice_get_read}
use Rattle.gc_sorts.proofs.NextLaws.{first_next, rest_next}
use Rattle.gc_sorts.proofs.reached.from_term.Goals as goal

pub returns-then-number-eq0 : goal.returns-then-number-eq0
returns-then-number-eq0 c = λ names. c.of_term.ensures names ∙ first_next names c.args.query.now c.args.number (omega arith)

pub returns-in-None : goal.returns-in-None
returns-in-None c = λ names.
    rest_next names c.args.query.now c.deref.result.now c.deref.ensures.value (c.args.number - 1) c.args.number (omega arith) None (slice_get_past c.deref.result.now (c.args.number - 1) (omega (arith, c.in-None.ensures.lookup)))

pub returns-in-Some : goal.returns-in-Some
returns-in-Some c = λ names.
    c.of_term-in-Some.ensures names
    ∙ rest_next names c.args.query.now c.deref.result.now c.deref.ensures.value (c.args.number - 1) c.args.number (omega arith) (Some c.in-Some.later.now)
    (slice_get_read c.deref.result.now (length c.deref.result.now) (c.args.number - 1) c.in-Some.later.now refl (omega (arith, c.in-Some.ensures.lookup)) c.in-Some.ensures.lookup.1)
