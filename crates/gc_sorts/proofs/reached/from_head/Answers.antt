use Rattle.std.proofs.Common.{Some, None, length, refl, ap, ◌∙◌, arith}
use Rattle.std.proofs.lemmas.Option.{slice_get_past, slice_get_read}
use Rattle.gc_sorts.proofs.NextLaws.{heads_next}
use Rattle.gc_sorts.proofs.reached.from_head.Goals as goal

pub returns-in-None : goal.returns-in-None
returns-in-None c = λ names.
    heads_next names c.args.query.now c.deref.result.now c.deref.ensures.value c.args.number None (slice_get_past c.deref.result.now c.args.number (omega (arith, c.in-None.ensures.lookup)))

pub returns-in-Some : goal.returns-in-Some
returns-in-Some c = λ names.
    ap Some (c.declared.ensures names)
    ∙ heads_next names c.args.query.now c.deref.result.now c.deref.ensures.value c.args.number (Some c.in-Some.head.now)
    (slice_get_read c.deref.result.now (length c.deref.result.now) c.args.number c.in-Some.head.now refl (omega (arith, c.in-Some.ensures.lookup)) c.in-Some.ensures.lookup.1)
