use Rattle.std.proofs.Common.{Some, None, length, refl, arith}
use Rattle.std.proofs.lemmas.Option.{slice_get_past, slice_get_read}
use Rattle.gc_sorts.proofs.NextLaws.{exists_at}
use Rattle.gc_sorts.proofs.reached.exists_in.Goals as goal

pub returns-in-None-get : goal.returns-in-None-get
returns-in-None-get c = λ names.
    exists_at names c.args.block.now c.in-Some.formula c.in-Some.is c.deref.result.now c.deref.ensures.value c.args.number None (slice_get_past c.deref.result.now c.args.number (omega (arith, c.in-None-get.ensures.lookup)))

pub returns-in-Some-get : goal.returns-in-Some-get
returns-in-Some-get c = λ names.
    exists_at names c.args.block.now c.in-Some.formula c.in-Some.is c.deref.result.now c.deref.ensures.value c.args.number (Some c.in-Some-get.query.now)
    (slice_get_read c.deref.result.now (length c.deref.result.now) c.args.number c.in-Some-get.query.now refl (omega (arith, c.in-Some-get.ensures.lookup)) c.in-Some-get.ensures.lookup.1)
