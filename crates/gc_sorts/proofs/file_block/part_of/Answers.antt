use Rattle.std.proofs.Common.{Some, None, length, refl, arith, ◌-◌}
use Rattle.std.proofs.lemmas.Option.{slice_get_past, slice_get_read}
use Rattle.gc_sorts.proofs.NextLaws.{optional_at}
use Rattle.gc_sorts.proofs.file_block.part_of.Goals as goal

pub returns-in-None : goal.returns-in-None
returns-in-None c = λ names.
    optional_at names c.args.basic.now c.deref.result.now c.deref.ensures.value (c.args.part - 1) c.args.part (omega arith) None (slice_get_past c.deref.result.now (c.args.part - 1) (omega (arith, c.in-None.ensures.lookup)))

pub returns-in-Some : goal.returns-in-Some
returns-in-Some c = λ names.
    optional_at names c.args.basic.now c.deref.result.now c.deref.ensures.value (c.args.part - 1) c.args.part (omega arith) (Some c.in-Some.optional.now)
    (slice_get_read c.deref.result.now (length c.deref.result.now) (c.args.part - 1) c.in-Some.optional.now refl (omega (arith, c.in-Some.ensures.lookup)) c.in-Some.ensures.lookup.1)
