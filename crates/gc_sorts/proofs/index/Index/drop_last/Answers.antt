use Rattle.std.proofs.Common.{◌∙◌, None, length, arith}
use Rattle.std.proofs.lemmas.List.{length-set}
use Rattle.gc_sorts.proofs.Places.{places_dropped}
use Rattle.gc_sorts.proofs.index.Index.drop_last.Goals as goal

pub invariant_of-self-then-is_place : goal.invariant_of-self-then-is_place
invariant_of-self-then-is_place c =
    let x = c.self.inside in (
      c.self.invariant.0,
      c.self.invariant.1,
      length-set x.first.items c.slot-at.result None ∙ c.self.invariant.2,
      places_dropped (length x.names.now) x.first.items x.syms.items c.pop.new.self.items c.in-Some.sym c.slot-at.result c.len-place.result
          c.self.invariant.2 c.self.invariant.3 c.in-Some.ensures.items (omega (arith, c.len-place.ensures, c.pop.new.self.ok)) c.slot-at.ensures
          c.index.result.now c.index.ensures (c.is_place.ensures.0 c.if-is_place.true),
    )
