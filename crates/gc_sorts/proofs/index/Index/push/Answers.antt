use Rattle.std.proofs.Common.{◌∙◌, ap, not, Some, length, arith}
use Rattle.std.proofs.lemmas.List.{length-set}
use Rattle.gc_sorts.proofs.Places.{places_added}
use Rattle.gc_sorts.proofs.index.Index.push.Goals as goal

pub invariant_of-self-then-is_none : goal.invariant_of-self-then-is_none
invariant_of-self-then-is_none c =
    let x = c.self.inside in (
      c.self.invariant.0,
      c.self.invariant.1,
      length-set x.first.items c.slot-at.result (Some c.len-place.result) ∙ c.self.invariant.2,
      places_added (length x.names.now) x.first.items x.syms.items c.push.new.self.items c.args.sym c.slot-at.result c.len-place.result
          c.self.invariant.2 c.self.invariant.3 c.slot-at.ensures (omega (arith, c.len-place.ensures, x.syms.ok)) c.in_ok-push.ensures.items
          c.index.result.now c.index.ensures (c.is_none.ensures ∙ ap not c.if-is_none.true),
    )
