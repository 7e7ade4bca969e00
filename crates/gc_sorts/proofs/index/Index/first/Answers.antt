use Rattle.std.proofs.Common.{◌≡◌, subst, ap, ◌∙◌, None, length, get_or, arith}
use Rattle.gc_expr.specs.Views.{name_of}
use Rattle.gc_sorts.specs.Orders.{first_place, slot}
use Rattle.gc_sorts.proofs.Places.{place_of_slot, read_at}
use Rattle.gc_sorts.proofs.index.Index.first.Goals as goal

pub returns : goal.returns
returns c =
    let x = c.self.inside in
    subst (λ v. c.index.result.now ≡ first_place v.order (name_of v.names c.args.sym)) c.self.view_is
    (read_at x.first.items c.slot.result c.index.result.now None (omega (arith, c.slot.ensures, c.self.invariant.2)) c.index.ensures
    ∙ ap (λ k. get_or x.first.items k None) c.slot.ensures
    ∙ c.self.invariant.3 (slot (length x.names.now) c.args.sym) (omega arith)
    ∙ place_of_slot x.names.now c.self.invariant.1 c.self.invariant.0 x.syms.items c.args.sym)
