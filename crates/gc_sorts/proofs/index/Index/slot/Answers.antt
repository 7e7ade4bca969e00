use Rattle.std.proofs.Common.{◌≡◌, subst, sym, ap, ◌∙◌, nat_eq, length}
use Rattle.gc_expr.specs.Views.{name_of}
use Rattle.gc_ast.specs.Names.{same_name}
use Rattle.gc_sorts.specs.Orders.{slot}
use Rattle.gc_sorts.proofs.Slots.{same_slot}
use Rattle.gc_sorts.proofs.index.Index.slot.Goals as goal

pub returns-clause-same : goal.returns-clause-same
returns-clause-same c = λ other.
    let x = c.self.inside in
    subst (λ v. same_name (name_of v.names c.args.sym) (name_of v.names other) ≡ nat_eq c.slot.result (slot (length v.names) other)) c.self.view_is
    (same_slot x.names.now c.self.invariant.1 c.self.invariant.0 c.args.sym other
    ∙ ap (λ k. nat_eq k (slot (length x.names.now) other)) (sym c.slot.ensures))
