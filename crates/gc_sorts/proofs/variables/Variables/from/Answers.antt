use Rattle.std.proofs.Common.{◌≡◌, ◌-◌, subst, map, take, drop, length}
use Rattle.gc_sorts.specs.Variables.{use_by}
use Rattle.gc_sorts.proofs.UsePlaces.{places_from}
use Rattle.gc_sorts.proofs.variables.Variables.from.Goals as goal

pub returns : goal.returns
returns c =
    let v = c.self.inside in
    subst (λ w. map (use_by w.names) (take (length c.deref.result.now - c.args.n) (drop c.args.n c.deref.result.now)) ≡ drop c.args.n w.uses) c.self.view_is
    (places_from v.first.names c.deref.result.now v.uses.items c.args.n c.deref.ensures.value)
