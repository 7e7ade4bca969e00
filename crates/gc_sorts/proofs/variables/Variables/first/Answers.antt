use Rattle.std.proofs.Common.{◌≡◌, subst, sym, ap, ◌∙◌, map, Some, None, Option}
use Rattle.gc_expr.specs.Views.{name_of}
use Rattle.gc_sorts.specs.Orders.{first_place}
use Rattle.gc_sorts.specs.Variables.{Use, use_by, first_use}
use Rattle.gc_sorts.proofs.UsePlaces.{use_at_place, no_use_place, place_read, place_inside}
use Rattle.gc_sorts.proofs.variables.Variables.first.Goals as goal

pub returns-in-Some : goal.returns-in-Some
returns-in-Some c =
    let v = c.self.inside in
    let name = name_of v.first.names c.args.name in
    subst (λ w. ◌≡◌ {A = Option Use} (Some (use_by w.names c.index.result.now)) (first_use w.uses (name_of w.names c.args.name))) c.self.view_is
    (place_read v.first.names v.uses.items c.in-Some.place c.index.result.now
    (place_inside v.first.names v.uses.items v.first.order c.self.invariant name c.in-Some.place (sym c.first.ensures ∙ c.in-Some.is)) c.index.ensures
    ∙ sym (use_at_place (map (use_by v.first.names) v.uses.items) name c.in-Some.place (ap (λ o. first_place o name) (sym c.self.invariant) ∙ sym c.first.ensures ∙ c.in-Some.is)))

pub returns-in-None : goal.returns-in-None
returns-in-None c =
    let v = c.self.inside in
    let name = name_of v.first.names c.args.name in
    subst (λ w. ◌≡◌ {A = Option Use} None (first_use w.uses (name_of w.names c.args.name))) c.self.view_is
    (sym (no_use_place (map (use_by v.first.names) v.uses.items) name (ap (λ o. first_place o name) (sym c.self.invariant) ∙ sym c.first.ensures ∙ c.in-None.is)))
