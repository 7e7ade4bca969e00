use Rattle.std.proofs.Common.{◌≡◌, ◌+◌, ◌∙◌, ap, subst, length}
use Rattle.std.specs.Prelude.{IfOk}
use Rattle.std.specs.Option.{option_or, option_map}
use Rattle.gc_expr.specs.Views.{name_of}
use Rattle.gc_sorts.specs.Orders.{first_place}
use Rattle.gc_sorts.specs.Scopes.{graph_number}
use Rattle.gc_sorts.proofs.sight.Sight.graph_number.Goals as goal

pub returns : goal.returns
returns c =
    let p = c.self.inside in
    let loaded = c.place_in-loaded.ensures ∙ ap (first_place p.loaded.now) c.bytes_of.ensures in
    let declared = c.first-declared.ensures ∙ ap (λ names. first_place p.declared.order (name_of names c.args.name)) c.self.invariant.0 in
    subst (λ s. IfOk c.first_number.result (λ number. number ≡ graph_number s.at (name_of s.names c.args.name))) c.self.view_is
    (subst (λ o. IfOk c.first_number.result (λ number. number ≡ o))
    (ap (λ o. option_or o (option_map (λ q. q + c.len.result) c.first-declared.result)) loaded
    ∙ ap (λ n. option_or (first_place p.loaded.now (name_of p.names.now c.args.name)) (option_map (λ q. q + n) c.first-declared.result)) c.len.ensures
    ∙ ap (λ o. option_or (first_place p.loaded.now (name_of p.names.now c.args.name)) (option_map (λ q. q + length p.loaded.now) o)) declared)
    c.first_number.ensures)
