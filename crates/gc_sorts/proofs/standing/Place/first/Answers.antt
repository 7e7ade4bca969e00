use Rattle.std.proofs.Common.{◌≡◌, ◌++◌, subst, sym, ap, ◌∙◌, Some, Option, if◌then◌else◌}
use Rattle.std.specs.Option.{option_map}
use Rattle.gc_expr.specs.Views.{name_of}
use Rattle.gc_sorts.specs.Variables.{Use, use_by, first_use}
use Rattle.gc_sorts.proofs.UsePlaces.{first_in_first, first_in_second}
use Rattle.gc_sorts.proofs.standing.Place.first.Goals as goal

pub returns-in-Some : goal.returns-in-Some
returns-in-Some c =
    let p = c.self.inside in
    let names = p.variables.now.names in
    subst (λ s. ◌≡◌ {A = Option Use} (Some (use_by s.names c.in-Some.first)) (first_use s.at.uses (name_of s.names c.args.name))) c.self.view_is
    (sym (first_in_first p.is_when p.variables.now.uses p.made.now.uses (name_of names c.args.name) (use_by names c.in-Some.first)
    (sym c.first.ensures ∙ ap (option_map (use_by names)) c.in-Some.is)))

pub returns-then-self : goal.returns-then-self
returns-then-self c =
    let p = c.self.inside in
    let names = p.variables.now.names in
    let both = p.variables.now.uses ++ p.made.now.uses in
    subst (λ s. option_map (use_by s.names) c.first-then-self.result ≡ first_use s.at.uses (name_of s.names c.args.name)) c.self.view_is
    (subst (λ n. option_map (use_by n) c.first-then-self.result ≡ first_use p.made.now.uses (name_of n c.args.name)) c.self.invariant.0 c.first-then-self.ensures
    ∙ sym (first_in_second p.variables.now.uses p.made.now.uses (name_of names c.args.name) (sym c.first.ensures ∙ ap (option_map (use_by names)) c.in-None.is))
    ∙ ap (λ w. first_use (if w then both else p.variables.now.uses) (name_of names c.args.name)) (sym c.if-self.true))
