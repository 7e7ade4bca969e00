use Rattle.std.proofs.Common.{◌≡◌, subst, ap, ◌∙◌, map}
use Rattle.gc_expr.specs.Views.{name_of}
use Rattle.gc_sorts.specs.Graphs.{has_name}
use Rattle.gc_sorts.specs.Variables.{use_by, has_use}
use Rattle.gc_sorts.proofs.UsePlaces.{has_use_name}
use Rattle.gc_sorts.proofs.variables.Variables.has.Goals as goal

pub returns : goal.returns
returns c =
    let v = c.self.inside in
    subst (λ w. c.has.result ≡ has_use w.uses (name_of w.names c.args.name)) c.self.view_is
    (c.has.ensures ∙ ap (λ o. has_name o (name_of v.first.names c.args.name)) c.self.invariant
    ∙ has_use_name (map (use_by v.first.names) v.uses.items) (name_of v.first.names c.args.name))
