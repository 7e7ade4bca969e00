use Rattle.std.proofs.Common.{◌≡◌, ◌++◌, ◌==◌, ◌∙◌, ap, OnOk, subst}
use Rattle.std.specs.List.{filter}
use Rattle.gc_spec.specs.PropertyGraph.{is_among}
use Rattle.gc_rows.proofs.Members.{same_test}
use Rattle.gc_build.proofs.graphs.add_ids.Goals as goal

pub returns : goal.returns
returns g c =
    subst (λ kept. OnOk c.add_listed.result (c.add_listed.new.claimed.items ≡ c.args.claimed.now.items ++ kept))
    (ap (λ ids. filter (λ x. is_among ids (g.T.Part.id_of x)) (g.T.Part.all c.args.graph.now)) c.deref.ensures.value
    ∙ (λ j. filter (λ x. same_test (λ y. y == g.T.Part.id_of x) c.args.ids.items c.in_ok-ascending.ascending.items c.in_ok-ascending.ensures.exact j) (g.T.Part.all c.args.graph.now)))
    c.add_listed.ensures
