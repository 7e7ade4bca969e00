use Rattle.std.proofs.Common.{◌≡◌, subst}
use Rattle.gc_query.specs.Answered.{ComesOfBoth}
use Rattle.gc_query.specs.Standings.{Made}
use Rattle.gc_query.proofs.combining.combined.Goals as goal

pub returns-clause-comes : goal.returns-clause-comes
returns-clause-comes g c =
    let right : Made = record { graph = c.right.inside.graph; next = c.right.inside.next } in
    let same : right ≡ c.args.right = c.right.view_is in
    subst (λ (m : Made). ComesOfBoth c.args.left.now m.graph c.args.right.next c.in_ok-graph.graph) same (c.in_ok-graph.ensures.comes c.args.right.next)
