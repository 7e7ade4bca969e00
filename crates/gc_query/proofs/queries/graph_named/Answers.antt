use Rattle.std.proofs.Common.{ℕ, Option, Ok, Result, ap, sym, subst, ◌∙◌, unwrap_or}
use Rattle.gc_lower.specs.Namings.{scope_in as scope_at}
use Rattle.gc_sets.specs.Origins.{ComesFrom}
use Rattle.gc_spec.specs.PropertyGraph.{PropertyGraph}
use Rattle.gc_query.specs.Queries.{graph_of_number}
use Rattle.gc_query.specs.Standings.{Made}
use Rattle.gc_query.specs.declared.fault.Fault.{Fault}
use Rattle.gc_query.proofs.Origins.{number_comes}
use Rattle.gc_query.proofs.queries.graph_named.Goals as goal

pub returns-clause-due : goal.returns-clause-due
unfolding scope_at
returns-clause-due g c =
    let by_number : ℕ → Result Made Fault = λ number. Ok (record { graph = graph_of_number c.args.graphs.now number; next = c.args.next }) in
    let by_graph : PropertyGraph → Result Made Fault = λ g. Ok (record { graph = g; next = c.args.next }) in
    ap by_graph c.in_ok-graph.ensures
    ∙ ap by_number (c.unwrap_or-number.ensures ∙ ap (λ (found : Option ℕ). unwrap_or found 0) c.graph_at.ensures)

pub returns-clause-comes : goal.returns-clause-comes
returns-clause-comes g c =
    subst (λ (g : PropertyGraph). ComesFrom c.args.graphs.now c.args.next c.args.next g) (sym c.in_ok-graph.ensures) (number_comes c.args.graphs.now c.unwrap_or-number.result c.args.next)
