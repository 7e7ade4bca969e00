use Rattle.gc_lower.specs.Namings.{scope_of}
use Rattle.gc_query.proofs.StepLaws.{ask_built, view_built}
use Rattle.gc_query.proofs.steps.statement_step.Goals as goal

pub ask_step-requires : goal.ask_step-requires
ask_step-requires g c = ask_built (scope_of c.args.checked.now 0) c.args.checked.now.file.names c.args.statement.now c.in-Ask.query c.in-Ask.is c.requires

pub view_step-requires : goal.view_step-requires
view_step-requires g c = view_built (scope_of c.args.checked.now 0) c.args.checked.now.file.names c.args.statement.now c.in-View.name c.in-View.query c.in-View.is c.requires
