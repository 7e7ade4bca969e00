use Rattle.std.proofs.Common.{◌≡◌, List, Option, None, Some, Result, Ok, subst}
use Rattle.gc_ast.specs.QueryViews.{file_trees}
use Rattle.gc_ast.specs.Trees.{Tree, AStatement}
use Rattle.gc_lower.specs.Namings.{scope_of}
use Rattle.gc_lower.specs.Scopes.{Scope}
use Rattle.gc_query.specs.Steps.{IsStepAt}
use Rattle.gcore.specs.QueryFiles.{placed}
use Rattle.gcore.proofs.StatementLaws.{names, printed_room, prints}
use Rattle.gcore.proofs.session.run_statement.Goals as goal

pub write_graph-requires : goal.write_graph-requires
write_graph-requires g c =
    let s : Scope = scope_of c.args.checked.now 0 in
    let sts : List (Tree AStatement) = file_trees c.args.checked.now.file in
    printed_room s sts c.args.i c.args.catalog.now c.step.new.catalog c.args.style (g.S.Sink.room c.args.out.now) c.in-Ok-Some.graph c.requires.there
    (subst (λ o. IsStepAt s c.args.catalog.now c.step.new.catalog sts c.args.i (Ok o)) c.in-Ok-Some.field-0-is c.in-Ok-Some.ensures.step) c.requires.room

pub returns-in-Ok-Some : goal.returns-in-Ok-Some
returns-in-Ok-Some g c =
    let s : Scope = scope_of c.args.checked.now 0 in
    let sts : List (Tree AStatement) = file_trees c.args.checked.now.file in
    prints s sts c.args.i c.args.catalog.now c.step.new.catalog c.args.style (placed c.args.checked.now).places _ _ _ c.in-Ok-Some.graph c.write_graph.result
    (subst (λ o. IsStepAt s c.args.catalog.now c.step.new.catalog sts c.args.i (Ok o)) c.in-Ok-Some.field-0-is c.in-Ok-Some.ensures.step)
    c.write_graph.ensures.written c.write_graph.ensures.room c.write_graph.ensures.calm

pub returns-in-Ok-None : goal.returns-in-Ok-None
returns-in-Ok-None g c =
    let s : Scope = scope_of c.args.checked.now 0 in
    let sts : List (Tree AStatement) = file_trees c.args.checked.now.file in
    names s sts c.args.i c.args.catalog.now c.step.new.catalog c.args.style (placed c.args.checked.now).places _ _ _
    (subst (λ o. IsStepAt s c.args.catalog.now c.step.new.catalog sts c.args.i (Ok o)) c.in-Ok-None.field-0-is c.in-Ok-None.ensures.step)
