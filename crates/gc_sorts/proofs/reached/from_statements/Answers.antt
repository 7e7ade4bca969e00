use Rattle.std.proofs.Common.{Some, None, length, refl, ap, ◌∙◌, arith, map, sym}
use Rattle.std.proofs.lemmas.Option.{slice_get_past, slice_get_read}
use Rattle.gc_ast.specs.QueryViews.{statement_tree}
use Rattle.gc_ast.specs.Trees.{row}
use Rattle.gc_sorts.specs.Ways.{AtStatements, AtQuery, next}
use Rattle.gc_sorts.proofs.NextLaws.{statements_next}
use Rattle.gc_sorts.proofs.reached.from_statements.Goals as goal

pub returns-in-None : goal.returns-in-None
returns-in-None c = λ names.
    statements_next names c.args.all.now c.in-Statement.number None (slice_get_past c.args.all.now c.in-Statement.number (omega (arith, c.in-None.ensures.lookup)))
    ∙ ap (next (AtStatements (row (map (statement_tree names) c.args.all.now)))) (sym c.in-Statement.is)

pub returns-in-Some : goal.returns-in-Some
returns-in-Some c = λ names.
    ap (λ q. Some (AtQuery q)) (c.asked.ensures names)
    ∙ statements_next names c.args.all.now c.in-Statement.number (Some c.in-Some.statement.now)
    (slice_get_read c.args.all.now (length c.args.all.now) c.in-Statement.number c.in-Some.statement.now refl (omega (arith, c.in-Some.ensures.lookup)) c.in-Some.ensures.lookup.1)
    ∙ ap (next (AtStatements (row (map (statement_tree names) c.args.all.now)))) (sym c.in-Statement.is)
