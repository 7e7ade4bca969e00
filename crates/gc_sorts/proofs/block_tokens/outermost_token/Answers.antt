use Rattle.std.proofs.Common.{[], Some, map, sym, ap, ◌∙◌}
use Rattle.std.specs.Option.{option_map}
use Rattle.gc_ast.specs.QueryViews.{statement_tree}
use Rattle.gc_ast.specs.Trees.{row}
use Rattle.gc_sorts.specs.Blocks.{token_of}
use Rattle.gc_sorts.specs.FileBlocks.{block_by}
use Rattle.gc_sorts.specs.Ways.{AtStatements}
use Rattle.gc_sorts.proofs.FollowLaws.{inside_none, outermost_token_of}
use Rattle.gc_sorts.proofs.block_tokens.outermost_token.Goals as goal

pub returns-then-goes_inside : goal.returns-then-goes_inside
returns-then-goes_inside c = λ names. sym (inside_none [] (Some (AtStatements (row (map (statement_tree names) c.args.statements.now)))) c.args.way.now (sym c.if-goes_inside.ensures))

pub returns-in-None : goal.returns-in-None
returns-in-None c = λ names.
    sym (outermost_token_of (Some (AtStatements (row (map (statement_tree names) c.args.statements.now)))) c.args.way.now (sym c.if-goes_inside.ensures)
    ∙ ap (option_map token_of) (sym (c.block_at.ensures names) ∙ ap (option_map (block_by names)) c.in-None.is))

pub returns-in-Some : goal.returns-in-Some
returns-in-Some c = λ names.
    ap Some (c.token_of.ensures names)
    ∙ sym (outermost_token_of (Some (AtStatements (row (map (statement_tree names) c.args.statements.now)))) c.args.way.now (sym c.if-goes_inside.ensures)
    ∙ ap (option_map token_of) (sym (c.block_at.ensures names) ∙ ap (option_map (block_by names)) c.in-Some.is))
