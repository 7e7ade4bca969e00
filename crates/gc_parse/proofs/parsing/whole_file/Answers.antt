use Rattle.std.proofs.Common.{sym, ap, ◌∙◌, ◌+◌, length, map, Ok}
use Rattle.gc_ast.specs.QueryViews.{file_trees, statement_tree}
use Rattle.gc_parse_readers.specs.QueryReaders.{file_reading}
use Rattle.gc_parse.specs.Parses.{read_whole}
use Rattle.gc_parse.proofs.WholeFile.{places_are_whole, same_whole}
use Rattle.gc_parse.proofs.parsing.whole_file.Goals as goal

pub returns-clause-right : goal.returns-clause-right
returns-clause-right c =
    same_whole c.args.tokens.now.tokens c.in_ok-source.source.tokens (map (statement_tree c.in_ok-source.source.names) c.in_ok-statements.statements.items) (file_trees c.of-2.result)
    c.in_ok-source.ensures.tokens
    (sym (c.of-2.ensures.trees ∙ ap (λ names. map (statement_tree names) c.in_ok-statements.statements.items) c.into_names.ensures))
    c.in_ok-statements.ensures.right

pub returns-clause-due : goal.returns-clause-due
returns-clause-due c =
    ap (λ ts. read_whole (file_reading (length ts + 1) ts)) (sym c.in_ok-source.ensures.tokens) ∙ c.in_ok-statements.ensures.due
    ∙ ap Ok (sym (c.of-2.ensures.trees ∙ ap (λ names. map (statement_tree names) c.in_ok-statements.statements.items) c.into_names.ensures))

pub returns-clause-places : goal.returns-clause-places
returns-clause-places c =
    places_are_whole c.args.tokens.now.places c.of-2.result.places c.of-2.result.end c.place-end.result (length c.args.tokens.now.tokens) c.len.result
    c.len.ensures.places c.len.ensures.count c.place-end.ensures (c.of-2.ensures.places ∙ c.in_ok-places.ensures) c.of-2.ensures.end
