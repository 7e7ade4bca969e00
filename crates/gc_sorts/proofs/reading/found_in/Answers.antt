use Rattle.std.proofs.Common.{◌∙◌, ap, map}
use Rattle.gc_ast.specs.QueryViews.{statement_tree, file_trees}
use Rattle.gc_ast.specs.Trees.{row}
use Rattle.gc_sorts.specs.Collected.{HeldScope, collect, nothing}
use Rattle.gc_sorts.specs.Occurrences.{occurrences, file_occurrences}
use Rattle.gc_sorts.proofs.reading.found_in.Goals as goal

pub returns : goal.returns
returns c =
    let file = c.args.file.now in
    c.in_ok-statements.ensures
    ∙ ap (λ (k : HeldScope). collect c.new-found.result (occurrences k.at (row (map (statement_tree k.names) file.statements.items)))) c.in_ok-sight.ensures
    ∙ ap (λ found. collect found (file_occurrences c.args.graphs.now (row (file_trees file)))) (c.new-found.ensures ∙ ap nothing c.len.ensures.count)
