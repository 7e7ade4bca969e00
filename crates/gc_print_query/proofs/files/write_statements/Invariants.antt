use Rattle.std.proofs.Common.{◌≡◌, drop}
use Rattle.std.specs.List.{flat_map}
use Rattle.gc_ast.specs.QueryViews.{statement_tree}
use Rattle.gc_print_query.specs.Pieces.{written}
use Rattle.gc_print_query.specs.QueryPieces.{statement_pieces}
use Rattle.gc_print_query.proofs.files.write_statements.Given as goal

-- what is written and what is left make the whole
abbrev pub invariant-loop-statement : goal.invariant-loop-statement
invariant-loop-statement l =
    written l.text.items (flat_map (λ s. statement_pieces (statement_tree l.names s)) (drop l.statement-index l.statements.items))
    ≡ written l.fn.text.items (flat_map (λ s. statement_pieces (statement_tree l.names s)) l.statements.items)
