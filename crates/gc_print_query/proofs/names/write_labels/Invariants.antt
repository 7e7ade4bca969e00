use Rattle.std.proofs.Common.{◌≡◌, drop}
use Rattle.std.specs.List.{flat_map}
use Rattle.gc_print_query.specs.Pieces.{written}
use Rattle.gc_print_query.specs.QueryPieces.{label}
use Rattle.gc_print_query.proofs.names.write_labels.Given as goal

-- what is written and what is left make the whole
abbrev pub invariant-loop-name : goal.invariant-loop-name
invariant-loop-name l = written l.text.items (flat_map label (drop l.name-index l.labels)) ≡ written l.fn.text.items (flat_map label l.labels)
