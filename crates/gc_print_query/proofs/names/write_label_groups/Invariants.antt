use Rattle.std.proofs.Common.{◌≡◌, drop}
use Rattle.std.specs.List.{flat_map}
use Rattle.gc_print_query.specs.Pieces.{written}
use Rattle.gc_print_query.specs.QueryPieces.{label_group}
use Rattle.gc_print_query.proofs.names.write_label_groups.Given as goal

-- what is written and what is left make the whole
abbrev pub invariant-loop-group : goal.invariant-loop-group
invariant-loop-group l = written l.text.items (flat_map label_group (drop l.group-index l.groups)) ≡ written l.fn.text.items (flat_map label_group l.groups)
