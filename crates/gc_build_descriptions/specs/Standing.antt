-- An aggregate where it stands in an expression, as a plain one.
use Rattle.std.specs.Option.{option_copied, option_map}
use Rattle.gc_build_descriptions.specs.Aggregates.{Aggregation}
use Rattle.gc_build_descriptions.specs.declared.aggregates.Aggregate.{Aggregate}
use Rattle.gc_expr.specs.Trees.{maybe}
use Rattle.gc_expr.specs.Views.{numbered_expr}

-- with the tree of its operand
abbrev pub plain : Aggregate → Aggregation
plain a = record { how = a.how; operand = maybe (option_map numbered_expr (option_copied a.operand)) }
