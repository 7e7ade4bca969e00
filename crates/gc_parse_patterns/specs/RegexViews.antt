-- What a regular path expression with its views is as a plain tree.
use Rattle.std.specs.Prelude.{List, map}
use Rattle.gc_expr.specs.Views.{Names}
use Rattle.gc_regx.specs.Views.{regex_tree}
use Rattle.gc_ast.specs.PatternViews.{all_named_by}
use Rattle.gc_expr.specs.Views.{name_of}
use Rattle.gc_grammar.specs.Regexes.{Expression}
use Rattle.gc_parse_patterns.specs.declared.regex_part.Part.{Part}

-- the tree, and the names after its `~`
abbrev pub part_view : Names → Part → Expression
part_view names part = record { tree = regex_tree part.regex; views = all_named_by (name_of names) part.views.items }

-- the same of each
abbrev pub parts_view : Names → List Part → List Expression
parts_view names parts = map (part_view names) parts
