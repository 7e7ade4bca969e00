use Rattle.std.proofs.Common.{◌≡◌, ◌++◌, map, take}
use Rattle.std.specs.List.{flat_map}
use Rattle.gc_alg.specs.Views.{part_tree}
use Rattle.gc_explain_query.specs.QueryLines.{part_lines}
use Rattle.gc_explain_query.proofs.parts.push_parts.Given as goal

-- the lines of the parts so far
abbrev pub invariant-loop-part : goal.invariant-loop-part
invariant-loop-part l = l.text.items ≡ l.initial.text.items ++ flat_map (part_lines l.graphs l.around) (map part_tree (take l.part-index l.parts))
