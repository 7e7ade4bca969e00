use Rattle.std.proofs.Common.{◌≡◌, ◌*◌, ◌++◌, drop, map}
use Rattle.std.specs.Option.{option_map}
use Rattle.gc_ast.specs.PatternViews.{pattern_tree}
use Rattle.gc_ast.specs.Trees.{row}
use Rattle.gc_views.specs.Namings.{names_of, scope}
use Rattle.gc_views.specs.Views.{legs_of}
use Rattle.gc_views.proofs.reading.legs_of.Given as goal

-- the legs so far and those of the rest are those of all
abbrev pub invariant-loop-i : goal.invariant-loop-i
invariant-loop-i l =
    option_map (λ rest. l.legs.items ++ rest) (legs_of (scope l.naming) (row (map (pattern_tree (names_of l.naming)) (drop (2 * l.i) l.parts))))
    ≡ legs_of (scope l.naming) (row (map (pattern_tree (names_of l.naming)) l.parts))
