use Rattle.std.proofs.Common.{◌≡◌, ◌++◌, drop, map, None}
use Rattle.gc_ast.specs.QueryViews.{part_tree}
use Rattle.gc_ast.specs.Trees.{row}
use Rattle.gc_build_reading.specs.Namings.{names_of, scope}
use Rattle.gc_build_reading.specs.Places.{chain_places}
use Rattle.gc_build_reading.proofs.placing.add_chain.Given as goal

abbrev pub invariant-loop-i : goal.invariant-loop-i
invariant-loop-i l =
    l.places.items ++ chain_places (scope l.naming) l.left (row (map (part_tree (names_of l.naming)) (drop l.i l.parts)))
    ≡ l.initial.places.items ++ chain_places (scope l.naming) None (row (map (part_tree (names_of l.naming)) l.parts))
