use Rattle.std.proofs.Common.{◌≡◌, ◌++◌, drop, map}
use Rattle.gc_ast.specs.QueryViews.{optional_tree, query_tree}
use Rattle.gc_ast.specs.Trees as tree
use Rattle.gc_alg.specs.Views.{exists_tree, part_tree}
use Rattle.gc_lower.specs.Blocks.{optional_parts, optional_reads, queries_of}
use Rattle.gc_lower.specs.Namings.{names_of, scope}
use Rattle.gc_lower.proofs.blocks.+lowered.Given as goal

-- the queries so far and those of the rest are all
abbrev pub invariant-queries_of-loop-query : goal.invariant-queries_of-loop-query
invariant-queries_of-loop-query l =
    map exists_tree l.lowered.items ++ queries_of (scope l.naming) l.around (tree.row (map (query_tree (names_of l.naming)) (drop l.query-index l.queries)))
    ≡ queries_of (scope l.naming) l.around (tree.row (map (query_tree (names_of l.naming)) l.queries))

-- the parts so far and those of the other OPTIONAL blocks are all, and what they read
abbrev pub invariant-block_of-loop-optional : goal.invariant-block_of-loop-optional
invariant-block_of-loop-optional l = record {
  parts :
      map part_tree l.parts.items ++ optional_parts (scope l.naming) l.around l.reads.items
      (tree.row (map (optional_tree (names_of l.naming)) (drop l.optional-index l.optional-items)))
      ≡ map part_tree l.initial.parts.items ++ optional_parts (scope l.naming) l.around l.initial.reads.items
      (tree.row (map (optional_tree (names_of l.naming)) l.optional-items));
  reads :
      l.reads.items ++ optional_reads (scope l.naming) (tree.row (map (optional_tree (names_of l.naming)) (drop l.optional-index l.optional-items)))
      ≡ l.initial.reads.items ++ optional_reads (scope l.naming) (tree.row (map (optional_tree (names_of l.naming)) l.optional-items));
}
