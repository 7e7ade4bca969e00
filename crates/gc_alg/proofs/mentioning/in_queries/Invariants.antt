use Rattle.std.proofs.Common.{◌≡◌, drop, map}
use Rattle.gc_alg.specs.Trees.{row}
use Rattle.gc_alg.specs.Views.{exists_tree}
use Rattle.gc_alg.specs.Mentions.{in_queries}
use Rattle.gc_alg.proofs.mentioning.in_queries.Given as goal

-- it occurs in all where it occurs in the rest
abbrev pub invariant-loop-query : goal.invariant-loop-query
invariant-loop-query l = in_queries l.var (row (map exists_tree (drop l.query-index l.queries))) ≡ in_queries l.var (row (map exists_tree l.queries))
