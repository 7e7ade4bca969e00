use Rattle.gc_sets.proofs.Adding.{PathsSoFar}
use Rattle.gc_sets.proofs.whole.add_paths.Given as goal

-- the stored paths so far and those that are left are all
abbrev pub invariant-loop-path : goal.invariant-loop-path
invariant-loop-path l = PathsSoFar l.fn.builder l.builder l.path-iterator.rest.items l.fn.paths.items
