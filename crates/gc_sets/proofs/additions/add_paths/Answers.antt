use Rattle.gc_sets.proofs.NewIds.{path_turn}
use Rattle.gc_sets.proofs.additions.add_paths.Goals as goal

pub loop-path-preserved : goal.loop-path-preserved
loop-path-preserved c = path_turn c.loop-path.builder c.add_path.new.builder _ c.in-Some.path c.loop-path.path-iterator.rest.items c.next.new.self.rest.items c.in_ok-add_path.ensures c.in-Some.ensures.steps.0 c.loop-path.invariant
