use Rattle.gc_sets.proofs.Adding.{path_new, path_more}
use Rattle.gc_sets.proofs.whole.add_paths.Goals as goal

pub put_path-requires-clause-fresh : goal.put_path-requires-clause-fresh
put_path-requires-clause-fresh c =
    path_new c.args.builder.now c.loop-path.builder c.in-Some.path c.loop-path.path-iterator.rest.items c.next.new.self.rest.items c.args.paths.items c.requires.ascend c.requires.fit
    c.in-Some.ensures.steps.0 c.loop-path.invariant

pub loop-path-preserved : goal.loop-path-preserved
loop-path-preserved c =
    path_more c.args.builder.now c.loop-path.builder c.in-Some.path c.loop-path.path-iterator.rest.items c.next.new.self.rest.items c.args.paths.items c.requires.ascend c.requires.fit
    c.in-Some.ensures.steps.0 c.loop-path.invariant c.put_path.new.self c.in_ok-put_path.ensures.added
