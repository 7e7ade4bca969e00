use Rattle.gc_sets.proofs.OriginLaws.{comes_through}
use Rattle.gc_sets.proofs.laws.what_comes_from_made_graphs_comes_from_theirs.Goals as goal

pub returns : goal.returns
returns c = λ graphs others next middle after g up on each comes. comes_through graphs others next middle after up on each g comes
