use Rattle.gc_alg.specs.Views.{block_tree}
use Rattle.gc_query.proofs.FoundSearched.{patterns_searched}
use Rattle.gc_query.proofs.explaining.tell.Goals as goal

pub searches_of-requires-clause-searched : goal.searches_of-requires-clause-searched
searches_of-requires-clause-searched g c = patterns_searched (block_tree c.args.block.now) c.requires.searched
