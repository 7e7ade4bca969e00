-- The patterns of a MATCH, as a plain record.
use Rattle.gc_alg.specs.Views.{block_tree}
use Rattle.gc_build.specs.AllPaths.{Patterns}
use Rattle.gc_build.specs.declared.patterns.Patterns.{Patterns as Given}

abbrev pub plain : Given → Patterns
plain ps = record { block = block_tree ps.block.now; segments = ps.segments.now }
