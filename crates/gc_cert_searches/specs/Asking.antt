-- What is asked for, and on what.
use Rattle.gc_cert_searches.specs.declared.block.FoundPattern.{FoundPattern}
use Rattle.gc_cert_searches.specs.declared.block.Matching.{Matching}
use Rattle.gc_cert_searches.specs.Patterns.{Pattern}
use Rattle.gc_cert_searches.specs.Searches.{Matched}

-- on what searches are made
abbrev pub matched_at : Matching → Matched
matched_at m = record { graphs = m.graphs.now; segments = m.segments.now; rows = m.table.now.rows }

-- a pattern
abbrev pub pattern_at : FoundPattern → Pattern
pattern_at p = record { path = p.path; expression = p.expression.now; graph = p.graph; views = p.views.now }
