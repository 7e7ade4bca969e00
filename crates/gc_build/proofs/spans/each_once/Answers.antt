use Rattle.std.proofs.lemmas.List.Filters.{dedup_is}
use Rattle.gc_build.proofs.Distinct.{same_span, spans_once}
use Rattle.gc_build.proofs.spans.each_once.Goals as goal

pub returns : goal.returns
returns c = spans_once _ _ _ c.sort.ensures.permutation (dedup_is same_span _ _ c.dedup.ensures.filtered)
