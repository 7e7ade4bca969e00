use Rattle.std.proofs.Math.Dec.{eqb}
use Rattle.std.proofs.lemmas.List.Filters.{dedup_is}
use Rattle.gc_reach.proofs.SortLaws.{those_sorted}
use Rattle.gc_reach.proofs.passing.ascending.Goals as goal

pub returns : goal.returns
returns c = those_sorted _ _ _ c.sort.ensures.permutation c.in_ok-sort.ensures.sorted (dedup_is eqb _ _ c.dedup.ensures.filtered)
