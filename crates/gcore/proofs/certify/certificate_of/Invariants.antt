use Rattle.std.proofs.Common.{◌≡◌, ◌++◌}
use Rattle.gcore.proofs.certify.certificate_of.Given as goal

-- the searches so far and those that are left are all
abbrev pub invariant-loop-search : goal.invariant-loop-search
invariant-loop-search l = l.list ++ l.search-iterator.rest.items ≡ l.fn.searches.items
