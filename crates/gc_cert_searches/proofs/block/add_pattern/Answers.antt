use Rattle.std.proofs.Common.{sym}
use Rattle.gc_cert_searches.specs.Asking.{matched_at, pattern_at}
use Rattle.gc_cert_searches.proofs.Assembling.{none_told}
use Rattle.gc_cert_searches.proofs.block.add_pattern.Goals as goal

pub returns-in-None : goal.returns-in-None
returns-in-None g c = none_told (matched_at c.args.matching.now) (pattern_at c.args.pattern.now) (sym c.in-None.ensures) c.args.docs.now.items
