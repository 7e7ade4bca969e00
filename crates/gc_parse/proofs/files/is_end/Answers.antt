use Rattle.std.proofs.Common.{ap, ◌∙◌}
use Rattle.std.proofs.Math.Dec.{leb}
use Rattle.gc_parse.proofs.LaterLoops.{ended_by_length}
use Rattle.gc_parse.proofs.files.is_end.Goals as goal

pub returns : goal.returns
returns c = ap (λ n. leb n c.args.at) c.len.ensures ∙ ended_by_length c.args.source.now.tokens c.args.at
