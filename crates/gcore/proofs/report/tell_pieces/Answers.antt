use Rattle.std.proofs.Common.{take, drop, inr}
use Rattle.std.proofs.lemmas.List.{take-append-drop}
use Rattle.gc_io.specs.Pieces.{joined}
use Rattle.gcore.proofs.report.tell_pieces.Goals as goal

pub returns-in-Err : goal.returns-in-Err
returns-in-Err g c =
    let p = c.in-Err.ensures.prefix in
    let text = joined c.args.pieces.now in
    inr (c.in-Err.ensures.cause, (take p.0 text, drop p.0 text, take-append-drop p.0 text, p.1.taken))
