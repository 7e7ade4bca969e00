use Rattle.std.proofs.Common.{take, drop}
use Rattle.std.proofs.lemmas.List.{take-append-drop}
use Rattle.gcore.proofs.session.write_text.Goals as goal

pub returns-in-Err-clause-written : goal.returns-in-Err-clause-written
returns-in-Err-clause-written g c =
    let p = c.in-Err.ensures.prefix in
    (c.in-Err.ensures.cause, (take p.0 c.args.text.now, drop p.0 c.args.text.now, take-append-drop p.0 c.args.text.now, p.1.taken))
