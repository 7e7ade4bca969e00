use Rattle.std.proofs.Common.{arith, sym}
use Rattle.gc_lex.proofs.Bodies.{stop_is_backslash, body_end, body_quote, body_last, body_meaning, body_bad}
use Rattle.gc_lex.proofs.texts.next_stop.Goals as goal

pub returns-then-n-rest-clause-body : goal.returns-then-n-rest-clause-body
returns-then-n-rest-clause-body c =
    body_end c.args.quote c.args.rest.now _ c.plain_length-n.ensures.length c.if-n-rest.true

pub returns-then-rest-n-clause-body : goal.returns-then-rest-n-clause-body
returns-then-rest-n-clause-body c =
    body_quote c.args.quote c.args.rest.now _ c.plain_length-n.ensures.length (omega arith) c.if-rest-n.true

pub returns-then-n-rest-2-clause-body : goal.returns-then-n-rest-2-clause-body
returns-then-n-rest-2-clause-body c =
    body_last c.args.quote c.args.rest.now _ c.requires c.plain_length-n.ensures.length c.if-n-rest-2.true c.if-rest-n.false

pub returns-in-Some-clause-body : goal.returns-in-Some-clause-body
returns-in-Some-clause-body c =
    body_meaning c.args.quote c.args.rest.now _ c.in-Some.meaning c.requires c.plain_length-n.ensures.length (omega arith) c.if-rest-n.false (sym c.in-Some.ensures.meaning)

pub returns-in-None-clause-body : goal.returns-in-None-clause-body
returns-in-None-clause-body c =
    body_bad c.args.quote c.args.rest.now _ c.requires c.plain_length-n.ensures.length (omega arith) c.if-rest-n.false (sym c.in-None.ensures.meaning)

pub returns-in-Some-clause-within : goal.returns-in-Some-clause-within
returns-in-Some-clause-within c =
    let backslash = stop_is_backslash c.args.quote c.args.rest.now _ c.plain_length-n.ensures.length (omega arith) c.if-rest-n.false in
    (omega arith, omega (arith, backslash), c.in-Some.ensures.ascii.0, c.in-Some.ensures.ascii.1)
