use Rattle.std.proofs.Common.{◌+◌, ◌≤◌, refl, ap, sym, subst}
use Rattle.gc_parse.specs.Depths.{is_opening, is_closing}
use Rattle.gc_parse.proofs.Prefixes.{count_next, at_most_one, none_at_first, none_next, none_at_all}
use Rattle.gc_parse.proofs.depth.depth_fault.Goals as goal
use native.Mathlib.Omega.{arith}

pub loop-number-init : goal.loop-number-init
loop-number-init c = (refl, refl, omega arith, omega arith, none_at_first c.args.tokens.now.tokens)

pub overflow_add-opened : goal.overflow_add-opened
overflow_add-opened c =
    omega (arith, c.loop-number.invariant.2, subst (λ n. n ≤ 1) (sym c.one_if-opened.ensures) (at_most_one c.is_opening.result), c.loop-number-test.true, c.len-number-end.type_inv)

pub overflow_add-closed : goal.overflow_add-closed
overflow_add-closed c =
    omega (arith, c.loop-number.invariant.3, subst (λ n. n ≤ 1) (sym c.one_if-closed.ensures) (at_most_one c.is_closing.result), c.loop-number-test.true, c.len-number-end.type_inv)

pub overflow_add-closed-in-loop-number : goal.overflow_add-closed-in-loop-number
overflow_add-closed-in-loop-number c =
    omega (arith, c.loop-number.invariant.3, subst (λ n. n ≤ 1) (sym c.one_if-closed.ensures) (at_most_one c.is_closing.result), c.loop-number-test.true, c.len-number-end.type_inv)

pub returns-then-opened-closed : goal.returns-then-opened-closed
returns-then-opened-closed c =
    let ts = c.args.tokens.now.tokens in
    let opened = count_next is_opening ts c.loop-number.number c.loop-number.opened (c.loop-number.opened + c.one_if-opened.result) c.at-token.result.now c.is_opening.result
    c.at-token.ensures c.is_opening.ensures c.loop-number.invariant.0 (ap (λ n. c.loop-number.opened + n) c.one_if-opened.ensures) in
    let closed = count_next is_closing ts c.loop-number.number c.loop-number.closed (c.loop-number.closed + c.one_if-closed.result) c.at-token.result.now c.is_closing.result
    c.at-token.ensures c.is_closing.ensures c.loop-number.invariant.1 (ap (λ n. c.loop-number.closed + n) c.one_if-closed.ensures) in
    (omega (arith, opened, closed, c.if-opened-closed.true), c.loop-number.invariant.4)

pub loop-number-preserved : goal.loop-number-preserved
loop-number-preserved c =
    let ts = c.args.tokens.now.tokens in
    let opened = count_next is_opening ts c.loop-number.number c.loop-number.opened (c.loop-number.opened + c.one_if-opened.result) c.at-token.result.now c.is_opening.result
    c.at-token.ensures c.is_opening.ensures c.loop-number.invariant.0 (ap (λ n. c.loop-number.opened + n) c.one_if-opened.ensures) in
    let closed = count_next is_closing ts c.loop-number.number c.loop-number.closed (c.loop-number.closed + c.one_if-closed.result) c.at-token.result.now c.is_closing.result
    c.at-token.ensures c.is_closing.ensures c.loop-number.invariant.1 (ap (λ n. c.loop-number.closed + n) c.one_if-closed.ensures) in (
      opened,
      closed,
      omega (arith, c.loop-number.invariant.2, subst (λ n. n ≤ 1) (sym c.one_if-opened.ensures) (at_most_one c.is_opening.result)),
      omega (arith, c.loop-number.invariant.3, subst (λ n. n ≤ 1) (sym c.one_if-closed.ensures) (at_most_one c.is_closing.result)),
      none_next ts c.loop-number.number c.loop-number.invariant.4 (λ deep. omega (arith, opened, closed, c.if-opened-closed.false, deep)),
    )

pub returns : goal.returns
returns c =
    let ts = c.args.tokens.now.tokens in
    none_at_all ts (λ n le. c.loop-number.invariant.4 n (omega (arith, le, c.loop-number-test.false, c.len-number-end.ensures.count)))
