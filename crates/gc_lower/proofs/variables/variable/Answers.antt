use Rattle.std.proofs.Common.{◌<◌, ◌≤◌, length, ◌∙◌, arith}
use Rattle.gc_lower.proofs.Numbers.{no_number, own_number}
use Rattle.gc_lower.proofs.variables.variable.Goals as goal

pub returns-then-sym-len : goal.returns-then-sym-len
returns-then-sym-len c =
    let inside : c.args.sym.0 < length c.args.names.now = omega (arith, c.if-sym-len.true, c.len.ensures.count) in
    own_number c.args.names.now c.as_slice-distinct.ensures.distinct c.args.sym inside

pub returns-else-sym-len : goal.returns-else-sym-len
returns-else-sym-len c =
    let past : length c.args.names.now ≤ c.args.sym.0 = omega (arith, c.if-sym-len.false, c.len.ensures.count) in
    (λ i. record { 0 = c.len-else-sym-len.ensures.count i }) ∙ no_number c.args.names.now c.read_words.ensures c.args.sym past
