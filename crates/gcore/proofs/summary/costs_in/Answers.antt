use Rattle.std.proofs.Common.{◌≡◌, ◌++◌, ◌+◌, ◌∷◌, [], map, max, take, sym, ap, ◌∙◌, arith}
use Rattle.std.specs.List.{sum}
use Rattle.gcore.specs.Summaries.{cost_of, greatest}
use Rattle.gcore.proofs.SummaryLaws.{costs_more, greatest_more, sum_more}
use Rattle.gcore.proofs.summary.costs_in.Goals as goal

pub loop-i-preserved : goal.loop-i-preserved
loop-i-preserved g c =
    let inv = c.loop-i.invariant in
    let nodes = c.args.answer.now.nodes in
    let so_far = map cost_of (take c.loop-i.i nodes) in
    let more = costs_more nodes c.loop-i.i c.node.result.now c.node.ensures.node in
    let same : c.cost_of-cost.result ≡ cost_of c.node.result.now = c.cost_of-cost.ensures.cost in
    record {
      sum = ap (λ n. c.loop-i.costs.sum + n) (c.from.ensures ∙ same) ∙ (ap (λ n. n + cost_of c.node.result.now) inv.sum ∙ (sym (sum_more so_far (cost_of c.node.result.now)) ∙ ap sum (sym more)));
      greatest = c.max.ensures ∙ (ap (λ n. max c.loop-i.costs.greatest n) same
          ∙ (ap (λ n. max n (cost_of c.node.result.now)) inv.greatest ∙ (sym (greatest_more so_far (cost_of c.node.result.now)) ∙ ap greatest (sym more))));
      few = omega (arith, inv.few, c.from.ensures, c.cost_of-cost.ensures.most);
    }
