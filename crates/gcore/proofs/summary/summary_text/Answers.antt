use Rattle.std.proofs.Common.{◌≡◌, length, ap, ◌∙◌}
use Rattle.std.specs.List.{sum}
use Rattle.gcore.specs.Summaries.{costs_in, counts_line, greatest, summary}
use Rattle.gcore.proofs.SummaryLaws.{line_is}
use Rattle.gcore.proofs.summary.summary_text.Goals as goal

pub returns : goal.returns
unfolding summary
returns g c =
    let answer = c.args.answer.now in
    let counted = line_is c.args.nodes c.args.edges c.node_count.result c.in_ok-costs.costs.sum c.from.result _ _ _ _ _ _ _ c.new-text.ensures.items c.in_ok-push_count.ensures c.in_ok-push_count-2.ensures
    c.in_ok-push_count-3.ensures c.in_ok-push_count-4.ensures c.in_ok-push_count-5.ensures c.in_ok-push.ensures.items in
    c.from_vec.ensures ∙ (counted
    ∙ (ap (λ n. counts_line c.args.nodes c.args.edges n c.in_ok-costs.costs.sum c.from.result) c.node_count.ensures.count
    ∙ (ap (λ n. counts_line c.args.nodes c.args.edges (length answer.nodes) n c.from.result) c.in_ok-costs.ensures.sum
    ∙ ap (λ n. counts_line c.args.nodes c.args.edges (length answer.nodes) (sum (costs_in answer)) n) (c.from.ensures ∙ c.in_ok-costs.ensures.greatest))))
