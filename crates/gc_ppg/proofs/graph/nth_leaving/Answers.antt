use Rattle.std.proofs.Common.{rules, tests, ◌∙◌, ◌==◌}
use Rattle.std.proofs.lemmas.Iterator.{YieldsList-from_slice}
use Rattle.std.proofs.lemmas.Iterator.Consumers.{YieldsList-from_filter, nth_from_yields_List}
use Rattle.gc_ppg.proofs.Finds.{copied_map}
use Rattle.gc_ppg.proofs.graph.nth_leaving.Goals as goal

pub returns : goal.returns
returns c =
    copied_map c.nth.result
    ∙ nth_from_yields_List c.nth.result c.nth.new.self c.args.i c.nth.ensures.ran
    (YieldsList-from_filter _ (λ e. e.from == c.args.node) (YieldsList-from_slice c.args.edges.now (search rules)) c.filter.ensures.closure (λ x r q k. search (rules, tests)))
