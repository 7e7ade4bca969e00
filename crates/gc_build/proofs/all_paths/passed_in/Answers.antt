use Rattle.std.proofs.Common.{◌∙◌, ap, sym}
use Rattle.std.proofs.lemmas.Result.{IfOk-weaker}
use Rattle.std.specs.Option.{option_copied}
use Rattle.gc_build.proofs.Passing.{by_product}
use Rattle.gc_build.proofs.all_paths.passed_in.Goals as goal

pub returns : goal.returns
returns g c =
    let machine = c.in_ok-machine.machine in
    let all = c.in-All in
    IfOk-weaker c.passed_between.result _ _
    (λ passed h. by_product c.args.making.now.setting.graphs c.args.segments.now c.args.atom.now c.args.spans.now passed.nodes.items passed.edges.items
    c.in_ok-product.product machine.automaton machine.segments c.in-Some.graph.now all.x all.p all.y all.regex all.views
    c.in_ok-product.ensures c.in_ok-machine.ensures.segments all.is (sym c.graph.ensures ∙ ap option_copied c.in-Some.is) c.machine_of.ensures.parts c.in_ok-machine.ensures.automaton h)
    c.passed_between.ensures
