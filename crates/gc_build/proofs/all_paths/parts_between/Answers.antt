use Rattle.std.proofs.Common.{◌∙◌, sym, ap}
use Rattle.std.proofs.lemmas.Result.{IfOk-weaker}
use Rattle.gc_spec.specs.PropertyGraph.{is_among}
use Rattle.gc_build.proofs.Passing.{just_those, nothing_from, nothing_to}
use Rattle.gc_build.proofs.all_paths.parts_between.Goals.{else-is_listed-via-then-is_listed+else-is_listed-2, else-is_listed-via-else-is_listed}
use Rattle.gc_build.proofs.all_paths.parts_between.Goals as goal

pub returns-then-is_listed-2 : goal.returns-then-is_listed-2
returns-then-is_listed-2 g c =
    IfOk-weaker c.on_walks.result _ _
    (λ parts h tree formed is. record { nodes = just_those _ parts.nodes (h tree formed is).0; edges = just_those _ parts.edges (h tree formed is).1 })
    c.on_walks.ensures.conform

pub returns-else-is_listed : goal.returns-else-is_listed
returns-else-is_listed g c = λ tree formed is.
    let network = c.args.product.now.network in
    let span = c.args.span in
    elim c.else-is_listed.branch [
      | else-is_listed-via-then-is_listed+else-is_listed-2 w ↦
          nothing_to network c.nodes-nodes.ensures.network tree span.from span.to c.new.result c.new-else-is_listed.result c.new.ensures c.new-else-is_listed.ensures
          (ap (λ ids. is_among ids span.to) (sym c.nodes-nodes.ensures.nodes) ∙ (sym w.is_listed-then-is_listed.ensures ∙ w.if-is_listed-2.false))
      | else-is_listed-via-else-is_listed w ↦
          nothing_from network c.nodes-nodes.ensures.network tree span.from span.to c.new.result c.new-else-is_listed.result c.new.ensures c.new-else-is_listed.ensures
          (ap (λ ids. is_among ids span.from) (sym c.nodes-nodes.ensures.nodes) ∙ (sym c.is_listed.ensures ∙ w.if-is_listed.false))
    ]
