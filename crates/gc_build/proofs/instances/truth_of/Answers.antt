use Rattle.std.proofs.Common.{[], ◌∙◌, ap, map}
use Rattle.std.proofs.lemmas.Result.{IfOk-weaker}
use Rattle.gc_build.specs.Makings.{Making, made_at}
use Rattle.gc_build_numbers.specs.Settings.{Setting}
use Rattle.gc_expr.specs.Views.{numbered_expr}
use Rattle.gc_values.specs.ExprTruths.{truth_of}
use Rattle.gc_build.proofs.NamedLaws.{truth_named}
use Rattle.gc_build.proofs.instances.truth_of.Goals as goal

pub returns : goal.returns
returns g c =
    let m = c.args.making.now in
    let row = c.args.row.now in
    let condition = numbered_expr c.args.condition.now in
    IfOk-weaker c.truth.result _ _
    (λ t h. h
    ∙ ap (λ (s : Setting). truth_of (record { row = row; reads = s.reads; graphs = s.graphs; made = c.in_ok-made.made }) [] condition) (c.setting.view_is ∙ ap (λ (m : Making). m.setting) c.making.view_is)
    ∙ ap (λ made. truth_of (record { row = row; reads = m.setting.reads; graphs = m.setting.graphs; made = made }) [] condition)
    (c.in_ok-made.ensures ∙ ap (map (made_at m c.args.place row)) c.requires)
    ∙ truth_named m c.args.place row condition)
    c.truth.ensures
