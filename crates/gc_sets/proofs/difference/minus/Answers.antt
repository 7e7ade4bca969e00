use Rattle.std.proofs.Common.{◌≡◌, IfOk, ◌∙◌, subst}
use Rattle.gc_sets.specs.Additions.{assembled}
use Rattle.gc_sets.proofs.DifferenceLaws.{difference_parts, difference_assembled}
use Rattle.gc_sets.proofs.difference.minus.Goals as goal

pub assemble-requires : goal.assemble-requires
assemble-requires g c =
    let n = c.in_ok-nodes.ensures in
    let e = c.in_ok-edges.ensures in
    let p = c.in_ok-paths.ensures in
    rw (n, e, p) (difference_parts c.args.a.now c.args.b.now c.node_count-valid.ensures.valid)

pub returns : goal.returns
returns g c =
    let n = c.in_ok-nodes.ensures in
    let e = c.in_ok-edges.ensures in
    let p = c.in_ok-paths.ensures in
    let all = (λ i. assembled (n i) (e i) (p i)) ∙ difference_assembled c.args.a.now c.args.b.now c.node_count-valid.ensures.valid in
    subst (λ whole. IfOk c.assemble.result (λ made. made ≡ whole)) all c.assemble.ensures
