use Rattle.std.proofs.Common.{◌≡◌, Bool, sym, ap, subst, ◌∙◌}
use Rattle.std.specs.Ordering.{is_eq}
use Rattle.gc_search.specs.Arrivals.{Told}
use Rattle.gc_search.specs.Tails.{edges_told}
use Rattle.gc_search.proofs.TailLaws.{list_told}
use Rattle.gc_search.proofs.comparing.have_same_edges.Goals as goal

pub returns : goal.returns
returns c =
    let tree = c.args.tree.now in
    let xs = edges_told tree.setting tree.walks c.args.a.now in
    let ys = edges_told tree.setting tree.walks c.args.b.now in
    subst (λ (b : Bool). Told b (xs ≡ ys) (xs ≡ ys → ⊥)) (sym (c.is_eq.ensures ∙ ap is_eq c.edges_order.ensures)) (list_told xs ys)
