use Rattle.std.proofs.Common.{◌≡◌, ◌∙◌, Bool, ap, sym, map, length, List}
use Rattle.std.specs.List.{filter}
use Rattle.std.proofs.lemmas.List.{length-map}
use Rattle.std.proofs.lemmas.Result.{IfOk-weaker}
use Rattle.gc_base.specs.Ascending.{has}
use Rattle.gc_base.specs.Literals.{text_order}
use Rattle.gc_spec.specs.PropertyGraph.{Edge}
use Rattle.gc_prod.specs.SymbolHops.{along_edge}
use Rattle.gc_prod.proofs.HopLists.{all_kept, kept_whole}
use Rattle.gc_prod.proofs.hop_lists.labelled_hops.Goals as goal

pub returns-then-count-edge_count-clause-exact : goal.returns-then-count-edge_count-clause-exact
returns-then-count-edge_count-clause-exact g c =
    let edges = c.args.graph.now.edges in
    let p : Edge → Bool = λ e. has text_order e.labels c.args.label.now in
    let count : length (filter p edges) ≡ length edges =
    sym (length-map (filter p edges) (λ (e : Edge). e.id)) ∙ (sym c.label_count-count.ensures ∙ (c.if-count-edge_count.true ∙ c.edge_count.ensures.count)) in
    IfOk-weaker c.all_edge_hops.result _ _ (λ found is. is ∙ ap (λ (es : List Edge). map (along_edge c.args.way) es) (all_kept edges ∙ sym (kept_whole p edges count))) c.all_edge_hops.ensures.exact
