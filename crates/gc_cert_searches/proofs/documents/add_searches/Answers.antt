use Rattle.std.proofs.Common.{◌≡◌, ℕ, ◌+◌, List, [], ◌∷◌, ◌++◌, map, take, sym, ap, ◌∙◌, subst}
use Rattle.std.proofs.lemmas.List.{take_all, take_more}
use Rattle.std.specs.Ordering.{nat_cmp}
use Rattle.gc_base.specs.Ascending.{Ascends}
use Rattle.gc_rows.specs.Tables.{HasExactly}
use Rattle.gc_prod.specs.Keys.{at_key}
use Rattle.gc_cert.specs.declared.document.SearchDoc.{SearchDoc}
use Rattle.gc_cert_searches.specs.Found.{AreDocsFrom}
use Rattle.gc_cert_searches.specs.declared.ends.WalkEnds.{WalkEnds}
use Rattle.gc_cert_searches.proofs.Grouping.{no_docs, one_more, retold, source_there, starts_at, those_sources, those_targets}
use Rattle.gc_cert_searches.proofs.documents.add_searches.Goals as goal

pub loop-source-init : goal.loop-source-init
loop-source-init g c = no_docs c.args.asked.now.product.now c.args.asked.now.expression.now c.args.ends.items c.args.docs.now.items

pub search_doc-requires-clause-source : goal.search_doc-requires-clause-source
search_doc-requires-clause-source g c =
    let items : List ℕ = c.deref-source-items.result.now in
    let exact : HasExactly (map (λ (e : WalkEnds). e.start) c.args.ends.items) items =
    retold (λ e. e.start) c.deref.result.now c.args.ends.items c.in_ok-sources.sources.items items c.deref.ensures.value c.deref-source-items.ensures.value c.in_ok-sources.ensures.exact in
    source_there c.args.ends.items items exact c.args.asked.now.product.now.network c.requires.there c.source-item.result
    (c.loop-source.source-index, c.loop-source-test.true, sym c.source-item.is)

pub loop-source-preserved : goal.loop-source-preserved
loop-source-preserved g c =
    let setting = c.args.asked.now.product.now in
    let tree = c.args.asked.now.expression.now in
    let source : ℕ = c.source-item.result in
    let ends : List WalkEnds = c.args.ends.items in
    let items : List ℕ = c.deref-source-items.result.now in
    let targets : List ℕ = c.deref-in-loop-source.result.now in
    let own : c.at.result.now ≡ starts_at source ends =
    c.at.ensures ∙ (ap (λ k. at_key (λ (e : WalkEnds). e.start) k c.in_ok-by_start.by_start) c.get.ensures.number ∙ c.in_ok-by_start.ensures source) in
    let exact : HasExactly (map (λ (e : WalkEnds). e.target) (starts_at source ends)) targets =
    retold (λ e. e.target) c.at.result.now (starts_at source ends) c.in_ok-targets.targets.items targets own c.deref-in-loop-source.ensures.value c.in_ok-targets.ensures.exact in
    let up : Ascends nat_cmp targets = subst (Ascends nat_cmp) (sym c.deref-in-loop-source.ensures.value) c.in_ok-targets.ensures.ascend in
    let more = one_more setting tree ends (take c.loop-source.source-index items) c.args.docs.now.items c.loop-source.docs.items source targets c.in_ok-search_doc.field-0 c.loop-source.invariant
    (those_targets ends source targets exact up) c.in_ok-search_doc.ensures in
    let front : take c.loop-source.source-index items ++ source ∷ [] ≡ take (c.loop-source.source-index + 1) items =
    ap (λ s. take c.loop-source.source-index items ++ s ∷ []) c.source-item.is ∙ sym (take_more items c.loop-source.source-index source c.loop-source-test.true) in
    subst (λ (ds : List SearchDoc). AreDocsFrom setting tree ends (take (c.loop-source.source-index + 1) items) c.args.docs.now.items ds) (sym c.in_ok-push.ensures.items)
    (subst (λ (ss : List ℕ). AreDocsFrom setting tree ends ss c.args.docs.now.items (c.loop-source.docs.items ++ c.in_ok-search_doc.field-0 ∷ [])) front more)

pub returns : goal.returns
returns g c =
    let items : List ℕ = c.deref-source-items.result.now in
    let exact : HasExactly (map (λ (e : WalkEnds). e.start) c.args.ends.items) items =
    retold (λ e. e.start) c.deref.result.now c.args.ends.items c.in_ok-sources.sources.items items c.deref.ensures.value c.deref-source-items.ensures.value c.in_ok-sources.ensures.exact in
    let up : Ascends nat_cmp items = subst (Ascends nat_cmp) (sym c.deref-source-items.ensures.value) c.in_ok-sources.ensures.ascend in
    record {
      sources = items;
      those = those_sources c.args.ends.items items exact up;
      docs =
          subst (λ (ss : List ℕ). AreDocsFrom c.args.asked.now.product.now c.args.asked.now.expression.now c.args.ends.items ss c.args.docs.now.items c.loop-source.docs.items)
          (take_all c.loop-source.source-index items c.loop-source-test.false) c.loop-source.invariant;
    }
