use Rattle.std.proofs.Common.{◌≡◌, List, sym, ap, subst, ◌∙◌}
use Rattle.std.specs.List.{AllByRecursion}
use Rattle.gc_base.proofs.SetLaws.{filter-passes}
use Rattle.gc_spec.specs.PropertyGraph.{IsGraph, is_among, node_ids}
use Rattle.gc_automata.specs.Machines.{IsAutomatonOf}
use Rattle.gc_automata.specs.Moves.{IsNetwork, IsThere, Network, Segment}
use Rattle.gc_rows.specs.Tables.{HasExactly}
use Rattle.gc_rows.proofs.Members.{of_part}
use Rattle.gc_prod.specs.Products.{Setting}
use Rattle.gc_prod.specs.Segments.{AreSegments, IsSegment}
use Rattle.gc_prod.proofs.Networks.{network_is}
use Rattle.gc_walks.specs.Databases.{used_segments}
use Rattle.gc_cert.specs.declared.document.SearchDoc.{SearchDoc}
use Rattle.gc_cert_searches.specs.declared.ends.WalkEnds.{WalkEnds}
use Rattle.gc_cert_searches.specs.Asking.{matched_at, pattern_at}
use Rattle.gc_cert_searches.specs.Found.{AreDocsOf, network_on}
use Rattle.gc_cert_searches.specs.Readings.{ends_in, ends_on}
use Rattle.gc_cert_searches.proofs.Assembling.{all_told}
use Rattle.gc_cert_searches.proofs.InTurn.{on_ok}
use Rattle.gc_cert_searches.proofs.block.add_on.Goals as goal

pub of-requires : goal.of-requires
of-requires g c =
    let own : AreSegments c.args.graph.now c.in_ok-machine.machine.segments =
    c.in_ok-machine.ensures.there c.args.matching.now.graphs.now c.args.graph.now c.requires.there c.requires.graph in
    of_part (IsSegment c.args.graph.now) c.in_ok-machine.machine.segments c.in_ok-segments.segments c.in_ok-segments.ensures.exact.sound own

pub add_searches-requires-clause-there : goal.add_searches-requires-clause-there
add_searches-requires-clause-there g c =
    let graph = c.args.graph.now in
    let bound : List WalkEnds = c.deref.result.now in
    let segments : List Segment = c.in_ok-segments.segments in
    let network : record { graph = graph; segments = segments } ≡ c.in_ok-product.product.network = sym (ap (λ (s : Setting). s.network) c.in_ok-product.ensures) in
    let there : AllByRecursion (λ (e : WalkEnds). IsThere (record { graph = graph; segments = segments }) e.start) (ends_on graph bound) =
    filter-passes (λ (e : WalkEnds). is_among (node_ids graph.nodes) e.start) bound in
    subst (λ (es : List WalkEnds). AllByRecursion (λ (e : WalkEnds). IsThere c.in_ok-product.product.network e.start) es) (sym c.in_ok-ends.ensures)
    (subst (λ (n : Network). AllByRecursion (λ (e : WalkEnds). IsThere n e.start) (ends_on graph bound)) network there)

pub returns : goal.returns
returns g c =
    let m = matched_at c.args.matching.now in
    let f = pattern_at c.args.pattern.now in
    let graph = c.args.graph.now in
    let tree = f.expression in
    let setting : Setting = c.in_ok-product.product in
    let segments : List Segment = c.in_ok-segments.segments in
    let is = c.in_ok-product.ensures in
    let network : setting.network ≡ record { graph = graph; segments = segments } = ap (λ (s : Setting). s.network) is in
    let whole : IsGraph graph = subst (λ (s : Setting). IsGraph s.network.graph) is c.nodes-nodes.ensures.graph in
    let used : List Segment = used_segments m.segments f.graph f.views in
    let own : AreSegments graph c.in_ok-machine.machine.segments =
    c.in_ok-machine.ensures.there c.args.matching.now.graphs.now graph c.requires.there c.requires.graph in
    let named : AreSegments graph used = subst (AreSegments graph) c.in_ok-machine.ensures.segments own in
    let exact : HasExactly used segments = subst (λ (xs : List Segment). HasExactly xs segments) c.in_ok-machine.ensures.segments c.in_ok-segments.ensures.exact in
    let law : IsNetwork (network_on m f graph) = network_is (network_on m f graph) whole named in
    let other : IsNetwork (record { graph = graph; segments = segments }) =
    network_is (record { graph = graph; segments = segments }) whole (of_part (IsSegment graph) used segments exact.sound named) in
    let machine : IsAutomatonOf tree setting.machine = subst (λ (s : Setting). IsAutomatonOf tree s.machine) (sym is) c.in_ok-machine.ensures.automaton in
    let kept : c.in_ok-ends.ends.items ≡ ends_on graph (ends_in f.path m.rows) = c.in_ok-ends.ensures ∙ ap (ends_on graph) (c.deref.ensures.value ∙ c.in_ok-bound.ensures) in
    let old : List SearchDoc = c.args.docs.now.items in
    let now : List SearchDoc = c.add_searches.new.docs.items in
    on_ok c.add_searches.result _ _
    (λ (h : AreDocsOf setting tree c.in_ok-ends.ends.items old now).
    all_told m f graph c.requires.graph setting segments network law other c.in_ok-machine.ensures.parts machine c.in_ok-segments.ensures.ascend exact old now
    (subst (λ (es : List WalkEnds). AreDocsOf setting tree es old now) kept h))
    c.add_searches.ensures
