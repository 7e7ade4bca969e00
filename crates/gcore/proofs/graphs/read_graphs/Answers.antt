use Rattle.std.proofs.Common.{◌≡◌, ◌+◌, ◌++◌, [], ◌∷◌, length, map, max, Option, take, true, sym, ap, ◌∙◌, subst, arith}
use Rattle.gc_base.specs.Files.{Files}
use Rattle.gc_spec.specs.Coherence.{shapes_of}
use Rattle.gc_ppg.specs.Shapes.{graph_agrees}
use Rattle.gc_catalog.specs.NamedGraphs.{number_of}
use Rattle.gcore.specs.Outcomes.{free_above}
use Rattle.gcore.specs.GraphSteps.{ReadsGraphs, name_given}
use Rattle.gcore.specs.Pairs.{names_differ}
use Rattle.gcore.specs.declared.stop.Stop.TheVariants.{OutOfMemory}
use Rattle.gcore.proofs.FreeAbove.{free_more}
use Rattle.gcore.proofs.GraphsRead.{take_item, around_item, gained, stops, reads_stop, length_more, map_more, not_yet}
use Rattle.gcore.proofs.graphs.read_graphs.Goals as goal

pub add_loaded-requires-clause-coherent : goal.add_loaded-requires-clause-coherent
add_loaded-requires-clause-coherent g c =
    c.a_graph_that_agrees_is_coherent.ensures c.loop-pair.catalog.graphs c.in_ok-graph.graph (subst (λ seen. graph_agrees seen c.in_ok-graph.graph ≡ true) c.loop-pair.invariant.seen c.in_ok-graph.ensures.agrees)

pub add_loaded-requires-clause-fresh : goal.add_loaded-requires-clause-fresh
add_loaded-requires-clause-fresh g c =
    let pairs = c.args.pairs.now in
    let pair = c.pair-item.result in
    let split = around_item pairs c.loop-pair.pair-index pair (omega arith) c.pair-item.is in
    ap (λ names. number_of names pair.name) c.loop-pair.invariant.names
    ∙ not_yet (take c.loop-pair.pair-index pairs) pair _ (subst (λ ps. names_differ ps ≡ true) split c.requires)

pub returns-in_err-graph-clause-outcome : goal.returns-in_err-graph-clause-outcome
returns-in_err-graph-clause-outcome g c =
    let inv = c.loop-pair.invariant in
    let told = g.F.Folder.files c.loop-pair.folder in
    let first = g.F.Folder.faults c.args.folder.now in
    let middle = g.F.Folder.faults c.loop-pair.folder in
    let last = g.F.Folder.faults c.read_graph.new.folder in
    let pair = c.pair-item.result in
    let stop = c.in_err-graph.field-0.0 in
    let split = around_item c.args.pairs.now c.loop-pair.pair-index pair (omega arith) c.pair-item.is in
    let stopped = stops told c.args.pairs.now _ pair _ c.loop-pair.seen c.loop-pair.catalog.graphs first middle last stop split inv.seen inv.due inv.later c.in_err-graph.ensures.outcome in
    subst (λ (t : Option Files). ReadsGraphs (record { files = t; faults_before = first; faults_after = last }) c.args.pairs.now c.from_residual.result) inv.kept
    (reads_stop _ c.args.pairs.now c.from_residual.result stop c.from_residual.ensures.0 c.from_residual.ensures.1 stopped)

pub loop-pair-preserved : goal.loop-pair-preserved
loop-pair-preserved g c =
    let inv = c.loop-pair.invariant in
    let pairs = c.args.pairs.now in
    let i = c.loop-pair.pair-index in
    let pair = c.pair-item.result in
    let graph = c.in_ok-graph.graph in
    let graphs = c.loop-pair.catalog.graphs in
    let longer = c.in_ok-add_loaded.ensures.graphs in
    let more = take_item pairs i pair (omega arith) c.pair-item.is in
    record {
      due = gained (g.F.Folder.files c.loop-pair.folder) (g.F.Folder.files c.read_graph.new.folder) (take i pairs) (take (i + 1) pairs) pair c.loop-pair.seen graphs c.add_loaded.new.catalog.graphs graph
          c.in_ok-graph.ensures.kept more longer inv.seen inv.due c.in_ok-graph.ensures.outcome;
      names = c.in_ok-add_loaded.ensures.names
          ∙ (ap (λ names. names ++ name_given pair ∷ []) inv.names ∙ (map_more name_given (take i pairs) pair ∙ ap (map name_given) (sym more)));
      next = c.in_ok-add_loaded.ensures.next ∙ (ap (λ n. max n (free_above (graph ∷ []))) inv.next ∙ (sym (free_more graphs graph) ∙ ap free_above (sym longer)));
      count = ap length longer ∙ (length_more graphs graph ∙ ap (λ n. n + 1) inv.count);
      seen = c.in_ok-add.ensures.ok ∙ (ap (λ s. s ++ shapes_of graph ∷ []) inv.seen ∙ (map_more shapes_of graphs graph ∙ ap (map shapes_of) (sym longer)));
      later = omega (arith, inv.later, c.in_ok-graph.ensures.later);
      kept = c.in_ok-graph.ensures.kept ∙ inv.kept;
    }

pub returns-in_err-add-clause-outcome : goal.returns-in_err-add-clause-outcome
returns-in_err-add-clause-outcome g c =
    reads_stop _ c.args.pairs.now c.from_residual-in_err-add.result OutOfMemory c.from_residual-in_err-add.ensures.0 c.from_residual-in_err-add.ensures.1 tt
