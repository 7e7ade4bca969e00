use Rattle.std.proofs.Common.{sym, subst, List}
use Rattle.gc_base.specs.Walks.{edges_of}
use Rattle.gc_reach.specs.OnWalks.{nodes_of}
use Rattle.gc_reach.specs.Reached.{AreThose}
use Rattle.gc_rows.specs.Tables.{HasExactly}
use Rattle.gc_walks.specs.Databases.{database}
use Rattle.gc_build.specs.AllPaths.{LiesOn, all_atom, spans_of}
use Rattle.gc_build.specs.Patterns.{plain}
use Rattle.gc_build.specs.declared.spans.Span.{Span}
use Rattle.gc_build.proofs.Passing.{just_spans, those_of}
use Rattle.gc_build.proofs.all_paths.parts_of.Goals as goal

pub returns-clause-right : goal.returns-clause-right
returns-clause-right g c =
    let m = c.args.making.now in
    let ps = plain c.args.patterns.now in
    let kept = c.args.kept.now in
    let db = database m.setting.graphs ps.segments in
    let a = all_atom ps.block c.args.path in
    let once : HasExactly (spans_of m kept c.args.path) c.deref.result.now =
    subst (λ (xs : List Span). HasExactly (spans_of m kept c.args.path) xs) (sym c.deref.ensures.value)
    (subst (λ (xs : List Span). HasExactly xs c.in_ok-spans.spans.items) c.in_ok-spans_of.ensures c.in_ok-spans.ensures) in
    let passed = c.in_ok-passed.passed in
    record {
      nodes =
          subst (AreThose (LiesOn nodes_of ps m kept c.args.path)) (sym c.from_vec.ensures)
          (those_of _ passed.nodes.items _ (just_spans nodes_of db a _ _ passed.nodes.items once c.in_ok-passed.ensures.nodes) c.in_ok-nodes.ensures.ascend c.in_ok-nodes.ensures.exact);
      edges =
          subst (AreThose (LiesOn edges_of ps m kept c.args.path)) (sym c.from_vec-2.ensures)
          (those_of _ passed.edges.items _ (just_spans edges_of db a _ _ passed.edges.items once c.in_ok-passed.ensures.edges) c.in_ok-edges.ensures.ascend c.in_ok-edges.ensures.exact);
    }
