use Rattle.std.proofs.Common.{sym, subst, List, ℕ}
use Rattle.std.specs.Ordering.{nat_cmp, on}
use Rattle.gc_base.specs.Ascending.{Ascends}
use Rattle.gc_ppg.specs.Tables.{ends_of, walk_of}
use Rattle.gc_ppg.specs.declared.coherence.EdgeEnds.{EdgeEnds}
use Rattle.gc_ppg.specs.declared.coherence.PathWalk.{PathWalk}
use Rattle.gc_ppg.proofs.ShapeTables.{Ascends-map, table_of}
use Rattle.gc_ppg.proofs.coherence.Shapes.of.Goals as goal

pub invariant_of-result : goal.invariant_of-result
invariant_of-result c =
    let g = c.args.g.now in
    let valid = c.nodes_of.ensures.valid in (
      subst (λ (xs : List ℕ). Ascends nat_cmp xs) (sym c.in_ok-nodes.ensures.ids) (Ascends-map (λ n. n.id) nat_cmp g.nodes valid.nodes_ascend),
      subst (λ (xs : List EdgeEnds). Ascends (on (λ e. e.id) nat_cmp) xs) (sym c.in_ok-edges.ensures.ends) (Ascends-map ends_of (on (λ e. e.id) nat_cmp) g.edges valid.edges_ascend),
      subst (λ (xs : List PathWalk). Ascends (on (λ p. p.id) nat_cmp) xs) (sym c.in_ok-paths.ensures.walks) (Ascends-map walk_of (on (λ p. p.id) nat_cmp) g.paths valid.paths_ascend),
    )

pub returns : goal.returns
returns c = table_of c.args.g.now _ _ _ c.in_ok-nodes.ensures.ids c.in_ok-edges.ensures.ends c.in_ok-paths.ensures.walks
