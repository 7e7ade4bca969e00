use Rattle.std.proofs.Common.{◌≡◌, subst, map, IfOk}
use Rattle.gc_ast.specs.PatternViews.{located_tree}
use Rattle.gc_ast.specs.Trees.{row}
use Rattle.gc_sorts.specs.Breaches.{first_among}
use Rattle.gc_sorts.specs.Graphs.{known}
use Rattle.gc_sorts.specs.Patterns.{patterns_breaches}
use Rattle.gc_sorts.specs.SortRules.{graphs_in}
use Rattle.gc_sorts.proofs.checker.Checker.patterns.Goals as goal

pub returns : goal.returns
returns c =
    let x = c.self.inside in
    subst (λ v. IfOk c.block_patterns.result (λ first. first ≡ first_among c.args.found (patterns_breaches (graphs_in v.at) v.at.views (row (map (located_tree v.names) c.args.patterns.now))))) c.self.view_is
    (subst (λ n. IfOk c.block_patterns.result (λ first. first ≡ first_among c.args.found (patterns_breaches (known x.graphs) x.views.order (row (map (located_tree n) c.args.patterns.now))))) c.self.invariant.1 c.block_patterns.ensures)
