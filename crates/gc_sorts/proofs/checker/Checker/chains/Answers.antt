use Rattle.std.proofs.Common.{◌≡◌, subst, map, IfOk}
use Rattle.gc_ast.specs.PatternViews.{named, pattern_tree}
use Rattle.gc_ast.specs.Trees.{rows}
use Rattle.gc_sorts.specs.Breaches.{first_among}
use Rattle.gc_sorts.specs.Patterns.{chains_breaches}
use Rattle.gc_sorts.proofs.checker.Checker.chains.Goals as goal

pub returns : goal.returns
returns c =
    let x = c.self.inside in
    subst (λ v. IfOk c.view_chains.result (λ first. first ≡ first_among c.args.found (chains_breaches v.at.views (named v.names c.args.name) (rows (map (λ chain. map (pattern_tree v.names) chain.parts) c.args.chains.now))))) c.self.view_is
    (subst (λ n. IfOk c.view_chains.result (λ first. first ≡ first_among c.args.found (chains_breaches x.views.order (named n c.args.name) (rows (map (λ chain. map (pattern_tree n) chain.parts) c.args.chains.now))))) c.self.invariant.1 c.view_chains.ensures)
