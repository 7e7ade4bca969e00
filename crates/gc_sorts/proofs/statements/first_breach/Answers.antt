use Rattle.std.proofs.Common.{◌≡◌, None, IfOk, map, subst}
use Rattle.gc_ast.specs.QueryViews.{statement_tree, file_trees}
use Rattle.gc_ast.specs.Trees.{row}
use Rattle.gc_sorts.specs.Breaches.{first_among}
use Rattle.gc_sorts.specs.Holders.{HeldSights}
use Rattle.gc_sorts.specs.SortRules.{breaches, file_breaches}
use Rattle.gc_sorts.proofs.FirstBreach.{first_told}
use Rattle.gc_sorts.proofs.statements.first_breach.Goals as goal

pub returns-clause-breach : goal.returns-clause-breach
returns-clause-breach c =
    subst
    (λ (k : HeldSights). IfOk c.statements.result (λ first. first ≡ first_among None (breaches k.at (row (map (statement_tree k.names) c.args.file.now.statements.items)))))
    c.in_ok-checker.ensures c.statements.ensures

pub returns-clause-first : goal.returns-clause-first
returns-clause-first c = first_told c.statements.result (file_breaches c.args.graphs.now (row (file_trees c.args.file.now))) (returns-clause-breach c)
