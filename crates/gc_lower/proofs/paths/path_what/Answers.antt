use Rattle.std.proofs.Common.{sym, ap, ◌∙◌}
use Rattle.gc_alg.specs.declared.atom.AtomWhat.TheVariants as atom
use Rattle.gc_ast.specs.PatternViews.{body_by}
use Rattle.gc_expr.specs.Views.{name_of}
use Rattle.gc_lower.specs.Chains.{path_what}
use Rattle.gc_lower.specs.Namings.{names_of, scope}
use Rattle.gc_lower.proofs.paths.path_what.Goals as goal

pub returns-in_ok-k-in-Found : goal.returns-in_ok-k-in-Found
returns-in_ok-k-in-Found c =
    let n = c.args.naming.now in
    (λ i. atom.Found c.args.link.left (c.named.ensures i) c.args.link.right (c.in_ok-k-in-Found.ensures i) (c.variable_if.ensures i) (c.in_ok-regex-in-Found.ensures i) (c.in_ok-views-in-Found.ensures i))
    ∙ ap (λ b. path_what (scope n) c.args.link.left c.args.link.right (body_by (name_of (names_of n)) b)) (sym c.in-Found.is)
