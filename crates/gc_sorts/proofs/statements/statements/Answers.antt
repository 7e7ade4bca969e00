use Rattle.std.proofs.Common.{◌≡◌, ◌∙◌, ap}
use Rattle.gc_ast.specs.QueryViews.{statement_tree}
use Rattle.gc_sorts.specs.Breaches.{first_among}
use Rattle.gc_sorts.specs.Holders.{HeldSights}
use Rattle.gc_sorts.specs.SortRules.{breaches, behind}
use Rattle.gc_sorts.proofs.RuleRows.{row_step}
use Rattle.gc_sorts.proofs.statements.statements.Goals as goal

pub loop-one-preserved : goal.loop-one-preserved
loop-one-preserved c =
    let view = statement_tree c.args.checker.now.names in
    let x = c.one-item.result in
    let s = c.loop-one.checker.at in
    let is_behind : c.statement.new.checker.at ≡ behind s (view x) =
    ap (λ (k : HeldSights). k.at) c.in_ok-found.ensures.behind ∙ ap (λ n. behind s (statement_tree n x)) c.loop-one.invariant.names in
    record {
      names = ap (λ (k : HeldSights). k.names) c.in_ok-found.ensures.behind ∙ c.loop-one.invariant.names;
      found = row_step view c.deref-one-items.result.now c.loop-one.one-index x c.loop-one-test.true c.one-item.is
          s c.statement.new.checker.at is_behind c.loop-one.found c.in_ok-found.found _
          (c.in_ok-found.ensures.found ∙ ap (λ n. first_among c.loop-one.found (breaches s (statement_tree n x))) c.loop-one.invariant.names)
          c.loop-one.invariant.found;
    }
