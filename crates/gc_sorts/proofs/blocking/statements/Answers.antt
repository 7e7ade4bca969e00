use Rattle.std.proofs.Common.{◌+◌, ◌∷◌, [], ◌++◌, map, drop, sym, ap, ◌∙◌, arith}
use Rattle.std.proofs.lemmas.List.{drop_all}
use Rattle.gc_ast.specs.QueryViews.{statement_tree}
use Rattle.gc_ast.specs.Trees.{row}
use Rattle.gc_sorts.specs.Ways.{Walk, statement_ways, with_ways}
use Rattle.gc_sorts.specs.declared.step.Step.TheVariants as to
use Rattle.gc_sorts.proofs.BlockingLaws.{no_statements, statements_on}
use Rattle.gc_sorts.proofs.blocking.statements.Goals as goal

pub loop-i-preserved : goal.loop-i-preserved
loop-i-preserved c = record {
  here = ap (λ (w : Walk). w.here) c.back_to.ensures;
  ways = λ names. ap (λ (w : Walk). with_ways w.ways (statement_ways (c.loop-i.i + 1) (row (map (statement_tree names) (drop (c.loop-i.i + 1) c.args.all.now.items))))) c.back_to.ensures
      ∙ statements_on names c.go.new.self.here c.deref-one-items.result.now c.args.all.now.items c.deref-one-items.ensures.value c.loop-i.i c.one-item.result (omega (arith, c.loop-i-test.true)) c.one-item.is
      c.in_ok-number.field-0 c.in_ok-number.ensures (ap (λ (w : Walk). w.here) c.in_ok-go.ensures ∙ ap (λ h. h ++ to.Statement c.in_ok-number.field-0 ∷ []) c.loop-i.invariant.here) c.go.new.self.ways c.statement.new.walk.ways _
      (c.in_ok-statement.ensures.ways names) (ap (λ (w : Walk). with_ways w.ways (statement_ways c.loop-i.i (row (map (statement_tree names) (drop c.loop-i.i c.args.all.now.items))))) c.in_ok-go.ensures ∙ c.loop-i.invariant.ways names);
}

pub returns : goal.returns
returns c = λ names.
    sym (ap (with_ways c.loop-i.walk.ways) (no_statements _ _ (statement_tree names) (drop_all c.loop-i.i c.args.all.now.items (omega (arith, c.loop-i-test.false, c.deref-one-items.ensures))))) ∙ c.loop-i.invariant.ways names
