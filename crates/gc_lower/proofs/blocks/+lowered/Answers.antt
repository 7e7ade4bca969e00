use Rattle.gc_expr.specs.Views.{name_of}
use Rattle.std.proofs.Common.{◌≡◌, map, IfOk, ap, ◌∙◌, rules, ◌++◌, ◌∷◌, [], subst}
use Rattle.gc_alg.specs.Views.{block_tree, conjunct_tree}
use Rattle.gc_lower.specs.Blocks.{block_of}
use Rattle.gc_lower.specs.Namings.{names_of, scope}
use Rattle.gc_lower.proofs.NextBlocks.{block_of_term, conjuncts_of_where, next_parts, next_reads, whole_block}
use Rattle.gc_lower.proofs.TreeParts.{query_term}
use Rattle.gc_ast.specs.declared.construct.Change.{the_lemmas}
use Rattle.gc_ast.specs.declared.query.Query.{out-Query}
use Rattle.gc_ast.specs.PatternViews.{named_by}
use Rattle.gc_ast.specs.QueryViews.{query_tree, term_by, term_tree}
use Rattle.gc_ast.specs.Trees as tree
use Rattle.gc_alg.specs.Trees.{BlockOf, row}
use Rattle.gc_alg.specs.Views.{part_tree}
use Rattle.gc_lower.proofs.blocks.+lowered.Goals as goal

pub block_of-loop-optional-preserved : goal.block_of-loop-optional-preserved
block_of-loop-optional-preserved t c = record {
  parts =
      next_parts (names_of c.args.naming.now) (scope c.args.naming.now) c.args.around.now c.loop-optional.reads.items c.part_of-in-loop-optional.new.reads.items
      c.deref-optional-items.result.now c.loop-optional.optional-index c.optional-item.result
      c.loop-optional.parts.items c.push-in-loop-optional.new.self.items c.in_ok-part_of-2.field-0
      c.loop-optional-test.true c.optional-item.is c.in_ok-part_of-2.ensures.part c.in_ok-part_of-2.ensures.reads c.in_ok-push-2.ensures.items
      ∙ c.loop-optional.invariant.parts;
  reads =
      next_reads (names_of c.args.naming.now) (scope c.args.naming.now) c.args.around.now c.loop-optional.reads.items c.part_of-in-loop-optional.new.reads.items
      c.deref-optional-items.result.now c.loop-optional.optional-index c.optional-item.result
      c.loop-optional-test.true c.optional-item.is c.in_ok-part_of-2.ensures.reads
      ∙ c.loop-optional.invariant.reads;
}

pub block_of-returns : goal.block_of-returns
block_of-returns t c =
    c.new.ensures
    ∙ ap (BlockOf (row (map part_tree c.loop-optional.parts.items))) c.from_vec.ensures
    ∙ whole_block (names_of c.args.naming.now) (scope c.args.naming.now) c.args.around.now c.in_ok-reads.reads.items c.part_of.new.reads.items c.loop-optional.reads.items c.args.basic.now
    c.deref-optional-items.result.now c.loop-optional.optional-index c.push.new.self.items c.loop-optional.parts.items c.in_ok-part_of.field-0
    c.deref-optional-items.ensures.value c.loop-optional-test.false c.in_ok-reads.ensures c.in_ok-part_of.ensures.part c.in_ok-part_of.ensures.reads
    (c.in_ok-push.ensures.items ∙ ap (λ ps. ps ++ c.in_ok-part_of.field-0 ∷ []) c.new-parts.ensures.items)
    c.loop-optional.invariant.parts c.loop-optional.invariant.reads

pub where_conjuncts-returns-in_ok-queries-in-Some : goal.where_conjuncts-returns-in_ok-queries-in-Some
where_conjuncts-returns-in_ok-queries-in-Some t c =
    subst (λ trees. IfOk c.conjuncts_of.result (λ list. map conjunct_tree list.items ≡ trees))
    (conjuncts_of_where (names_of c.args.naming.now) (scope c.args.naming.now) c.args.around.now c.args.filter.now
    c.in-Some.formula c.deref.result.now _ c.in-Some.is c.deref.ensures.value c.in_ok-queries-in-Some.ensures)
    c.conjuncts_of.ensures

pub query_block-returns-in-Graph : goal.query_block-returns-in-Graph
unfolding term_by block_of
query_block-returns-in-Graph t c =
    let first_is : term_tree (names_of c.args.naming.now) (out-Query c.args.query.now).first ≡ tree.GraphTerm (named_by (name_of (names_of c.args.naming.now)) c.in-Graph.field-0) =
    rw c.in-Graph.is (search (rules, the_lemmas)) in
    subst (λ due. IfOk c.without_parts.result (λ block. block_tree block ≡ due))
    (block_of_term (names_of c.args.naming.now) (scope c.args.naming.now) c.args.around.now c.args.query.now
    (tree.GraphTerm (named_by (name_of (names_of c.args.naming.now)) c.in-Graph.field-0)) first_is) c.without_parts.ensures

pub query_block-returns-in-Query : goal.query_block-returns-in-Query
unfolding block_of
query_block-returns-in-Query t c =
    subst (λ due. IfOk c.without_parts-in-Query.result (λ block. block_tree block ≡ due))
    (block_of_term (names_of c.args.naming.now) (scope c.args.naming.now) c.args.around.now c.args.query.now (tree.QueryTerm (query_tree (names_of c.args.naming.now) c.in-Query.field-0.value))
    (ap (term_tree (names_of c.args.naming.now)) c.in-Query.is ∙ query_term (names_of c.args.naming.now) c.in-Query.field-0)) c.without_parts-in-Query.ensures
