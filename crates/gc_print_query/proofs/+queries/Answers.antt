use Rattle.std.proofs.Common.{◌≡◌, suc, ◌+◌, ◌∷◌, ◌++◌, [], ap, sym, ◌∙◌, arith, get_or, length, map, take, codes, rules}
use Rattle.std.specs.List.{flat_map}
use Rattle.std.specs.Option.{option_map}
use Rattle.gc_lex.specs.declared.token.Mark.TheVariants as mark
use Rattle.gc_expr.specs.Views.{name_of}
use Rattle.gc_ast.specs.declared.construct.Assign.{Assign}
use Rattle.gc_ast.specs.declared.construct.Change.{Change, the_lemmas}
use Rattle.gc_ast.specs.declared.pattern.Chain as pattern
use Rattle.gc_ast.specs.Trees as tree
use Rattle.gc_ast.specs.declared.construct.ConstructPart.{ConstructPart}
use Rattle.gc_ast.specs.declared.construct.Item.{Item}
use Rattle.gc_ast.specs.declared.construct.NewElement.{out-NewElement}
use Rattle.gc_ast.specs.declared.query.Basic.{out-Basic}
use Rattle.gc_ast.specs.declared.query.Head.{Head}
use Rattle.gc_ast.specs.declared.query.MatchBlock.{out-MatchBlock}
use Rattle.gc_ast.specs.declared.query.NextTerm.{NextTerm}
use Rattle.gc_ast.specs.declared.query.OptionalBlock.{OptionalBlock}
use Rattle.gc_ast.specs.declared.pattern.Located.{Located}
use Rattle.gc_ast.specs.declared.query.OptionalBlock.{out-OptionalBlock}
use Rattle.gc_ast.specs.declared.query.Query.{Query, out-Query}
use Rattle.gc_ast.specs.Trees.{maybe}
use Rattle.gc_ast.specs.PatternViews.{group_term_tree, located_tree, named, named_if, pattern_tree}
use Rattle.gc_ast.specs.QueryViews.{head_by, query_by, part_by, new_element_by, assign_tree, basic_tree, block_tree, change_tree, formula_tree, head_tree, item_tree, new_element_tree, next_term_tree, optional_tree, part_tree, query_tree, term_tree}
use Rattle.gc_print_query.specs.Pieces.{Blank, Line, before_list, with_piece, written}
use Rattle.gc_print_query.specs.ExpressionPieces.{mark_piece, word}
use Rattle.gc_print_query.specs.QueryPieces.{braced, clause, copy_if, edge_end, edge_start, enclosed, grouped, label, lined, listed, name_if, named_query, path_end, path_start, pieces_of}
use Rattle.gc_print_query.proofs.QueryTexts.{optional_pieces, basic_pieces, block_pieces, chain_pieces, element_pieces, formula_pieces, path_pieces, query_pieces, stored_pieces}
use Rattle.gc_print_query.proofs.WrittenPieces.{braced_some, flat_turn, joined_turn, mapped_twice, renamed_last, take_turn, then, then_last}
use Rattle.gc_print_query.proofs.+queries.Goals as goal

pub queries::write_heads-loop-head-preserved : goal.queries::write_heads-loop-head-preserved
queries::write_heads-loop-head-preserved t c =
    let l = c.loop-head in
    flat_turn (λ (x : Head). pieces_of c.args.depth (head_tree c.args.names.now x)) c.args.heads.now.items l.head-index c.head-item.result l.text.items _ (omega (arith, ap length c.deref-head-items.ensures.value))
    (c.head-item.is ∙ ap (λ xs. get_or xs l.head-index c.head-item.result) c.deref-head-items.ensures.value) c.in_ok-write_head.ensures
    ∙ l.invariant

pub queries::write_rest-loop-next-preserved : goal.queries::write_rest-loop-next-preserved
queries::write_rest-loop-next-preserved t c =
    let l = c.loop-next in
    flat_turn (λ (x : NextTerm). pieces_of c.args.depth (next_term_tree c.args.names.now x)) c.args.rest.now.items l.next-index c.next-item.result l.text.items _ (omega (arith, ap length c.deref-next-items.ensures.value))
    (c.next-item.is ∙ ap (λ xs. get_or xs l.next-index c.next-item.result) c.deref-next-items.ensures.value) c.in_ok-write_next.ensures
    ∙ l.invariant

pub queries::write_optionals-loop-optional-preserved : goal.queries::write_optionals-loop-optional-preserved
queries::write_optionals-loop-optional-preserved t c =
    let l = c.loop-optional in
    flat_turn (λ (x : OptionalBlock). Line c.args.depth ∷ pieces_of c.args.depth (optional_tree c.args.names.now x)) c.args.optionals.now.items l.optional-index c.optional-item.result l.text.items _ (omega (arith, ap length c.deref-optional-items.ensures.value))
    (c.optional-item.is ∙ ap (λ xs. get_or xs l.optional-index c.optional-item.result) c.deref-optional-items.ensures.value) c.in_ok-write_optional.ensures
    ∙ l.invariant

pub constructs::write_construct_parts-loop-part-preserved : goal.constructs::write_construct_parts-loop-part-preserved
constructs::write_construct_parts-loop-part-preserved t c =
    let l = c.loop-part in
    flat_turn (λ (x : ConstructPart). pieces_of c.args.depth (part_tree c.args.names.now x)) c.args.parts.now.items l.part-index c.part-item.result l.text.items _ (omega (arith, ap length c.deref-part-items.ensures.value))
    (c.part-item.is ∙ ap (λ xs. get_or xs l.part-index c.part-item.result) c.deref-part-items.ensures.value) c.in_ok-write_construct_part.ensures
    ∙ l.invariant

pub constructs::write_assign_list-loop-i-preserved : goal.constructs::write_assign_list-loop-i-preserved
constructs::write_assign_list-loop-i-preserved t c =
    let l = c.loop-i in
    joined_turn (λ (x : Assign). pieces_of c.args.depth (assign_tree c.args.names.now x)) (mark_piece mark.Comma ∷ Blank ∷ []) c.args.assigns.now.items l.i c.assign-item.result l.text.items _ _ (omega (arith, ap length c.deref-assign-items.ensures.value))
    (c.assign-item.is ∙ ap (λ xs. get_or xs l.i c.assign-item.result) c.deref-assign-items.ensures.value) c.in_ok-write_comma.ensures c.in_ok-write_assign.ensures
    ∙ l.invariant

pub queries::write_query-returns : goal.queries::write_query-returns
queries::write_query-returns t c =
    let n = c.args.depth in
    let names = c.args.names.now in
    let q = out-Query c.args.query.now in
    let a = flat_map (λ h. pieces_of n (head_tree names h)) q.heads.items in
    let b = pieces_of n (term_tree names q.first) in
    let d = flat_map (λ t. pieces_of n (next_term_tree names t)) q.rest.items in
    let r = c.write_rest.result in
    renamed_last r c.args.text.now.items (a ++ (b ++ d)) (pieces_of n (query_tree names c.args.query.now)) c.write_rest.new.text.items (sym (query_pieces n names c.args.query.now))
    (then_last r c.args.text.now.items a (b ++ d) c.write_heads.new.text.items c.write_rest.new.text.items c.in_ok-write_heads.ensures
    (then_last r c.write_heads.new.text.items b d c.write_term.new.text.items c.write_rest.new.text.items c.in_ok-write_term.ensures c.write_rest.ensures))

pub queries::write_basic-returns : goal.queries::write_basic-returns
queries::write_basic-returns t c =
    let n = c.args.depth in
    let names = c.args.names.now in
    let b = out-Basic c.args.basic.now in
    let construct = word (codes "CONSTRUCT") ∷ Blank ∷ [] in
    let items = lined (n + 1) (map (λ x. pieces_of n (item_tree names x)) b.items.items) in
    let matching = Line n ∷ word (codes "MATCH") ∷ Blank ∷ [] in
    let main = pieces_of n (block_tree names b.main) in
    let optionals = flat_map (λ o. Line n ∷ pieces_of n (optional_tree names o)) b.optionals.items in
    let r = c.write_optionals.result in
    let end = c.write_optionals.new.text.items in
    renamed_last r c.args.text.now.items (construct ++ (items ++ (matching ++ (main ++ optionals)))) (pieces_of n (basic_tree names c.args.basic.now)) end (sym (basic_pieces n names c.args.basic.now))
    (then_last r c.args.text.now.items construct (items ++ (matching ++ (main ++ optionals))) c.write_construct.new.text.items end c.in_ok-write_construct.ensures
    (then_last r c.write_construct.new.text.items items (matching ++ (main ++ optionals)) c.write_items.new.text.items end c.in_ok-write_items.ensures
    (then_last r c.write_items.new.text.items matching (main ++ optionals) c.write_match.new.text.items end c.in_ok-write_match.ensures
    (then_last r c.write_match.new.text.items main optionals c.write_block.new.text.items end c.in_ok-write_block.ensures c.write_optionals.ensures))))

pub constructs::write_new_element-returns : goal.constructs::write_new_element-returns
constructs::write_new_element-returns t c =
    let n = c.args.depth in
    let names = c.args.names.now in
    let e = out-NewElement c.args.element.now in
    let name = name_if (named_if names e.name) in
    let copy = copy_if (named_if names e.copy) in
    let group = grouped (map (λ t. pieces_of 0 (group_term_tree names t)) e.group) in
    let labels = flat_map label e.labels in
    let assigns = braced (map (λ a. pieces_of n (assign_tree names a)) e.assigns.items) in
    let r = c.write_assigns.result in
    let end = c.write_assigns.new.text.items in
    renamed_last r c.args.text.now.items (name ++ (copy ++ (group ++ (labels ++ assigns)))) (pieces_of n (new_element_tree names c.args.element.now)) end (sym (element_pieces n names c.args.element.now))
    (then_last r c.args.text.now.items name (copy ++ (group ++ (labels ++ assigns))) c.write_name_if.new.text.items end c.in_ok-write_name_if.ensures
    (then_last r c.write_name_if.new.text.items copy (group ++ (labels ++ assigns)) c.write_copy_if.new.text.items end c.in_ok-write_copy_if.ensures
    (then_last r c.write_copy_if.new.text.items group (labels ++ assigns) c.write_grouped.new.text.items end c.in_ok-write_grouped.ensures
    (then_last r c.write_grouped.new.text.items labels assigns c.write_labels.new.text.items end c.in_ok-write_labels.ensures c.write_assigns.ensures))))

pub constructs::write_assigns-returns : goal.constructs::write_assigns-returns
constructs::write_assigns-returns t c =
    let f = λ (a : Assign). pieces_of c.args.depth (assign_tree c.args.names.now a) in
    let xs = c.args.assigns.now.items in
    let t0 = c.args.text.now.items in
    let two = c.in_ok-write_mark.ensures ∙ ap (λ t. with_piece t (mark_piece mark.OpenBrace)) c.in_ok-write_blank.ensures in
    let lists = listed (map f xs) in
    let three = then t0 (Blank ∷ mark_piece mark.OpenBrace ∷ []) lists c.write_mark.new.text.items c.write_assign_list.new.text.items two c.in_ok-write_assign_list.ensures in
    renamed_last c.write_mark-2.result t0 _ (braced (map f xs)) c.write_mark-2.new.text.items (sym (braced_some f xs (λ none. c.if-len-eq0.false (omega (arith, none, c.len.ensures, c.args.assigns.now.ok)))))
    (then_last c.write_mark-2.result t0 (Blank ∷ mark_piece mark.OpenBrace ∷ lists) (mark_piece mark.CloseBrace ∷ []) c.write_assign_list.new.text.items c.write_mark-2.new.text.items three c.write_mark-2.ensures)

pub constructs::write_changes-loop-change-preserved : goal.constructs::write_changes-loop-change-preserved
constructs::write_changes-loop-change-preserved t c =
    let l = c.loop-change in
    let n = c.args.depth in
    let names = c.args.names.now in
    flat_turn (λ (x : Change). Line (n + 1) ∷ pieces_of n (change_tree names x)) c.args.changes.now.items l.change-index c.change-item.result l.text.items _ (omega (arith, ap length c.deref-change-items.ensures.value))
    (c.change-item.is ∙ ap (λ xs. get_or xs l.change-index c.change-item.result) c.deref-change-items.ensures.value)
    (c.in_ok-write_change.ensures ∙ ap (λ t. written t (pieces_of n (change_tree names c.change-item.result))) (c.in_ok-write_line.ensures ∙ ap (λ d. with_piece l.text.items (Line d)) c.in_ok-next.ensures))
    ∙ l.invariant

pub constructs::write_items-loop-i-preserved : goal.constructs::write_items-loop-i-preserved
constructs::write_items-loop-i-preserved t c =
    let l = c.loop-i in
    let n = c.args.depth in
    joined_turn (λ (x : Item). pieces_of n (item_tree c.args.names.now x)) (mark_piece mark.Comma ∷ Line (n + 1) ∷ []) c.args.items.now.items l.i c.item-item.result l.text.items _ _ (omega (arith, ap length c.deref-item-items.ensures.value))
    (c.item-item.is ∙ ap (λ xs. get_or xs l.i c.item-item.result) c.deref-item-items.ensures.value)
    (c.in_ok-write_comma_line.ensures ∙ ap (λ d. written l.text.items (before_list l.i (mark_piece mark.Comma ∷ Line d ∷ []))) c.in_ok-next.ensures) c.in_ok-write_item.ensures
    ∙ l.invariant

pub queries::write_block-returns : goal.queries::write_block-returns
queries::write_block-returns t c =
    let n = c.args.depth in
    let names = c.args.names.now in
    let b = out-MatchBlock c.args.block.now in
    let t0 = c.args.text.now.items in
    let f = λ (l : Located). pieces_of 0 (located_tree names l) in
    let lists = lined (n + 1) (map f b.patterns) in
    let filter = clause n (codes "WHERE") (pieces_of n (maybe (option_map (formula_tree names) b.filter))) in
    let r = c.write_clause.result in
    let end = c.write_clause.new.text.items in
    renamed_last r t0 (lists ++ filter) (pieces_of n (block_tree names c.args.block.now)) end (sym (block_pieces n names c.args.block.now))
    (then_last r t0 lists filter c.write_located_list.new.text.items end
    (c.in_ok-write_located_list.ensures ∙ ap (λ d. written t0 (lined d (map f c.as_slice.result.now))) c.in_ok-next.ensures ∙ ap (λ xs. written t0 (lined (n + 1) (map f xs))) c.as_slice.ensures) c.write_clause.ensures)

pub queries::write_enclosed-returns : goal.queries::write_enclosed-returns
queries::write_enclosed-returns t c =
    let n = c.args.depth in
    let names = c.args.names.now in
    let q = pieces_of (n + 1) (query_tree names c.args.query.now) in
    let t0 = c.args.text.now.items in
    let open_ = mark_piece mark.OpenParenthesis ∷ Line (n + 1) ∷ [] in
    let line = Line n ∷ [] in
    let front =
    c.in_ok-write_line.ensures ∙ ap (λ d. with_piece c.write_mark.new.text.items (Line d)) c.in_ok-next.ensures ∙ ap (λ t. with_piece t (Line (n + 1))) c.in_ok-write_mark.ensures in
    let inside = c.in_ok-write_query.ensures ∙ ap (λ d. written c.write_line.new.text.items (pieces_of d (query_tree names c.args.query.now))) c.in_ok-next.ensures in
    then_last c.write_mark-2.result t0 (mark_piece mark.OpenParenthesis ∷ Line (n + 1) ∷ (q ++ line)) (mark_piece mark.CloseParenthesis ∷ []) c.write_line-2.new.text.items c.write_mark-2.new.text.items
    (then t0 open_ (q ++ line) c.write_line.new.text.items c.write_line-2.new.text.items front
    (then c.write_line.new.text.items q line c.write_query.new.text.items c.write_line-2.new.text.items inside c.in_ok-write_line-2.ensures)) c.write_mark-2.ensures

pub queries::write_formula-returns : goal.queries::write_formula-returns
queries::write_formula-returns t c =
    renamed_last c.write_expr.result c.args.text.now.items _ (pieces_of c.args.depth (formula_tree c.args.names.now c.args.formula.now)) c.write_expr.new.text.items
    (sym (formula_pieces c.args.depth c.args.names.now c.args.formula.now)) c.write_expr.ensures

pub queries::write_head-returns-in_ok-write_clause-in-Path-2 : goal.queries::write_head-returns-in_ok-write_clause-in-Path-2
queries::write_head-returns-in_ok-write_clause-in-Path-2 t c =
    let n = c.args.depth in
    let names = c.args.names.now in
    let t0 = c.args.text.now.items in
    let p = c.in-Path in
    let next = c.in_ok-next-in-Path.ensures in
    let g = λ (x : pattern.Chain). flat_map (λ p. pieces_of 0 (pattern_tree names p)) x.parts in
    let start = word (codes "PATH") ∷ Blank ∷ word (name_of names p.name.sym) ∷ Blank ∷ mark_piece mark.Equals ∷ Blank ∷ [] in
    let filter = pieces_of n (maybe (option_map (formula_tree names) p.filter)) in
    let cost = pieces_of n (maybe (option_map (formula_tree names) p.cost)) in
    let chains = start ++ lined (n + 1) (map g p.chains) in
    let condition = clause (n + 1) (codes "WHERE") filter in
    let costs = clause (n + 1) (codes "COST") cost in
    let line = Line n ∷ [] in
    let r = c.write_line.result in
    let t1 = c.write_path.new.text.items in
    let t2 = c.write_clause.new.text.items in
    let t3 = c.write_clause-in-Path.new.text.items in
    let end = c.write_line.new.text.items in
    renamed_last r t0 (chains ++ (condition ++ (costs ++ line))) (pieces_of n (head_tree names c.args.head.now)) end
    (sym (path_pieces n names p.name p.chains p.filter p.cost) ∙ ap (λ (h : Head). pieces_of n (head_tree names h)) (sym p.is))
    (then_last r t0 chains (condition ++ (costs ++ line)) t1 end
    (c.in_ok-write_path-in-Path.ensures ∙ ap (λ d. written t0 (start ++ lined d (map g c.as_slice.result.now))) next ∙ ap (λ xs. written t0 (start ++ lined (n + 1) (map g xs))) c.as_slice.ensures)
    (then_last r t1 condition (costs ++ line) t2 end (c.in_ok-write_clause-in-Path.ensures ∙ ap (λ d. written t1 (clause d (codes "WHERE") filter)) next)
    (then_last r t2 costs line t3 end (c.in_ok-write_clause-in-Path-2.ensures ∙ ap (λ d. written t2 (clause d (codes "COST") cost)) next) c.write_line.ensures)))

pub queries::write_head-returns-in_ok-write_named_query-in-Graph : goal.queries::write_head-returns-in_ok-write_named_query-in-Graph
unfolding head_by query_by pieces_of
queries::write_head-returns-in_ok-write_named_query-in-Graph t c =
    let n = c.args.depth in
    let names = c.args.names.now in
    let t0 = c.args.text.now.items in
    let is : head_tree names c.args.head.now ≡ tree.GraphHead (named names c.in-Graph.name) (query_tree names c.in-Graph.query) = rw c.in-Graph.is (search (rules, the_lemmas)) in
    let front = word (codes "GRAPH") ∷ Blank ∷ [] in
    let inside = named_query n (named names c.in-Graph.name) (pieces_of (n + 1) (query_tree names c.in-Graph.query)) in
    let line = Line n ∷ [] in
    let r = c.write_line-in-Graph.result in
    let t2 = c.write_blank.new.text.items in
    let end = c.write_line-in-Graph.new.text.items in
    renamed_last r t0 (front ++ (inside ++ line)) (pieces_of n (head_tree names c.args.head.now)) end (sym (ap (pieces_of n) is))
    (then_last r t0 front (inside ++ line) t2 end (c.in_ok-write_blank-in-Graph.ensures ∙ ap (λ t. with_piece t Blank) c.in_ok-write_word-in-Graph.ensures)
    (then_last r t2 inside line c.write_named_query.new.text.items end c.in_ok-write_named_query-in-Graph.ensures c.write_line-in-Graph.ensures))

pub queries::write_optional-returns : goal.queries::write_optional-returns
queries::write_optional-returns t c =
    let n = c.args.depth in
    let names = c.args.names.now in
    let t0 = c.args.text.now.items in
    let o = c.args.optional.now in
    let front = Line n ∷ word (codes "OPTIONAL") ∷ Blank ∷ [] in
    let block = pieces_of n (block_tree names (out-OptionalBlock o).block) in
    let r = c.write_block.result in
    let end = c.write_block.new.text.items in
    let two = c.in_ok-write_word.ensures ∙ ap (λ t. with_piece t (word (codes "OPTIONAL"))) c.in_ok-write_line.ensures in
    renamed_last r t0 (front ++ block) (Line n ∷ pieces_of n (optional_tree names o)) end (sym (optional_pieces n names o))
    (then_last r t0 front block c.write_blank.new.text.items end (c.in_ok-write_blank.ensures ∙ ap (λ t. with_piece t Blank) two) c.write_block.ensures)

pub queries::enclosed_texts-loop-query-preserved : goal.queries::enclosed_texts-loop-query-preserved
queries::enclosed_texts-loop-query-preserved t c =
    let l = c.loop-query in
    let n = c.args.depth in
    let enc = λ (q : Query). enclosed n (pieces_of (n + 1) (query_tree c.args.names.now q)) in
    let xs = c.args.queries.now.items in
    let i = l.query-index in
    let x = c.query-item.result in
    let text : c.from_vec.result ≡ written [] (enc x) = c.from_vec.ensures ∙ c.in_ok-write_enclosed.ensures ∙ ap (λ o. written o (enc x)) c.new-own.ensures.items in
    let so_far : l.texts.items ≡ map (λ (q : Query). written [] (enc q)) (take i xs) = l.invariant ∙ mapped_twice (written []) enc (take i xs) in
    let read = c.query-item.is ∙ ap (λ qs. get_or qs i x) c.deref-query-items.ensures.value in
    let next : suc i ≡ i + 1 = omega arith in
    c.in_ok-push.ensures.items
    ∙ (λ j. so_far j ++ text j ∷ [])
    ∙ sym (take_turn (λ (q : Query). written [] (enc q)) xs i x (omega (arith, ap length c.deref-query-items.ensures.value)) read)
    ∙ ap (λ k. map (λ (q : Query). written [] (enc q)) (take k xs)) next
    ∙ sym (mapped_twice (written []) enc (take (i + 1) xs))

pub constructs::write_item-returns-in_ok-write_changes-in-Chain : goal.constructs::write_item-returns-in_ok-write_changes-in-Chain
constructs::write_item-returns-in_ok-write_changes-in-Chain t c =
    let n = c.args.depth in
    let names = c.args.names.now in
    let t0 = c.args.text.now.items in
    let p = c.in-Chain in
    let parts = flat_map (λ p. pieces_of n (part_tree names p)) p.parts.items in
    let changes = flat_map (λ x. Line (n + 1) ∷ pieces_of n (change_tree names x)) p.changes.items in
    let condition = pieces_of n (maybe (option_map (formula_tree names) p.when)) in
    let r = c.write_clause.result in
    let t1 = c.write_construct_parts.new.text.items in
    let t2 = c.write_changes.new.text.items in
    let end = c.write_clause.new.text.items in
    renamed_last r t0 (parts ++ (changes ++ clause (n + 1) (codes "WHEN") condition)) (pieces_of n (item_tree names c.args.item.now)) end
    (sym (chain_pieces n names p.parts p.changes p.when) ∙ ap (λ (x : Item). pieces_of n (item_tree names x)) (sym p.is))
    (then_last r t0 parts (changes ++ clause (n + 1) (codes "WHEN") condition) t1 end c.in_ok-write_construct_parts-in-Chain.ensures
    (then_last r t1 changes (clause (n + 1) (codes "WHEN") condition) t2 end c.in_ok-write_changes-in-Chain.ensures
    (renamed_last r t2 _ (clause (n + 1) (codes "WHEN") condition) end (ap (λ d. clause d (codes "WHEN") condition) c.in_ok-next-in-Chain.ensures) c.write_clause.ensures)))

pub constructs::write_construct_part-returns-in_ok-write_new_element-in-Node : goal.constructs::write_construct_part-returns-in_ok-write_new_element-in-Node
unfolding part_by new_element_by pieces_of
constructs::write_construct_part-returns-in_ok-write_new_element-in-Node t c =
    let n = c.args.depth in
    let names = c.args.names.now in
    let t0 = c.args.text.now.items in
    let is : part_tree names c.args.part.now ≡ tree.NewNode (new_element_tree names c.in-Node.element) = rw c.in-Node.is (search (rules, the_lemmas)) in
    let inside = pieces_of n (new_element_tree names c.in-Node.element) in
    let open_ = mark_piece mark.OpenParenthesis ∷ [] in
    let close = mark_piece mark.CloseParenthesis ∷ [] in
    let r = c.write_mark-in-Node.result in
    let end = c.write_mark-in-Node.new.text.items in
    renamed_last r t0 (open_ ++ (inside ++ close)) (pieces_of n (part_tree names c.args.part.now)) end (sym (ap (pieces_of n) is))
    (then_last r t0 open_ (inside ++ close) c.write_mark.new.text.items end c.in_ok-write_mark-in-Node.ensures
    (then_last r c.write_mark.new.text.items inside close c.write_new_element.new.text.items end c.in_ok-write_new_element-in-Node.ensures c.write_mark-in-Node.ensures))

pub constructs::write_construct_part-returns-in_ok-write_new_element-in-Edge : goal.constructs::write_construct_part-returns-in_ok-write_new_element-in-Edge
unfolding part_by new_element_by pieces_of
constructs::write_construct_part-returns-in_ok-write_new_element-in-Edge t c =
    let n = c.args.depth in
    let names = c.args.names.now in
    let t0 = c.args.text.now.items in
    let way = c.in-Edge.way in
    let is : part_tree names c.args.part.now ≡ tree.NewEdge way (new_element_tree names c.in-Edge.element) = rw c.in-Edge.is (search (rules, the_lemmas)) in
    let inside = pieces_of n (new_element_tree names c.in-Edge.element) in
    let r = c.write_edge_end.result in
    let end = c.write_edge_end.new.text.items in
    renamed_last r t0 (edge_start way ++ (inside ++ edge_end way)) (pieces_of n (part_tree names c.args.part.now)) end (sym (ap (pieces_of n) is))
    (then_last r t0 (edge_start way) (inside ++ edge_end way) c.write_edge_start.new.text.items end c.in_ok-write_edge_start-in-Edge.ensures
    (then_last r c.write_edge_start.new.text.items inside (edge_end way) c.write_new_element-in-Edge.new.text.items end c.in_ok-write_new_element-in-Edge.ensures c.write_edge_end.ensures))

pub constructs::write_construct_part-returns-in_ok-write_assigns-in-Stored : goal.constructs::write_construct_part-returns-in_ok-write_assigns-in-Stored
constructs::write_construct_part-returns-in_ok-write_assigns-in-Stored t c =
    let n = c.args.depth in
    let names = c.args.names.now in
    let t0 = c.args.text.now.items in
    let p = c.in-Stored in
    let name = word (name_of names p.name.sym) in
    let labels = flat_map label p.labels in
    let assigns = braced (map (λ a. pieces_of n (assign_tree names a)) p.assigns.items) in
    let front = mark_piece mark.AtSign ∷ name ∷ [] in
    let r = c.write_path_end.result in
    let t1 = c.write_path_start.new.text.items in
    let t3 = c.write_name.new.text.items in
    let t5 = c.write_assigns.new.text.items in
    let end = c.write_path_end.new.text.items in
    let named_at = c.in_ok-write_name-in-Stored.ensures ∙ ap (λ t. with_piece t name) c.in_ok-write_mark-in-Stored.ensures in
    renamed_last r t0 (path_start ++ ((front ++ (labels ++ assigns)) ++ path_end)) (pieces_of n (part_tree names c.args.part.now)) end
    (sym (stored_pieces n names p.token p.name p.labels p.assigns) ∙ ap (λ (x : ConstructPart). pieces_of n (part_tree names x)) (sym p.is))
    (then_last r t0 path_start ((front ++ (labels ++ assigns)) ++ path_end) t1 end c.in_ok-write_path_start-in-Stored.ensures
    (then_last r t1 (front ++ (labels ++ assigns)) path_end t5 end
    (then t1 front (labels ++ assigns) t3 t5 named_at (then t3 labels assigns c.write_labels.new.text.items t5 c.in_ok-write_labels-in-Stored.ensures c.in_ok-write_assigns-in-Stored.ensures))
    c.write_path_end.ensures))
