use Rattle.std.proofs.Common.{◌≡◌, ◌+◌, ◌∷◌, [], map, drop, take}
use Rattle.std.specs.List.{flat_map}
use Rattle.gc_lex.specs.declared.token.Mark.TheVariants as mark
use Rattle.gc_ast.specs.QueryViews.{assign_tree, change_tree, head_tree, item_tree, next_term_tree, optional_tree, part_tree, query_tree}
use Rattle.gc_print_query.specs.Pieces.{Blank, Line, joined, written}
use Rattle.gc_print_query.specs.ExpressionPieces.{mark_piece}
use Rattle.gc_print_query.specs.QueryPieces.{enclosed, pieces_of}
use Rattle.gc_print_query.proofs.WrittenPieces.{joined_from}
use Rattle.gc_print_query.proofs.+queries.Given as goal

-- what is written and what is left make the whole
abbrev pub invariant-queries::write_heads-loop-head : goal.invariant-queries::write_heads-loop-head
invariant-queries::write_heads-loop-head l =
    written l.text.items (flat_map (λ h. pieces_of l.depth (head_tree l.names h)) (drop l.head-index l.heads.items)) ≡ written l.fn.text.items (flat_map (λ h. pieces_of l.depth (head_tree l.names h)) l.heads.items)

abbrev pub invariant-queries::write_rest-loop-next : goal.invariant-queries::write_rest-loop-next
invariant-queries::write_rest-loop-next l =
    written l.text.items (flat_map (λ t. pieces_of l.depth (next_term_tree l.names t)) (drop l.next-index l.rest.items)) ≡ written l.fn.text.items (flat_map (λ t. pieces_of l.depth (next_term_tree l.names t)) l.rest.items)

abbrev pub invariant-queries::write_optionals-loop-optional : goal.invariant-queries::write_optionals-loop-optional
invariant-queries::write_optionals-loop-optional l =
    written l.text.items (flat_map (λ o. Line l.depth ∷ pieces_of l.depth (optional_tree l.names o)) (drop l.optional-index l.optionals.items))
    ≡ written l.fn.text.items (flat_map (λ o. Line l.depth ∷ pieces_of l.depth (optional_tree l.names o)) l.optionals.items)

abbrev pub invariant-constructs::write_construct_parts-loop-part : goal.invariant-constructs::write_construct_parts-loop-part
invariant-constructs::write_construct_parts-loop-part l =
    written l.text.items (flat_map (λ p. pieces_of l.depth (part_tree l.names p)) (drop l.part-index l.parts.items)) ≡ written l.fn.text.items (flat_map (λ p. pieces_of l.depth (part_tree l.names p)) l.parts.items)

abbrev pub invariant-constructs::write_changes-loop-change : goal.invariant-constructs::write_changes-loop-change
invariant-constructs::write_changes-loop-change l =
    written l.text.items (flat_map (λ c. Line (l.depth + 1) ∷ pieces_of l.depth (change_tree l.names c)) (drop l.change-index l.changes.items))
    ≡ written l.fn.text.items (flat_map (λ c. Line (l.depth + 1) ∷ pieces_of l.depth (change_tree l.names c)) l.changes.items)

abbrev pub invariant-constructs::write_items-loop-i : goal.invariant-constructs::write_items-loop-i
invariant-constructs::write_items-loop-i l =
    written l.text.items (joined_from l.i (mark_piece mark.Comma ∷ Line (l.depth + 1) ∷ []) (map (λ x. pieces_of l.depth (item_tree l.names x)) (drop l.i l.items.items)))
    ≡ written l.fn.text.items (joined (mark_piece mark.Comma ∷ Line (l.depth + 1) ∷ []) (map (λ x. pieces_of l.depth (item_tree l.names x)) l.items.items))

abbrev pub invariant-constructs::write_assign_list-loop-i : goal.invariant-constructs::write_assign_list-loop-i
invariant-constructs::write_assign_list-loop-i l =
    written l.text.items (joined_from l.i (mark_piece mark.Comma ∷ Blank ∷ []) (map (λ a. pieces_of l.depth (assign_tree l.names a)) (drop l.i l.assigns.items)))
    ≡ written l.fn.text.items (joined (mark_piece mark.Comma ∷ Blank ∷ []) (map (λ a. pieces_of l.depth (assign_tree l.names a)) l.assigns.items))

-- the texts of the queries so far
abbrev pub invariant-queries::enclosed_texts-loop-query : goal.invariant-queries::enclosed_texts-loop-query
invariant-queries::enclosed_texts-loop-query l =
    l.texts.items ≡ map (written []) (map (λ query. enclosed l.depth (pieces_of (l.depth + 1) (query_tree l.names query))) (take l.query-index l.queries.items))
