-- The readers of what a CONSTRUCT makes are stuck only behind a beginning of it.
use Rattle.std.proofs.Common.{ℕ, suc, [], ◌∷◌, codes}
use Rattle.gc_lex.specs.declared.token.Mark.TheVariants as mark
use Rattle.gc_grammar.specs.Words.{many, optional}
use Rattle.gc_grammar.specs.Expressions.{Inside}
use Rattle.gc_grammar.specs.Constructs.{gterm, assign, assigns, group, label, celement, cnode, new_edge, projected, new_stored, clink, cchain, sub, chain_item, item}
use Rattle.gc_parse_readers.specs.Kinds.{mark_kind, word_kind, name_kind}
use Rattle.gc_parse_readers.specs.ExpressionReaders.{Nested}
use Rattle.gc_parse_readers.specs.PatternReaders.{in_slashes_kinds}
use Rattle.gc_parse_readers.specs.ConstructReaders.{projected_kinds, property_kinds, read_group_term, read_assign, read_assigns, read_assigns_if, read_group, read_new_label, read_new_labels, read_celement, read_cnode, read_new_edge, read_projected, read_new_stored, read_new_path, read_clink, read_cchain, read_set_property, read_add_label, read_drop_property, read_drop_label, read_removal, read_sub, read_chain_item, read_item}
use Rattle.gc_parse_readers.proofs.Beginnings.{Viable}
use Rattle.gc_parse_readers.proofs.ExpressionViable.{InsideViable, viable_formula}
use Rattle.gc_parse_readers.proofs.PatternViable.{viable_name_if, viable_edge_of, viable_in_slashes, viable_linked}
use Rattle.gc_parse_readers.proofs.ViableParts.{viable_mark, viable_the_word, viable_word, viable_name, viable_both, viable_made, viable_behind, viable_before, viable_either, viable_fork, viable_fork_second, viable_optional}
use Rattle.gc_parse_readers.proofs.ViableLists.{viable_many, viable_separated}

viable_group_term : {j : ℕ} → Viable j gterm read_group_term
unfolding read_group_term
viable_group_term = viable_made (viable_both viable_name (viable_optional (mark_kind mark.Dot ∷ []) (viable_behind (viable_mark mark.Dot) viable_word)))

viable_assign : {j : ℕ} {L : Inside} {p : Nested} → InsideViable j L p → Viable (suc j) (assign L) (read_assign (suc j) p)
unfolding read_assign
viable_assign inside = viable_made (viable_both viable_word (viable_behind (viable_mark mark.Assign) (viable_formula inside)))

viable_assigns_if : {j : ℕ} {L : Inside} {p : Nested} → InsideViable j L p → Viable (suc j) (optional (assigns L)) (read_assigns_if (suc j) p)
unfolding read_assigns_if read_assigns
viable_assigns_if {j = j} inside =
    viable_optional (mark_kind mark.OpenBrace ∷ [])
    (viable_before
    (viable_behind (viable_mark mark.OpenBrace) (viable_separated (mark_kind mark.Comma ∷ []) (suc j) (viable_assign inside) (viable_mark mark.Comma)))
    (viable_mark mark.CloseBrace))

viable_group : {j : ℕ} → Viable j group (read_group j)
unfolding read_group
viable_group = viable_behind (viable_the_word (codes "GROUP")) (viable_separated (mark_kind mark.Comma ∷ []) _ viable_group_term (viable_mark mark.Comma))

viable_new_label : {j : ℕ} → Viable j label read_new_label
unfolding read_new_label
viable_new_label = viable_behind (viable_mark mark.Colon) viable_word

viable_new_labels : {j : ℕ} → Viable j (many label) (read_new_labels j)
unfolding read_new_labels
viable_new_labels = viable_many (mark_kind mark.Colon ∷ []) _ viable_new_label

viable_celement : {j : ℕ} {L : Inside} {p : Nested} → InsideViable j L p → Viable (suc j) (celement L) (read_celement (suc j) p)
unfolding read_celement
viable_celement inside =
    viable_made
    (viable_both viable_name_if
    (viable_both (viable_optional (mark_kind mark.Equals ∷ []) (viable_behind (viable_mark mark.Equals) viable_name))
    (viable_both (viable_optional (word_kind (codes "GROUP") ∷ []) viable_group) (viable_both viable_new_labels (viable_assigns_if inside)))))

viable_cnode : {j : ℕ} {L : Inside} {p : Nested} → InsideViable j L p → Viable (suc j) (cnode L) (read_cnode (suc j) p)
unfolding read_cnode
viable_cnode inside =
    viable_made (viable_before (viable_behind (viable_mark mark.OpenParenthesis) (viable_celement inside)) (viable_mark mark.CloseParenthesis))

viable_new_edge : {j : ℕ} {L : Inside} {p : Nested} → InsideViable j L p → Viable (suc j) (new_edge L) (read_new_edge (suc j) p)
unfolding read_new_edge
viable_new_edge inside = viable_made (viable_edge_of (viable_celement inside))

viable_projected : {j : ℕ} → Viable j projected read_projected
unfolding read_projected
viable_projected = viable_made (viable_in_slashes viable_name)

viable_new_stored : {j : ℕ} {L : Inside} {p : Nested} → InsideViable j L p → Viable (suc j) (new_stored L) (read_new_stored (suc j) p)
unfolding read_new_stored
viable_new_stored inside =
    viable_made
    (viable_in_slashes
    (viable_both (viable_behind (viable_mark mark.AtSign) viable_name) (viable_both viable_new_labels (viable_assigns_if inside))))

viable_clink : {j : ℕ} {L : Inside} {p : Nested} → InsideViable j L p → Viable (suc j) (clink L) (read_clink (suc j) p)
unfolding read_clink read_new_path
viable_clink inside = viable_fork_second in_slashes_kinds (viable_new_edge inside) (viable_fork projected_kinds viable_projected (viable_new_stored inside))

viable_cchain : {j : ℕ} {L : Inside} {p : Nested} → InsideViable j L p → Viable (suc j) (cchain L) (read_cchain (suc j) p)
unfolding read_cchain
viable_cchain inside = viable_linked _ (viable_cnode inside) (viable_clink inside)

-- a word, and a name behind it
viable_sub : {j : ℕ} {L : Inside} {p : Nested} → InsideViable j L p → Viable (suc j) (sub L) (read_sub (suc j) p)
unfolding read_sub read_set_property read_add_label read_removal read_drop_property read_drop_label
viable_sub inside =
    viable_fork (property_kinds (codes "SET"))
    (viable_made (viable_both (viable_behind (viable_the_word (codes "SET")) viable_name) (viable_behind (viable_mark mark.Dot) (viable_assign inside))))
    (viable_either (word_kind (codes "SET") ∷ [])
    (viable_made (viable_both (viable_behind (viable_the_word (codes "SET")) viable_name) viable_new_label))
    (viable_fork (property_kinds (codes "REMOVE"))
    (viable_made (viable_both (viable_behind (viable_the_word (codes "REMOVE")) viable_name) (viable_behind (viable_mark mark.Dot) viable_word)))
    (viable_made (viable_both (viable_behind (viable_the_word (codes "REMOVE")) viable_name) viable_new_label))))

viable_chain_item : {j : ℕ} {L : Inside} {p : Nested} → InsideViable j L p → Viable (suc j) (chain_item L) (read_chain_item (suc j) p)
unfolding read_chain_item
viable_chain_item {j = j} inside =
    viable_made
    (viable_both (viable_cchain inside)
    (viable_both (viable_many (word_kind (codes "SET") ∷ word_kind (codes "REMOVE") ∷ []) (suc j) (viable_sub inside))
    (viable_optional (word_kind (codes "WHEN") ∷ []) (viable_behind (viable_the_word (codes "WHEN")) (viable_formula inside)))))

pub viable_item : {j : ℕ} {L : Inside} {p : Nested} → InsideViable j L p → Viable (suc j) (item L) (read_item (suc j) p)
unfolding read_item
viable_item inside = viable_either (name_kind ∷ []) (viable_made viable_name) (viable_chain_item inside)
