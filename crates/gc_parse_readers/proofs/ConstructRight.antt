-- The readers of what a CONSTRUCT makes are right.
use Rattle.std.proofs.Common.{refl, ℕ, suc, Bool, true, false, List, [], ◌∷◌, codes, Option}
use Rattle.gc_lex.specs.declared.token.Mark.TheVariants as mark
use Rattle.gc_ast.specs.Trees as tree
use Rattle.gc_ast.specs.Trees.{Tree, AChange, AnAssign}
use Rattle.gc_grammar.specs.Words.{Lang, ◌⋅◌, ◌⇒◌, ◌▸◌, ◌∣◌, optional, many, mark, the_word, word, name}
use Rattle.gc_parse_readers.specs.Kinds.{mark_kind, word_kind, name_kind, any_word_kinds}
use Rattle.gc_parse_readers.specs.Readers.{Reader, read_both, read_behind, read_mark, read_name}
use Rattle.gc_grammar.specs.Expressions.{Inside}
use Rattle.gc_grammar.specs.Constructs.{gterm, assign, assigns, group, label, celement, cnode, new_edge, in_slashes, projected, new_stored, clink, cchain, sub, chain_item, item}
use Rattle.gc_parse_readers.specs.Right.{Right, Outline, one_of, optional_of}
use Rattle.gc_parse_readers.proofs.RightTokens.{right_mark, right_the_word, right_word}
use Rattle.gc_parse_readers.proofs.RightBoth.{right_name, right_both, right_made, right_behind, right_before}
use Rattle.gc_parse_readers.proofs.RightChoices.{right_either, right_optional}
use Rattle.gc_parse_readers.proofs.RightMany.{right_many, right_separated}
use Rattle.gc_parse_readers.proofs.RightFork.{Way, right_fork, right_fork_second}
use Rattle.gc_parse_readers.proofs.Taken.{taken_mark, taken_the_word, taken_name}
use Rattle.gc_parse_readers.proofs.Ways.{way_last, way_not_last, way_made, way_before, way_token_behind, way_two_tokens}
use Rattle.gc_parse_readers.proofs.WayChoices.{way_either, way_fork}
use Rattle.gc_parse_readers.specs.ExpressionReaders.{Nested}
use Rattle.gc_parse_readers.specs.PatternReaders.{read_in_slashes}
use Rattle.gc_parse_readers.specs.ConstructReaders.{read_group_term, read_assign, read_assigns, read_assigns_if, read_group, read_new_label, read_new_labels, read_celement, read_cnode, read_new_edge, read_projected, read_new_stored, projected_kinds, read_new_path, read_clink, read_cchain, read_set_property, read_add_label, read_drop_property, read_drop_label, read_removal, read_sub, read_chain_item, read_item}
use Rattle.gc_parse_readers.proofs.Outlines.{right_outlined, expr_more, node_outline, link_outline, chain_outline, item_more, item_outline, InsideRight}
use Rattle.gc_parse_readers.proofs.ExpressionRight.{right_formula}
use Rattle.gc_parse_readers.proofs.PatternRight.{right_name_if, right_edge_of, way_edge_of, right_in_slashes, way_in_slashes, right_linked}

abbrev group_term_outline : Outline
group_term_outline = record { first = name_kind ∷ []; empty = false; more = mark_kind mark.Dot ∷ [] }

right_group_term : {j J : ℕ} → Right j J gterm gterm read_group_term read_group_term group_term_outline
unfolding read_group_term
right_group_term =
    right_made
    (right_both right_name (right_optional (mark_kind mark.Dot ∷ []) refl refl refl (right_behind (right_mark mark.Dot) right_word refl)) refl)

right_assign : {j J : ℕ} {L M : Inside} {p q : Nested} → InsideRight j J L M p q
    → Right (suc j) (suc J) (assign L) (assign M) (read_assign (suc j) p) (read_assign (suc J) q)
    (record { first = any_word_kinds; empty = false; more = expr_more })
unfolding read_assign
right_assign inside = right_made (right_both right_word (right_behind (right_mark mark.Assign) (right_formula inside) refl) refl)

right_assigns : {j J : ℕ} {L M : Inside} {p q : Nested} → InsideRight j J L M p q
    → Right (suc j) (suc J) (assigns L) (assigns M) (read_assigns (suc j) p) (read_assigns (suc J) q) (one_of (mark_kind mark.OpenBrace ∷ []))
unfolding read_assigns
right_assigns inside =
    right_before
    (right_behind (right_mark mark.OpenBrace)
    (right_separated (mark_kind mark.Comma ∷ []) refl refl refl refl refl refl (right_assign inside) (right_mark mark.Comma)) refl)
    (right_mark mark.CloseBrace) refl

-- assignments between braces, if they are there
right_assigns_if : {j J : ℕ} {L M : Inside} {p q : Nested} → InsideRight j J L M p q
    → Right (suc j) (suc J) (optional (assigns L)) (optional (assigns M)) (read_assigns_if (suc j) p) (read_assigns_if (suc J) q)
    (optional_of (one_of (mark_kind mark.OpenBrace ∷ [])))
unfolding read_assigns_if
right_assigns_if inside = right_optional (mark_kind mark.OpenBrace ∷ []) refl refl refl (right_assigns inside)

right_group : {j J : ℕ} → Right j J group group (read_group j) (read_group J)
    (record { first = word_kind (codes "GROUP") ∷ []; empty = false; more = mark_kind mark.Dot ∷ mark_kind mark.Comma ∷ [] })
unfolding read_group
right_group =
    right_outlined refl refl refl
    (right_behind (right_the_word (codes "GROUP"))
    (right_separated (mark_kind mark.Comma ∷ []) refl refl refl refl refl refl right_group_term (right_mark mark.Comma)) refl)

right_new_label : {j J : ℕ} → Right j J label label read_new_label read_new_label (one_of (mark_kind mark.Colon ∷ []))
unfolding read_new_label
right_new_label = right_behind (right_mark mark.Colon) right_word refl

right_new_labels : {j J : ℕ} → Right j J (many label) (many label) (read_new_labels j) (read_new_labels J) (optional_of (one_of (mark_kind mark.Colon ∷ [])))
unfolding read_new_labels
right_new_labels = right_many (mark_kind mark.Colon ∷ []) refl refl refl refl right_new_label

abbrev celement_outline : Outline
celement_outline = record {
  first = name_kind ∷ mark_kind mark.Equals ∷ word_kind (codes "GROUP") ∷ mark_kind mark.Colon ∷ mark_kind mark.OpenBrace ∷ [];
  empty = true;
  more =
      name_kind ∷ mark_kind mark.Equals ∷ word_kind (codes "GROUP") ∷ mark_kind mark.Dot ∷ mark_kind mark.Comma
      ∷ mark_kind mark.Colon ∷ mark_kind mark.OpenBrace ∷ [];
}

right_celement : {j J : ℕ} {L M : Inside} {p q : Nested} → InsideRight j J L M p q
    → Right (suc j) (suc J) (celement L) (celement M) (read_celement (suc j) p) (read_celement (suc J) q) celement_outline
unfolding read_celement
right_celement inside =
    right_made
    (right_both right_name_if
    (right_both (right_optional (mark_kind mark.Equals ∷ []) refl refl refl (right_behind (right_mark mark.Equals) right_name refl))
    (right_both (right_optional (word_kind (codes "GROUP") ∷ []) refl refl refl right_group)
    (right_both right_new_labels (right_assigns_if inside) refl) refl) refl) refl)

right_cnode : {j J : ℕ} {L M : Inside} {p q : Nested} → InsideRight j J L M p q
    → Right (suc j) (suc J) (cnode L) (cnode M) (read_cnode (suc j) p) (read_cnode (suc J) q) node_outline
unfolding read_cnode
right_cnode inside =
    right_made
    (right_before (right_behind (right_mark mark.OpenParenthesis) (right_celement inside) refl) (right_mark mark.CloseParenthesis) refl)

right_new_edge : {j J : ℕ} {L M : Inside} {p q : Nested} → InsideRight j J L M p q
    → Right (suc j) (suc J) (new_edge L) (new_edge M) (read_new_edge (suc j) p) (read_new_edge (suc J) q) link_outline
unfolding read_new_edge
right_new_edge inside = right_made (right_edge_of refl (right_celement inside))

right_projected : {j J : ℕ} → Right j J projected projected read_projected read_projected (one_of (mark_kind mark.Minus ∷ []))
unfolding read_projected
right_projected = right_made (right_in_slashes refl right_name)

-- `@` name { `:` word } [ assigns ]
abbrev new_stored_body : Inside → Lang (tree.Named × (List (List ℕ) × Option (List (Tree AnAssign))))
new_stored_body inside = mark mark.AtSign ▸ name ⋅ many label ⋅ optional (assigns inside)

abbrev read_new_stored_body : ℕ → Nested → Reader (tree.Named × (List (List ℕ) × Option (List (Tree AnAssign))))
read_new_stored_body room inside =
    read_both (read_behind (read_mark mark.AtSign) read_name) (read_both (read_new_labels room) (read_assigns_if room inside))

right_new_stored_body : {j J : ℕ} {L M : Inside} {p q : Nested} → InsideRight j J L M p q
    → Right (suc j) (suc J) (new_stored_body L) (new_stored_body M) (read_new_stored_body (suc j) p) (read_new_stored_body (suc J) q)
    (record { first = mark_kind mark.AtSign ∷ []; empty = false; more = mark_kind mark.Colon ∷ mark_kind mark.OpenBrace ∷ [] })
right_new_stored_body inside =
    right_both (right_behind (right_mark mark.AtSign) right_name refl) (right_both right_new_labels (right_assigns_if inside) refl) refl

right_new_stored : {j J : ℕ} {L M : Inside} {p q : Nested} → InsideRight j J L M p q
    → Right (suc j) (suc J) (new_stored L) (new_stored M) (read_new_stored (suc j) p) (read_new_stored (suc J) q) (one_of (mark_kind mark.Minus ∷ []))
unfolding read_new_stored
right_new_stored inside = right_made (right_in_slashes refl (right_new_stored_body inside))

-- what tells a projected path from a new stored one is behind `-` `/`
way_behind_slash : {j J : ℕ} {last : List ℕ} {does : Bool} {A : Type 0} {L M : Lang A} {p : Reader A} → Way j J [] last does L M p
    → Way j J ((mark_kind mark.Minus ∷ []) ∷ (mark_kind mark.Slash ∷ []) ∷ []) last does (in_slashes L) (in_slashes M) (read_in_slashes p)
unfolding read_in_slashes
way_behind_slash way =
    way_before
    (way_before
    (way_before
    (way_token_behind refl (taken_mark mark.Minus) (right_mark mark.Minus)
    (way_token_behind refl (taken_mark mark.Slash) (right_mark mark.Slash) way))
    (right_mark mark.Slash))
    (right_mark mark.Minus))
    (right_mark mark.Greater)

right_new_path : {j J : ℕ} {L M : Inside} {p q : Nested} → InsideRight j J L M p q
    → Right (suc j) (suc J) (projected ∣ new_stored L) (projected ∣ new_stored M) (read_new_path (suc j) p) (read_new_path (suc J) q)
    (one_of (mark_kind mark.Minus ∷ []))
unfolding read_new_path read_projected read_new_stored
right_new_path inside =
    right_outlined refl refl refl
    (right_fork ((mark_kind mark.Minus ∷ []) ∷ (mark_kind mark.Slash ∷ []) ∷ []) (name_kind ∷ [])
    (way_made (way_behind_slash (way_last refl refl right_name)))
    (way_made (way_behind_slash (way_not_last refl refl (right_new_stored_body inside)))) right_projected (right_new_stored inside))

right_clink : {j J : ℕ} {L M : Inside} {p q : Nested} → InsideRight j J L M p q
    → Right (suc j) (suc J) (clink L) (clink M) (read_clink (suc j) p) (read_clink (suc J) q) link_outline
unfolding read_clink read_new_edge read_new_path read_projected read_new_stored
right_clink inside =
    right_outlined refl refl refl
    (right_fork_second ((mark_kind mark.Minus ∷ []) ∷ []) (mark_kind mark.Slash ∷ [])
    (way_made (way_edge_of refl (right_celement inside)))
    (way_fork projected_kinds (way_made (way_in_slashes right_name)) (way_made (way_in_slashes (right_new_stored_body inside))))
    (right_new_edge inside) (right_new_path inside))

right_cchain : {j J : ℕ} {L M : Inside} {p q : Nested} → InsideRight j J L M p q
    → Right (suc j) (suc J) (cchain L) (cchain M) (read_cchain (suc j) p) (read_cchain (suc J) q) chain_outline
unfolding read_cchain
right_cchain inside = right_linked (right_cnode inside) (right_clink inside)

-- the four changes
abbrev set_property : Inside → Lang (Tree AChange)
set_property inside = (the_word (codes "SET") ▸ name ⋅ mark mark.Dot ▸ assign inside) ⇒ λ n v. tree.SetProperty v.0 v.1

abbrev add_label : Lang (Tree AChange)
add_label = (the_word (codes "SET") ▸ name ⋅ label) ⇒ λ n v. tree.AddLabel v.0 v.1

abbrev drop_property : Lang (Tree AChange)
drop_property = (the_word (codes "REMOVE") ▸ name ⋅ mark mark.Dot ▸ word) ⇒ λ n v. tree.DropProperty v.0 v.1

abbrev drop_label : Lang (Tree AChange)
drop_label = (the_word (codes "REMOVE") ▸ name ⋅ label) ⇒ λ n v. tree.DropLabel v.0 v.1

-- a word and a name, behind which `.` tells a property from a label
abbrev before_dot : List ℕ → List (List ℕ)
before_dot word = (word_kind word ∷ []) ∷ (name_kind ∷ []) ∷ []

right_set_property : {j J : ℕ} {L M : Inside} {p q : Nested} → InsideRight j J L M p q
    → Right (suc j) (suc J) (set_property L) (set_property M) (read_set_property (suc j) p) (read_set_property (suc J) q)
    (record { first = word_kind (codes "SET") ∷ []; empty = false; more = expr_more })
unfolding read_set_property
right_set_property inside =
    right_made
    (right_both (right_behind (right_the_word (codes "SET")) right_name refl) (right_behind (right_mark mark.Dot) (right_assign inside) refl) refl)

way_set_property : {j J : ℕ} {L M : Inside} {p q : Nested} → InsideRight j J L M p q
    → Way (suc j) (suc J) (before_dot (codes "SET")) (mark_kind mark.Dot ∷ []) true (set_property L) (set_property M) (read_set_property (suc j) p)
unfolding read_set_property
way_set_property inside =
    way_made
    (way_two_tokens refl refl (taken_the_word (codes "SET") refl) (right_the_word (codes "SET")) taken_name right_name
    (way_last refl refl (right_behind (right_mark mark.Dot) (right_assign inside) refl)))

right_add_label : {j J : ℕ} → Right j J add_label add_label read_add_label read_add_label (one_of (word_kind (codes "SET") ∷ []))
unfolding read_add_label
right_add_label = right_made (right_both (right_behind (right_the_word (codes "SET")) right_name refl) right_new_label refl)

way_add_label : {j J : ℕ} → Way j J (before_dot (codes "SET")) (mark_kind mark.Dot ∷ []) false add_label add_label read_add_label
unfolding read_add_label
way_add_label =
    way_made
    (way_two_tokens refl refl (taken_the_word (codes "SET") refl) (right_the_word (codes "SET")) taken_name right_name
    (way_not_last refl refl right_new_label))

right_drop_property : {j J : ℕ} → Right j J drop_property drop_property read_drop_property read_drop_property (one_of (word_kind (codes "REMOVE") ∷ []))
unfolding read_drop_property
right_drop_property =
    right_made
    (right_both (right_behind (right_the_word (codes "REMOVE")) right_name refl) (right_behind (right_mark mark.Dot) right_word refl) refl)

way_drop_property : {j J : ℕ} → Way j J (before_dot (codes "REMOVE")) (mark_kind mark.Dot ∷ []) true drop_property drop_property read_drop_property
unfolding read_drop_property
way_drop_property =
    way_made
    (way_two_tokens refl refl (taken_the_word (codes "REMOVE") refl) (right_the_word (codes "REMOVE")) taken_name right_name
    (way_last refl refl (right_behind (right_mark mark.Dot) right_word refl)))

right_drop_label : {j J : ℕ} → Right j J drop_label drop_label read_drop_label read_drop_label (one_of (word_kind (codes "REMOVE") ∷ []))
unfolding read_drop_label
right_drop_label = right_made (right_both (right_behind (right_the_word (codes "REMOVE")) right_name refl) right_new_label refl)

way_drop_label : {j J : ℕ} → Way j J (before_dot (codes "REMOVE")) (mark_kind mark.Dot ∷ []) false drop_label drop_label read_drop_label
unfolding read_drop_label
way_drop_label =
    way_made
    (way_two_tokens refl refl (taken_the_word (codes "REMOVE") refl) (right_the_word (codes "REMOVE")) taken_name right_name
    (way_not_last refl refl right_new_label))

right_removal : {j J : ℕ} → Right j J (drop_property ∣ drop_label) (drop_property ∣ drop_label) read_removal read_removal
    (one_of (word_kind (codes "REMOVE") ∷ []))
unfolding read_removal
right_removal =
    right_outlined refl refl refl
    (right_fork (before_dot (codes "REMOVE")) (mark_kind mark.Dot ∷ []) way_drop_property way_drop_label right_drop_property right_drop_label)

abbrev sub_outline : Outline
sub_outline = record { first = word_kind (codes "SET") ∷ word_kind (codes "REMOVE") ∷ []; empty = false; more = expr_more }

right_sub : {j J : ℕ} {L M : Inside} {p q : Nested} → InsideRight j J L M p q
    → Right (suc j) (suc J) (sub L) (sub M) (read_sub (suc j) p) (read_sub (suc J) q) sub_outline
unfolding read_sub
right_sub inside =
    right_outlined refl refl refl
    (right_fork (before_dot (codes "SET")) (mark_kind mark.Dot ∷ []) (way_set_property inside)
    (way_either (word_kind (codes "SET") ∷ []) refl refl refl way_add_label right_removal) (right_set_property inside)
    (right_either (word_kind (codes "SET") ∷ []) refl refl refl refl right_add_label right_removal))

right_chain_item : {j J : ℕ} {L M : Inside} {p q : Nested} → InsideRight j J L M p q
    → Right (suc j) (suc J) (chain_item L) (chain_item M) (read_chain_item (suc j) p) (read_chain_item (suc J) q)
    (record { first = mark_kind mark.OpenParenthesis ∷ []; empty = false; more = item_more })
unfolding read_chain_item
right_chain_item inside =
    right_outlined refl refl refl
    (right_made
    (right_both (right_cchain inside)
    (right_both (right_many (word_kind (codes "SET") ∷ word_kind (codes "REMOVE") ∷ []) refl refl refl refl (right_sub inside))
    (right_optional (word_kind (codes "WHEN") ∷ []) refl refl refl (right_behind (right_the_word (codes "WHEN")) (right_formula inside) refl)) refl)
    refl))

-- what a CONSTRUCT makes
pub right_item : {j J : ℕ} {L M : Inside} {p q : Nested} → InsideRight j J L M p q
    → Right (suc j) (suc J) (item L) (item M) (read_item (suc j) p) (read_item (suc J) q) item_outline
unfolding read_item
right_item inside = right_either (name_kind ∷ []) refl refl refl refl (right_made right_name) (right_chain_item inside)
