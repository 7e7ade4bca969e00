-- The readers of patterns are stuck only behind a beginning of one.
use Rattle.std.proofs.Common.{ℕ, [], ◌∷◌, codes}
use Rattle.gc_lex.specs.declared.token.Mark.TheVariants as mark
use Rattle.gc_grammar.specs.Words.{Lang, ◌∣◌, optional, many, name}
use Rattle.gc_grammar.specs.Patterns.{labels, property_use, property_uses, element, node, edge_of, edge, angled, count, reach, found, all, stored, pathbody, path, linked, vchain, chain, located}
use Rattle.gc_grammar.specs.Constructs.{in_slashes}
use Rattle.gc_parse_readers.specs.Kinds.{mark_kind, word_kind, number_kind, name_kind}
use Rattle.gc_parse_readers.specs.Readers.{Reader}
use Rattle.gc_parse_readers.specs.PatternReaders.{read_labels, read_label_groups, read_property_use, read_property_uses, read_name_if, read_element, read_node, read_edge_on, read_edge_back, read_edge_of, read_edge, read_angled, read_count, read_reach, read_cost_if, read_found, read_all, read_stored, read_pathbody, read_in_slashes, read_path, link_kinds, in_slashes_kinds, read_link, read_linked, read_vchain, read_chain, read_on_if, read_located}
use Rattle.gc_parse_readers.proofs.Beginnings.{Viable}
use Rattle.gc_parse_readers.proofs.RegexViable.{viable_regex}
use Rattle.gc_parse_readers.proofs.ViableParts.{viable_mark, viable_the_word, viable_word, viable_number, viable_name, viable_both, viable_made, viable_behind, viable_before, viable_either, viable_fork_second, viable_optional}
use Rattle.gc_parse_readers.proofs.ViableLists.{viable_many, viable_separated}

viable_labels : {j : ℕ} → Viable j labels (read_labels j)
unfolding read_labels
viable_labels = viable_behind (viable_mark mark.Colon) (viable_separated (mark_kind mark.Bar ∷ []) _ viable_word (viable_mark mark.Bar))

viable_label_groups : {j : ℕ} → Viable j (many labels) (read_label_groups j)
unfolding read_label_groups
viable_label_groups = viable_many (mark_kind mark.Colon ∷ []) _ viable_labels

viable_property_use : {j : ℕ} → Viable j property_use read_property_use
unfolding read_property_use
viable_property_use = viable_made (viable_both viable_word (viable_behind (viable_mark mark.Equals) viable_name))

viable_property_uses : {j : ℕ} → Viable j property_uses (read_property_uses j)
unfolding read_property_uses
viable_property_uses =
    viable_before
    (viable_behind (viable_mark mark.OpenBrace) (viable_separated (mark_kind mark.Comma ∷ []) _ viable_property_use (viable_mark mark.Comma)))
    (viable_mark mark.CloseBrace)

-- a name, if there is one
pub viable_name_if : {j : ℕ} → Viable j (optional name) read_name_if
unfolding read_name_if
viable_name_if = viable_optional (name_kind ∷ []) viable_name

viable_element : {j : ℕ} → Viable j element (read_element j)
unfolding read_element
viable_element =
    viable_made (viable_both viable_name_if (viable_both viable_label_groups (viable_optional (mark_kind mark.OpenBrace ∷ []) viable_property_uses)))

viable_node : {j : ℕ} → Viable j node (read_node j)
unfolding read_node
viable_node = viable_made (viable_before (viable_behind (viable_mark mark.OpenParenthesis) viable_element) (viable_mark mark.CloseParenthesis))

-- an edge with something between brackets
pub viable_edge_of : {j : ℕ} {A : Type 0} {L : Lang A} {p : Reader A} → Viable j L p → Viable j (edge_of L) (read_edge_of p)
unfolding read_edge_of read_edge_on read_edge_back
viable_edge_of inside =
    viable_either (mark_kind mark.Minus ∷ [])
    (viable_made
    (viable_both
    (viable_before
    (viable_before (viable_behind (viable_mark mark.Minus) (viable_behind (viable_mark mark.OpenBracket) inside)) (viable_mark mark.CloseBracket))
    (viable_mark mark.Minus))
    (viable_optional (mark_kind mark.Greater ∷ []) (viable_mark mark.Greater))))
    (viable_made
    (viable_before
    (viable_before
    (viable_behind (viable_mark mark.Less) (viable_behind (viable_mark mark.Minus) (viable_behind (viable_mark mark.OpenBracket) inside)))
    (viable_mark mark.CloseBracket))
    (viable_mark mark.Minus)))

viable_edge : {j : ℕ} → Viable j edge (read_edge j)
unfolding read_edge
viable_edge = viable_made (viable_edge_of viable_element)

viable_angled : {j : ℕ} → Viable j angled (read_angled j)
unfolding read_angled
viable_angled = viable_made (viable_before (viable_behind (viable_mark mark.Less) viable_regex) (viable_mark mark.Greater))

viable_count : {j : ℕ} → Viable j count read_count
unfolding read_count
viable_count = viable_made (viable_before viable_number (viable_the_word (codes "SHORTEST")))

viable_reach : {j : ℕ} → Viable j reach (read_reach j)
unfolding read_reach
viable_reach = viable_made viable_angled

viable_found : {j : ℕ} → Viable j found (read_found j)
unfolding read_found read_cost_if
viable_found =
    viable_made
    (viable_both (viable_optional (number_kind ∷ []) viable_count)
    (viable_both viable_name
    (viable_both viable_angled (viable_optional (word_kind (codes "COST") ∷ []) (viable_behind (viable_the_word (codes "COST")) viable_name)))))

viable_all : {j : ℕ} → Viable j all (read_all j)
unfolding read_all
viable_all = viable_made (viable_both (viable_behind (viable_the_word (codes "ALL")) viable_name) viable_angled)

viable_stored : {j : ℕ} → Viable j stored (read_stored j)
unfolding read_stored
viable_stored = viable_made (viable_both (viable_behind (viable_mark mark.AtSign) viable_name) viable_label_groups)

viable_pathbody : {j : ℕ} → Viable j pathbody (read_pathbody j)
unfolding read_pathbody
viable_pathbody =
    viable_either (mark_kind mark.Less ∷ []) viable_reach
    (viable_either (number_kind ∷ name_kind ∷ []) viable_found (viable_either (word_kind (codes "ALL") ∷ []) viable_all viable_stored))

-- what stands between slashes
pub viable_in_slashes : {j : ℕ} {A : Type 0} {L : Lang A} {p : Reader A} → Viable j L p → Viable j (in_slashes L) (read_in_slashes p)
unfolding read_in_slashes
viable_in_slashes inside =
    viable_before
    (viable_before
    (viable_before (viable_behind (viable_mark mark.Minus) (viable_behind (viable_mark mark.Slash) inside)) (viable_mark mark.Slash))
    (viable_mark mark.Minus))
    (viable_mark mark.Greater)

viable_path : {j : ℕ} → Viable j path (read_path j)
unfolding read_path
viable_path = viable_made (viable_in_slashes viable_pathbody)

viable_link : {j : ℕ} → Viable j (edge ∣ path) (read_link j)
unfolding read_link
viable_link = viable_fork_second in_slashes_kinds viable_edge viable_path

-- nodes with links between
pub viable_linked : {j : ℕ} (n : ℕ) {A : Type 0} {N : Lang A} {p : Reader A} {K : Lang A} {k : Reader A} → Viable j N p → Viable j K k
    → Viable j (linked N K) (read_linked link_kinds p k n)
unfolding read_linked
viable_linked n node link = viable_made (viable_both node (viable_many link_kinds _ (viable_both link node)))

pub viable_vchain : {j : ℕ} → Viable j vchain (read_vchain j)
unfolding read_vchain
viable_vchain = viable_linked _ viable_node viable_edge

viable_chain : {j : ℕ} → Viable j chain (read_chain j)
unfolding read_chain
viable_chain = viable_linked _ viable_node viable_link

pub viable_located : {j : ℕ} → Viable j located (read_located j)
unfolding read_located read_on_if
viable_located =
    viable_made (viable_both viable_chain (viable_optional (word_kind (codes "ON") ∷ []) (viable_behind (viable_the_word (codes "ON")) viable_name)))
