-- The readers of patterns are right.
use Rattle.std.proofs.Common.{◌≡◌, refl, ℕ, true, false, List, [], ◌∷◌, codes}
use Rattle.gc_base.specs.declared.place.Direction.{Direction}
use Rattle.gc_base.specs.declared.place.Direction.TheVariants.{Backward}
use Rattle.gc_lex.specs.declared.token.Token.{Token}
use Rattle.gc_lex.specs.declared.token.Mark.TheVariants as mark
use Rattle.gc_grammar.specs.Words.{Point, Lang, ◌⋅◌, ◌⇒◌, ◌▸◌, ◌◂◌, ◌∣◌, optional, many, mark, the_word, name}
use Rattle.gc_parse_readers.specs.Kinds.{mark_kind, word_kind, number_kind, name_kind, any_word_kinds, apart}
use Rattle.gc_parse_readers.specs.Readers.{Reader, Reading, Got, Stuck}
use Rattle.gc_grammar.specs.Regexes.{Expression, regex, regex_within}
use Rattle.gc_grammar.specs.Patterns.{labels, property_use, property_uses, element, node, edge_of, edge, arrow, angled, count, reach, found, all, stored, pathbody, path, linked, vchain, chain, located}
use Rattle.gc_grammar.specs.Constructs.{in_slashes}
use Rattle.gc_parse_readers.specs.Right.{Sound, Right, Outline, one_of, both_of, optional_of}
use Rattle.gc_parse_readers.proofs.KindLaws.{apart_none}
use Rattle.gc_parse_readers.proofs.RightTokens.{right_mark, right_the_word, right_word, right_number}
use Rattle.gc_parse_readers.proofs.RightBoth.{right_name, right_both, right_made, right_behind, right_before}
use Rattle.gc_parse_readers.proofs.RightChoices.{right_either, right_optional}
use Rattle.gc_parse_readers.proofs.RightMany.{right_many, right_separated}
use Rattle.gc_parse_readers.proofs.RightFork.{Way, right_fork_second}
use Rattle.gc_parse_readers.proofs.Taken.{taken_mark}
use Rattle.gc_parse_readers.proofs.Ways.{way_last, way_not_last, way_made, way_both, way_before, way_token_behind}
use Rattle.gc_parse_readers.proofs.WayChoices.{way_either}
use Rattle.gc_parse_readers.specs.RegexReaders.{read_regex}
use Rattle.gc_parse_readers.specs.PatternReaders.{read_labels, read_label_groups, read_property_use, read_property_uses, read_name_if, read_element, read_node, read_edge_on, read_edge_back, read_edge_of, read_edge, read_angled, read_count, read_reach, read_cost_if, read_found, read_all, read_stored, read_pathbody, read_in_slashes, read_path, link_kinds, read_link, read_linked, read_vchain, read_chain, read_on_if, read_located}
use Rattle.gc_parse_readers.proofs.RegexRight.{regex_outline, right_regex}
use Rattle.gc_parse_readers.proofs.Outlines.{right_outlined, node_outline, link_outline, chain_outline, located_outline}

-- what is read of a regular path expression of some depth is one
some_sound : (j J : ℕ) (start : Point) (ts : List Token) (reading : Reading Expression)
    → Sound J (regex_within j) (read_regex J) start ts reading → Sound J regex (read_regex J) start ts reading
some_sound j J start ts (Got e end rest) found = record {
  used = found.used;
  whole = found.whole;
  place = found.place;
  spelled = (j, found.spelled);
  again = found.again;
}
some_sound j J start ts (Stuck place) refused = refused

-- regular path expressions
right_some_regex : (j J : ℕ) → Right j J regex regex (read_regex j) (read_regex J) regex_outline
right_some_regex j J = record {
  sound = λ start ts short. some_sound j J start ts (read_regex j start ts) ((right_regex j J 0).sound start ts short);
  complete = λ start end used rest e m. (right_regex j J m.0).complete start end used rest e m.1;
  opened = λ start end ts e l. (right_regex j J l.0).opened_by start end ts e l.1;
  opened_by = λ start end ts e m. (right_regex j J m.0).opened_by start end ts e m.1;
}

abbrev labels_outline : Outline
labels_outline = record { first = mark_kind mark.Colon ∷ []; empty = false; more = mark_kind mark.Bar ∷ [] }

right_labels : {j J : ℕ} → Right j J labels labels (read_labels j) (read_labels J) labels_outline
unfolding read_labels
right_labels =
    right_behind (right_mark mark.Colon)
    (right_separated (mark_kind mark.Bar ∷ []) refl refl refl refl refl refl right_word (right_mark mark.Bar)) refl

-- any number of label groups
right_label_groups : {j J : ℕ} → Right j J (many labels) (many labels) (read_label_groups j) (read_label_groups J) (optional_of labels_outline)
unfolding read_label_groups
right_label_groups = right_many (mark_kind mark.Colon ∷ []) refl refl refl refl right_labels

right_property_use : {j J : ℕ} → Right j J property_use property_use read_property_use read_property_use (one_of any_word_kinds)
unfolding read_property_use
right_property_use = right_made (right_both right_word (right_behind (right_mark mark.Equals) right_name refl) refl)

right_property_uses : {j J : ℕ} → Right j J property_uses property_uses (read_property_uses j) (read_property_uses J) (one_of (mark_kind mark.OpenBrace ∷ []))
unfolding read_property_uses
right_property_uses =
    right_before
    (right_behind (right_mark mark.OpenBrace)
    (right_separated (mark_kind mark.Comma ∷ []) refl refl refl refl refl refl right_property_use (right_mark mark.Comma)) refl)
    (right_mark mark.CloseBrace) refl

-- a name, if there is one
pub right_name_if : {j J : ℕ} → Right j J (optional name) (optional name) read_name_if read_name_if (optional_of (one_of (name_kind ∷ [])))
unfolding read_name_if
right_name_if = right_optional (name_kind ∷ []) refl refl refl right_name

abbrev element_outline : Outline
element_outline =
    both_of (optional_of (one_of (name_kind ∷ [])))
    (both_of (optional_of labels_outline) (optional_of (one_of (mark_kind mark.OpenBrace ∷ []))))

right_element : {j J : ℕ} → Right j J element element (read_element j) (read_element J) element_outline
unfolding read_element
right_element =
    right_made
    (right_both right_name_if
    (right_both right_label_groups (right_optional (mark_kind mark.OpenBrace ∷ []) refl refl refl right_property_uses) refl) refl)

right_node : {j J : ℕ} → Right j J node node (read_node j) (read_node J) node_outline
unfolding read_node
right_node = right_made (right_before (right_behind (right_mark mark.OpenParenthesis) right_element refl) (right_mark mark.CloseParenthesis) refl)

-- the two directions of an edge
abbrev edge_on : {A : Type 0} → Lang A → Lang (A × Direction)
edge_on inside =
    (mark mark.Minus ▸ mark mark.OpenBracket ▸ inside ◂ mark mark.CloseBracket ◂ mark mark.Minus ⋅ optional (mark mark.Greater))
    ⇒ λ n v. (v.0, arrow v.1)

abbrev edge_back : {A : Type 0} → Lang A → Lang (A × Direction)
edge_back inside =
    (mark mark.Less ▸ mark mark.Minus ▸ mark mark.OpenBracket ▸ inside ◂ mark mark.CloseBracket ◂ mark mark.Minus)
    ⇒ λ n v. (v, Backward)

right_edge_on : {j J : ℕ} {A : Type 0} {L M : Lang A} {p q : Reader A} {o : Outline}
    → apart (both_of (one_of (mark_kind mark.OpenBracket ∷ [])) o).more (mark_kind mark.CloseBracket ∷ []) ≡ true → Right j J L M p q o
    → Right j J (edge_on L) (edge_on M) (read_edge_on p) (read_edge_on q)
    (record { first = mark_kind mark.Minus ∷ []; empty = false; more = mark_kind mark.Greater ∷ [] })
unfolding read_edge_on
right_edge_on {o = o} c inside =
    right_made
    (right_both
    (right_before
    (right_before (right_behind (right_mark mark.Minus) (right_behind (right_mark mark.OpenBracket) inside (apart_none o.first)) refl) (right_mark mark.CloseBracket) c)
    (right_mark mark.Minus) refl)
    (right_optional (mark_kind mark.Greater ∷ []) refl refl refl (right_mark mark.Greater)) refl)

right_edge_back : {j J : ℕ} {A : Type 0} {L M : Lang A} {p q : Reader A} {o : Outline}
    → apart (both_of (one_of (mark_kind mark.OpenBracket ∷ [])) o).more (mark_kind mark.CloseBracket ∷ []) ≡ true → Right j J L M p q o
    → Right j J (edge_back L) (edge_back M) (read_edge_back p) (read_edge_back q) (one_of (mark_kind mark.Less ∷ []))
unfolding read_edge_back
right_edge_back {o = o} c inside =
    right_made
    (right_before
    (right_before
    (right_behind (right_mark mark.Less) (right_behind (right_mark mark.Minus) (right_behind (right_mark mark.OpenBracket) inside (apart_none o.first)) refl) refl)
    (right_mark mark.CloseBracket) c)
    (right_mark mark.Minus) refl)

-- an edge with something between brackets
pub right_edge_of : {j J : ℕ} {A : Type 0} {L M : Lang A} {p q : Reader A} {o : Outline}
    → apart (both_of (one_of (mark_kind mark.OpenBracket ∷ [])) o).more (mark_kind mark.CloseBracket ∷ []) ≡ true → Right j J L M p q o
    → Right j J (edge_of L) (edge_of M) (read_edge_of p) (read_edge_of q) link_outline
unfolding read_edge_of
right_edge_of c inside = right_either (mark_kind mark.Minus ∷ []) refl refl refl refl (right_edge_on c inside) (right_edge_back c inside)

-- it has no `/` behind `-`
pub way_edge_of : {j J : ℕ} {A : Type 0} {L M : Lang A} {p q : Reader A} {o : Outline}
    → apart (both_of (one_of (mark_kind mark.OpenBracket ∷ [])) o).more (mark_kind mark.CloseBracket ∷ []) ≡ true → Right j J L M p q o
    → Way j J ((mark_kind mark.Minus ∷ []) ∷ []) (mark_kind mark.Slash ∷ []) false (edge_of L) (edge_of M) (read_edge_of p)
unfolding read_edge_of read_edge_on
way_edge_of {o = o} c inside =
    way_either (mark_kind mark.Minus ∷ []) refl refl refl
    (way_made
    (way_both
    (way_before
    (way_before
    (way_token_behind refl (taken_mark mark.Minus) (right_mark mark.Minus)
    (way_not_last refl refl (right_behind (right_mark mark.OpenBracket) inside (apart_none o.first))))
    (right_mark mark.CloseBracket))
    (right_mark mark.Minus))
    (right_optional (mark_kind mark.Greater ∷ []) refl refl refl (right_mark mark.Greater))))
    (right_edge_back c inside)

right_edge : {j J : ℕ} → Right j J edge edge (read_edge j) (read_edge J) link_outline
unfolding read_edge
right_edge = right_made (right_edge_of refl right_element)

right_angled : {j J : ℕ} → Right j J angled angled (read_angled j) (read_angled J) (one_of (mark_kind mark.Less ∷ []))
unfolding read_angled
right_angled {j = j} {J = J} =
    right_made (right_before (right_behind (right_mark mark.Less) (right_some_regex j J) refl) (right_mark mark.Greater) refl)

right_count : {j J : ℕ} → Right j J count count read_count read_count (one_of (number_kind ∷ []))
unfolding read_count
right_count = right_made (right_before right_number (right_the_word (codes "SHORTEST")) refl)

right_reach : {j J : ℕ} → Right j J reach reach (read_reach j) (read_reach J) (one_of (mark_kind mark.Less ∷ []))
unfolding read_reach
right_reach = right_made right_angled

-- `COST` and a name, if they are there
right_cost_if : {j J : ℕ} → Right j J (optional (the_word (codes "COST") ▸ name)) (optional (the_word (codes "COST") ▸ name)) read_cost_if read_cost_if
    (optional_of (one_of (word_kind (codes "COST") ∷ [])))
unfolding read_cost_if
right_cost_if = right_optional (word_kind (codes "COST") ∷ []) refl refl refl (right_behind (right_the_word (codes "COST")) right_name refl)

right_found : {j J : ℕ} → Right j J found found (read_found j) (read_found J)
    (record { first = number_kind ∷ name_kind ∷ []; empty = false; more = word_kind (codes "COST") ∷ [] })
unfolding read_found
right_found =
    right_made
    (right_both (right_optional (number_kind ∷ []) refl refl refl right_count)
    (right_both right_name (right_both right_angled right_cost_if refl) refl) refl)

right_all : {j J : ℕ} → Right j J all all (read_all j) (read_all J) (one_of (word_kind (codes "ALL") ∷ []))
unfolding read_all
right_all = right_made (right_both (right_behind (right_the_word (codes "ALL")) right_name refl) right_angled refl)

right_stored : {j J : ℕ} → Right j J stored stored (read_stored j) (read_stored J)
    (record { first = mark_kind mark.AtSign ∷ []; empty = false; more = mark_kind mark.Colon ∷ mark_kind mark.Bar ∷ [] })
unfolding read_stored
right_stored = right_made (right_both (right_behind (right_mark mark.AtSign) right_name refl) right_label_groups refl)

abbrev pathbody_outline : Outline
pathbody_outline = record {
  first = mark_kind mark.Less ∷ number_kind ∷ name_kind ∷ word_kind (codes "ALL") ∷ mark_kind mark.AtSign ∷ [];
  empty = false;
  more = word_kind (codes "COST") ∷ mark_kind mark.Colon ∷ mark_kind mark.Bar ∷ [];
}

right_pathbody : {j J : ℕ} → Right j J pathbody pathbody (read_pathbody j) (read_pathbody J) pathbody_outline
unfolding read_pathbody
right_pathbody =
    right_either (mark_kind mark.Less ∷ []) refl refl refl refl right_reach
    (right_either (number_kind ∷ name_kind ∷ []) refl refl refl refl right_found
    (right_either (word_kind (codes "ALL") ∷ []) refl refl refl refl right_all right_stored))

-- what stands between slashes
pub right_in_slashes : {j J : ℕ} {A : Type 0} {L M : Lang A} {p q : Reader A} {o : Outline}
    → apart (both_of (one_of (mark_kind mark.Slash ∷ [])) o).more (mark_kind mark.Slash ∷ []) ≡ true → Right j J L M p q o
    → Right j J (in_slashes L) (in_slashes M) (read_in_slashes p) (read_in_slashes q) (one_of (mark_kind mark.Minus ∷ []))
unfolding read_in_slashes
right_in_slashes {o = o} c inside =
    right_before
    (right_before
    (right_before (right_behind (right_mark mark.Minus) (right_behind (right_mark mark.Slash) inside (apart_none o.first)) refl) (right_mark mark.Slash) c)
    (right_mark mark.Minus) refl)
    (right_mark mark.Greater) refl

-- it has a `/` behind `-`
pub way_in_slashes : {j J : ℕ} {A : Type 0} {L M : Lang A} {p q : Reader A} {o : Outline} → Right j J L M p q o
    → Way j J ((mark_kind mark.Minus ∷ []) ∷ []) (mark_kind mark.Slash ∷ []) true (in_slashes L) (in_slashes M) (read_in_slashes p)
unfolding read_in_slashes
way_in_slashes {o = o} inside =
    way_before
    (way_before
    (way_before
    (way_token_behind refl (taken_mark mark.Minus) (right_mark mark.Minus)
    (way_last refl refl (right_behind (right_mark mark.Slash) inside (apart_none o.first))))
    (right_mark mark.Slash))
    (right_mark mark.Minus))
    (right_mark mark.Greater)

right_path : {j J : ℕ} → Right j J path path (read_path j) (read_path J) (one_of (mark_kind mark.Minus ∷ []))
unfolding read_path
right_path = right_made (right_in_slashes refl right_pathbody)

right_link : {j J : ℕ} → Right j J (edge ∣ path) (edge ∣ path) (read_link j) (read_link J) link_outline
unfolding read_link read_edge read_path
right_link =
    right_outlined refl refl refl
    (right_fork_second ((mark_kind mark.Minus ∷ []) ∷ []) (mark_kind mark.Slash ∷ [])
    (way_made (way_edge_of refl right_element)) (way_made (way_in_slashes right_pathbody)) right_edge right_path)

-- nodes with links between
pub right_linked : {j J : ℕ} {A : Type 0} {N N' : Lang A} {n n' : Reader A} {K K' : Lang A} {k k' : Reader A}
    → Right j J N N' n n' node_outline → Right j J K K' k k' link_outline
    → Right j J (linked N K) (linked N' K') (read_linked link_kinds n k j) (read_linked link_kinds n' k' J) chain_outline
unfolding read_linked
right_linked node link = right_made (right_both node (right_many link_kinds refl refl refl refl (right_both link node refl)) refl)

pub right_vchain : {j J : ℕ} → Right j J vchain vchain (read_vchain j) (read_vchain J) chain_outline
unfolding read_vchain
right_vchain = right_linked right_node right_edge

right_chain : {j J : ℕ} → Right j J chain chain (read_chain j) (read_chain J) chain_outline
unfolding read_chain
right_chain = right_linked right_node right_link

pub right_located : {j J : ℕ} → Right j J located located (read_located j) (read_located J) located_outline
unfolding read_located read_on_if
right_located =
    right_made
    (right_both right_chain
    (right_optional (word_kind (codes "ON") ∷ []) refl refl refl (right_behind (right_the_word (codes "ON")) right_name refl)) refl)
