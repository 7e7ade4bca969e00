-- The readers of patterns, a production each, in the words of the grammar's readers. The room is more
-- than the number of tokens.
use Rattle.std.specs.Prelude.{ℕ, List, [], ◌∷◌, codes, Option}
use Rattle.gc_base.specs.declared.place.Direction.{Direction}
use Rattle.gc_base.specs.declared.place.Direction.TheVariants.{Backward}
use Rattle.gc_lex.specs.declared.token.Mark.TheVariants as mark
use Rattle.gc_ast.specs.declared.pattern.CountAt.{CountAt}
use Rattle.gc_ast.specs.Trees as tree
use Rattle.gc_ast.specs.Trees.{Tree, APropertyUse, APattern, APathBody, ALocated, Named, row}
use Rattle.gc_parse_readers.specs.Kinds.{mark_kind, word_kind, number_kind, name_kind}
use Rattle.gc_parse_readers.specs.Readers.{Reader, read_both, read_made, read_behind, read_before, read_either, read_fork, read_optional, read_many, read_separated, read_mark, read_the_word, read_word, read_number, read_name}
use Rattle.gc_grammar.specs.Regexes.{Expression}
use Rattle.gc_grammar.specs.Patterns.{Unplaced, placed, listed, arrow, in_turn}
use Rattle.gc_parse_readers.specs.RegexReaders.{read_regex}

unfoldable pub read_labels : ℕ → Reader (List (List ℕ))
read_labels room = read_behind (read_mark mark.Colon) (read_separated (mark_kind mark.Bar ∷ []) read_word (read_mark mark.Bar) room)

-- any number of label groups
unfoldable pub read_label_groups : ℕ → Reader (List (List (List ℕ)))
read_label_groups room = read_many (mark_kind mark.Colon ∷ []) (read_labels room) room

unfoldable pub read_property_use : Reader (Tree APropertyUse)
read_property_use =
    read_made (read_both read_word (read_behind (read_mark mark.Equals) read_name)) λ n v. tree.PropertyUse n v.0 v.1

unfoldable pub read_property_uses : ℕ → Reader (List (Tree APropertyUse))
read_property_uses room =
    read_before
    (read_behind (read_mark mark.OpenBrace) (read_separated (mark_kind mark.Comma ∷ []) read_property_use (read_mark mark.Comma) room))
    (read_mark mark.CloseBrace)

-- a name, if there is one
unfoldable pub read_name_if : Reader (Option Named)
read_name_if = read_optional (name_kind ∷ []) read_name

unfoldable pub read_element : ℕ → Reader Unplaced
read_element room =
    read_made
    (read_both read_name_if
    (read_both (read_label_groups room)
    (read_optional (mark_kind mark.OpenBrace ∷ []) (read_property_uses room))))
    λ n v. record { name = v.0; labels = v.1.0; properties = listed v.1.1 }

unfoldable pub read_node : ℕ → Reader (Tree APattern)
read_node room =
    read_made (read_before (read_behind (read_mark mark.OpenParenthesis) (read_element room)) (read_mark mark.CloseParenthesis))
    λ n v. tree.Node (placed n v)

-- `-` `[` inside `]` `-` [ `>` ]
unfoldable pub read_edge_on : {A : Type 0} → Reader A → Reader (A × Direction)
read_edge_on inside =
    read_made
    (read_both
    (read_before
    (read_before
    (read_behind (read_mark mark.Minus) (read_behind (read_mark mark.OpenBracket) inside))
    (read_mark mark.CloseBracket))
    (read_mark mark.Minus))
    (read_optional (mark_kind mark.Greater ∷ []) (read_mark mark.Greater)))
    λ n v. (v.0, arrow v.1)

-- `<` `-` `[` inside `]` `-`
unfoldable pub read_edge_back : {A : Type 0} → Reader A → Reader (A × Direction)
read_edge_back inside =
    read_made
    (read_before
    (read_before
    (read_behind (read_mark mark.Less) (read_behind (read_mark mark.Minus) (read_behind (read_mark mark.OpenBracket) inside)))
    (read_mark mark.CloseBracket))
    (read_mark mark.Minus))
    λ n v. (v, Backward)

unfoldable pub read_edge_of : {A : Type 0} → Reader A → Reader (A × Direction)
read_edge_of inside = read_either (mark_kind mark.Minus ∷ []) (read_edge_on inside) (read_edge_back inside)

unfoldable pub read_edge : ℕ → Reader (Tree APattern)
read_edge room = read_made (read_edge_of (read_element room)) λ n v. tree.Edge v.1 (placed n v.0)

unfoldable pub read_angled : ℕ → Reader (ℕ × Expression)
read_angled room =
    read_made (read_before (read_behind (read_mark mark.Less) (read_regex room)) (read_mark mark.Greater)) λ n v. (n, v)

unfoldable pub read_count : Reader CountAt
read_count = read_made (read_before read_number (read_the_word (codes "SHORTEST"))) λ n v. record { count = v; token = n }

unfoldable pub read_reach : ℕ → Reader (ℕ × Tree APathBody)
read_reach room = read_made (read_angled room) λ n v. (v.0, tree.Reach v.1.tree v.1.views)

-- `COST` name, if it is there
unfoldable pub read_cost_if : Reader (Option Named)
read_cost_if = read_optional (word_kind (codes "COST") ∷ []) (read_behind (read_the_word (codes "COST")) read_name)

unfoldable pub read_found : ℕ → Reader (ℕ × Tree APathBody)
read_found room =
    read_made
    (read_both (read_optional (number_kind ∷ []) read_count)
    (read_both read_name (read_both (read_angled room) read_cost_if)))
    λ n v. (v.1.1.0.0, tree.Found v.0 v.1.0 v.1.1.0.1.tree v.1.1.0.1.views v.1.1.1)

unfoldable pub read_all : ℕ → Reader (ℕ × Tree APathBody)
read_all room =
    read_made (read_both (read_behind (read_the_word (codes "ALL")) read_name) (read_angled room))
    λ n v. (v.1.0, tree.All v.0 v.1.1.tree v.1.1.views)

unfoldable pub read_stored : ℕ → Reader (ℕ × Tree APathBody)
read_stored room =
    read_made (read_both (read_behind (read_mark mark.AtSign) read_name) (read_label_groups room)) λ n v. (n, tree.Stored v.0 v.1)

unfoldable pub read_pathbody : ℕ → Reader (ℕ × Tree APathBody)
read_pathbody room =
    read_either (mark_kind mark.Less ∷ []) (read_reach room)
    (read_either (number_kind ∷ name_kind ∷ []) (read_found room)
    (read_either (word_kind (codes "ALL") ∷ []) (read_all room) (read_stored room)))

-- `-` `/` inside `/` `-` `>`
unfoldable pub read_in_slashes : {A : Type 0} → Reader A → Reader A
read_in_slashes inside =
    read_before
    (read_before
    (read_before
    (read_behind (read_mark mark.Minus) (read_behind (read_mark mark.Slash) inside))
    (read_mark mark.Slash))
    (read_mark mark.Minus))
    (read_mark mark.Greater)

unfoldable pub read_path : ℕ → Reader (Tree APattern)
read_path room = read_made (read_in_slashes (read_pathbody room)) λ n v. tree.Path n v.0 v.1

-- the kinds of tokens that a link begins with
abbrev pub link_kinds : List ℕ
link_kinds = mark_kind mark.Minus ∷ mark_kind mark.Less ∷ []

-- `-` `/`: the tokens that tell a path from an edge
abbrev pub in_slashes_kinds : List (List ℕ)
in_slashes_kinds = (mark_kind mark.Minus ∷ []) ∷ (mark_kind mark.Slash ∷ []) ∷ []

unfoldable pub read_link : ℕ → Reader (Tree APattern)
read_link room = read_fork in_slashes_kinds (read_path room) (read_edge room)

unfoldable pub read_linked : {A : Type 0} → List ℕ → Reader A → Reader A → ℕ → Reader (List A)
read_linked kinds node link room = read_made (read_both node (read_many kinds (read_both link node) room)) λ n v. v.0 ∷ in_turn v.1

unfoldable pub read_vchain : ℕ → Reader (List (Tree APattern))
read_vchain room = read_linked link_kinds (read_node room) (read_edge room) room

unfoldable pub read_chain : ℕ → Reader (List (Tree APattern))
read_chain room = read_linked link_kinds (read_node room) (read_link room) room

-- `ON` name, if it is there
unfoldable pub read_on_if : Reader (Option Named)
read_on_if = read_optional (word_kind (codes "ON") ∷ []) (read_behind (read_the_word (codes "ON")) read_name)

unfoldable pub read_located : ℕ → Reader (Tree ALocated)
read_located room = read_made (read_both (read_chain room) read_on_if) λ n v. tree.Located (row v.0) v.1
