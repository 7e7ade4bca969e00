-- The readers of what a CONSTRUCT makes, a production each, in the words of the grammar's readers.
use Rattle.std.specs.Prelude.{ℕ, List, [], ◌∷◌, codes, Option}
use Rattle.gc_lex.specs.declared.token.Mark.TheVariants as mark
use Rattle.gc_ast.specs.Trees as tree
use Rattle.gc_ast.specs.Trees.{Tree, AnItem, AConstructPart, AGroupTerm, AnAssign, AChange, row, maybe}
use Rattle.gc_parse_readers.specs.Kinds.{mark_kind, word_kind, name_kind}
use Rattle.gc_parse_readers.specs.Readers.{Reader, read_both, read_made, read_behind, read_before, read_either, read_fork, read_optional, read_many, read_separated, read_mark, read_the_word, read_word, read_name}
use Rattle.gc_grammar.specs.Patterns.{listed}
use Rattle.gc_grammar.specs.Constructs.{Unplaced, placed}
use Rattle.gc_parse_readers.specs.ExpressionReaders.{Nested, read_formula}
use Rattle.gc_parse_readers.specs.PatternReaders.{read_name_if, read_edge_of, read_in_slashes, in_slashes_kinds, link_kinds, read_linked}

unfoldable pub read_group_term : Reader (Tree AGroupTerm)
read_group_term =
    read_made (read_both read_name (read_optional (mark_kind mark.Dot ∷ []) (read_behind (read_mark mark.Dot) read_word)))
    λ n v. tree.GroupTerm v.0 v.1

unfoldable pub read_assign : ℕ → Nested → Reader (Tree AnAssign)
read_assign room inside =
    read_made (read_both read_word (read_behind (read_mark mark.Assign) (read_formula room inside))) λ n v. tree.Assign n v.0 v.1

unfoldable pub read_assigns : ℕ → Nested → Reader (List (Tree AnAssign))
read_assigns room inside =
    read_before
    (read_behind (read_mark mark.OpenBrace) (read_separated (mark_kind mark.Comma ∷ []) (read_assign room inside) (read_mark mark.Comma) room))
    (read_mark mark.CloseBrace)

-- assignments between braces, if they are there
unfoldable pub read_assigns_if : ℕ → Nested → Reader (Option (List (Tree AnAssign)))
read_assigns_if room inside = read_optional (mark_kind mark.OpenBrace ∷ []) (read_assigns room inside)

unfoldable pub read_group : ℕ → Reader (List (Tree AGroupTerm))
read_group room =
    read_behind (read_the_word (codes "GROUP")) (read_separated (mark_kind mark.Comma ∷ []) read_group_term (read_mark mark.Comma) room)

unfoldable pub read_new_label : Reader (List ℕ)
read_new_label = read_behind (read_mark mark.Colon) read_word

unfoldable pub read_new_labels : ℕ → Reader (List (List ℕ))
read_new_labels room = read_many (mark_kind mark.Colon ∷ []) read_new_label room

unfoldable pub read_celement : ℕ → Nested → Reader Unplaced
read_celement room inside =
    read_made
    (read_both read_name_if
    (read_both (read_optional (mark_kind mark.Equals ∷ []) (read_behind (read_mark mark.Equals) read_name))
    (read_both (read_optional (word_kind (codes "GROUP") ∷ []) (read_group room))
    (read_both (read_new_labels room) (read_assigns_if room inside)))))
    λ n v. record {
      name = v.0;
      copy = v.1.0;
      group = listed v.1.1.0;
      labels = v.1.1.1.0;
      assigns = listed v.1.1.1.1;
    }

unfoldable pub read_cnode : ℕ → Nested → Reader (Tree AConstructPart)
read_cnode room inside =
    read_made (read_before (read_behind (read_mark mark.OpenParenthesis) (read_celement room inside)) (read_mark mark.CloseParenthesis))
    λ n v. tree.NewNode (placed n v)

unfoldable pub read_new_edge : ℕ → Nested → Reader (Tree AConstructPart)
read_new_edge room inside = read_made (read_edge_of (read_celement room inside)) λ n v. tree.NewEdge v.1 (placed n v.0)

unfoldable pub read_projected : Reader (Tree AConstructPart)
read_projected = read_made (read_in_slashes read_name) λ n v. tree.Projected n v

unfoldable pub read_new_stored : ℕ → Nested → Reader (Tree AConstructPart)
read_new_stored room inside =
    read_made
    (read_in_slashes
    (read_both (read_behind (read_mark mark.AtSign) read_name) (read_both (read_new_labels room) (read_assigns_if room inside))))
    λ n v. tree.NewStored n v.0 v.1.0 (row (listed v.1.1))

-- `-` `/` and a name: the tokens that tell a projected path from a new stored one
abbrev pub projected_kinds : List (List ℕ)
projected_kinds = (mark_kind mark.Minus ∷ []) ∷ (mark_kind mark.Slash ∷ []) ∷ (name_kind ∷ []) ∷ []

unfoldable pub read_new_path : ℕ → Nested → Reader (Tree AConstructPart)
read_new_path room inside = read_fork projected_kinds read_projected (read_new_stored room inside)

unfoldable pub read_clink : ℕ → Nested → Reader (Tree AConstructPart)
read_clink room inside = read_fork in_slashes_kinds (read_new_path room inside) (read_new_edge room inside)

unfoldable pub read_cchain : ℕ → Nested → Reader (List (Tree AConstructPart))
read_cchain room inside = read_linked link_kinds (read_cnode room inside) (read_clink room inside) room

unfoldable pub read_set_property : ℕ → Nested → Reader (Tree AChange)
read_set_property room inside =
    read_made
    (read_both (read_behind (read_the_word (codes "SET")) read_name) (read_behind (read_mark mark.Dot) (read_assign room inside)))
    λ n v. tree.SetProperty v.0 v.1

unfoldable pub read_add_label : Reader (Tree AChange)
read_add_label =
    read_made (read_both (read_behind (read_the_word (codes "SET")) read_name) read_new_label) λ n v. tree.AddLabel v.0 v.1

unfoldable pub read_drop_property : Reader (Tree AChange)
read_drop_property =
    read_made
    (read_both (read_behind (read_the_word (codes "REMOVE")) read_name) (read_behind (read_mark mark.Dot) read_word))
    λ n v. tree.DropProperty v.0 v.1

unfoldable pub read_drop_label : Reader (Tree AChange)
read_drop_label =
    read_made (read_both (read_behind (read_the_word (codes "REMOVE")) read_name) read_new_label) λ n v. tree.DropLabel v.0 v.1

-- a word, a name and `.`: the tokens that tell a property from a label
abbrev pub property_kinds : List ℕ → List (List ℕ)
property_kinds word = (word_kind word ∷ []) ∷ (name_kind ∷ []) ∷ (mark_kind mark.Dot ∷ []) ∷ []

unfoldable pub read_removal : Reader (Tree AChange)
read_removal = read_fork (property_kinds (codes "REMOVE")) read_drop_property read_drop_label

unfoldable pub read_sub : ℕ → Nested → Reader (Tree AChange)
read_sub room inside =
    read_fork (property_kinds (codes "SET")) (read_set_property room inside)
    (read_either (word_kind (codes "SET") ∷ []) read_add_label read_removal)

unfoldable pub read_chain_item : ℕ → Nested → Reader (Tree AnItem)
read_chain_item room inside =
    read_made
    (read_both (read_cchain room inside)
    (read_both (read_many (word_kind (codes "SET") ∷ word_kind (codes "REMOVE") ∷ []) (read_sub room inside) room)
    (read_optional (word_kind (codes "WHEN") ∷ []) (read_behind (read_the_word (codes "WHEN")) (read_formula room inside)))))
    λ n v. tree.ChainItem (row v.0) (row v.1.0) (maybe v.1.1)

unfoldable pub read_item : ℕ → Nested → Reader (Tree AnItem)
read_item room inside = read_either (name_kind ∷ []) (read_made read_name λ n v. tree.GraphItem v) (read_chain_item room inside)
