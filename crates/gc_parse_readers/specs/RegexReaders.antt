-- The readers of regular path expressions, a production each, in the words of the grammar's readers.
use Rattle.std.specs.Prelude.{ℕ, zero, suc, List, [], ◌∷◌}
use Rattle.gc_lex.specs.declared.token.Mark.TheVariants as mark
use Rattle.gc_regx.specs.Trees as tree
use Rattle.gc_parse_readers.specs.Kinds.{mark_kind}
use Rattle.gc_parse_readers.specs.Readers.{Reader, stuck, read_both, read_made, read_behind, read_before, read_either, read_optional, read_several, read_separated, read_mark, read_word, read_name}
use Rattle.gc_grammar.specs.Regexes.{Expression, plain, turned, starred, chained}

-- the kinds of tokens that a part begins with
abbrev pub part_kinds : List ℕ
part_kinds =
    mark_kind mark.Colon ∷ mark_kind mark.LowLine ∷ mark_kind mark.Bang ∷ mark_kind mark.Tilde
    ∷ mark_kind mark.OpenParenthesis ∷ []

unfoldable pub read_label : Reader Expression
read_label =
    read_made (read_both (read_behind (read_mark mark.Colon) read_word) (read_optional (mark_kind mark.Minus ∷ []) (read_mark mark.Minus)))
    λ n v. plain (turned (tree.Label v.0) (tree.Back v.0) v.1)

unfoldable pub read_any : Reader Expression
read_any =
    read_made (read_behind (read_mark mark.LowLine) (read_optional (mark_kind mark.Minus ∷ []) (read_mark mark.Minus)))
    λ n v. plain (turned tree.Any tree.AnyBack v)

unfoldable pub read_test : Reader Expression
read_test = read_made (read_behind (read_mark mark.Bang) (read_behind (read_mark mark.Colon) read_word)) λ n v. plain (tree.Test v)

unfoldable pub read_view : Reader Expression
read_view = read_made (read_behind (read_mark mark.Tilde) read_name) λ n v. record { tree = tree.View v.name; views = v ∷ [] }

unfoldable pub read_group : Reader Expression → Reader Expression
read_group inside = read_before (read_behind (read_mark mark.OpenParenthesis) inside) (read_mark mark.CloseParenthesis)

unfoldable pub read_atom : Reader Expression → Reader Expression
read_atom inside =
    read_either (mark_kind mark.Colon ∷ []) read_label
    (read_either (mark_kind mark.LowLine ∷ []) read_any
    (read_either (mark_kind mark.Bang ∷ []) read_test
    (read_either (mark_kind mark.Tilde ∷ []) read_view
    (read_group inside))))

unfoldable pub read_star : Reader Expression → Reader Expression
read_star inside =
    read_made (read_both (read_atom inside) (read_optional (mark_kind mark.Star ∷ []) (read_mark mark.Star)))
    λ n v. starred v.0 v.1

unfoldable pub read_cat : ℕ → Reader Expression → Reader Expression
read_cat room inside = read_made (read_several part_kinds (read_star inside) room) λ n parts. chained tree.Cat parts

unfoldable pub read_alt : ℕ → Reader Expression → Reader Expression
read_alt room inside =
    read_made (read_separated (mark_kind mark.Bar ∷ []) (read_cat room inside) (read_mark mark.Bar) room)
    λ n parts. chained tree.Alt parts

-- regular path expressions, for lists of fewer tokens than the room
unfoldable pub read_regex : ℕ → Reader Expression
read_regex zero = stuck
read_regex (suc room) = read_alt (suc room) (read_regex room)
