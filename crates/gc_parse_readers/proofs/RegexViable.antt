-- The readers of regular path expressions are stuck only behind a beginning of one.
use Rattle.std.proofs.Common.{arith, [], ◌∷◌, ℕ, zero, suc, ◌≤◌, not-suc-le-zero}
use Rattle.gc_lex.specs.declared.token.Mark.TheVariants as mark
use Rattle.gc_grammar.specs.Words.{Lang}
use Rattle.gc_grammar.specs.Regexes.{Expression, label, any, test, view, group, atom, star, cat, alt, regex, regex_within}
use Rattle.gc_parse_readers.specs.Kinds.{mark_kind}
use Rattle.gc_parse_readers.specs.Readers.{Reader}
use Rattle.gc_parse_readers.specs.RegexReaders.{part_kinds, read_label, read_any, read_test, read_view, read_group, read_atom, read_star, read_cat, read_alt, read_regex}
use Rattle.gc_parse_readers.proofs.Beginnings.{HasWord, Viable}
use Rattle.gc_parse_readers.proofs.Words.{has_both, has_made, has_first, has_none, has_several, has_separated}
use Rattle.gc_parse_readers.proofs.ViableParts.{viable_mark, viable_word, viable_name, viable_both, viable_made, viable_behind, viable_before, viable_opening, viable_either, viable_optional, viable_wider}
use Rattle.gc_parse_readers.proofs.ViableLists.{viable_several, viable_separated}

viable_label : {j : ℕ} → Viable j label read_label
unfolding read_label
viable_label =
    viable_made (viable_both (viable_behind (viable_mark mark.Colon) viable_word) (viable_optional (mark_kind mark.Minus ∷ []) (viable_mark mark.Minus)))

viable_any : {j : ℕ} → Viable j any read_any
unfolding read_any
viable_any = viable_made (viable_behind (viable_mark mark.LowLine) (viable_optional (mark_kind mark.Minus ∷ []) (viable_mark mark.Minus)))

viable_test : {j : ℕ} → Viable j test read_test
unfolding read_test
viable_test = viable_made (viable_behind (viable_mark mark.Bang) (viable_behind (viable_mark mark.Colon) viable_word))

viable_view : {j : ℕ} → Viable j view read_view
unfolding read_view
viable_view = viable_made (viable_behind (viable_mark mark.Tilde) viable_name)

viable_group : {j : ℕ} {L : Lang Expression} {p : Reader Expression} → Viable j L p → Viable (suc j) (group L) (read_group p)
unfolding read_group
viable_group inside = viable_before (viable_opening mark.OpenParenthesis inside) (viable_mark mark.CloseParenthesis)

viable_atom : {j : ℕ} {L : Lang Expression} {p : Reader Expression} → Viable j L p → Viable (suc j) (atom L) (read_atom p)
unfolding read_atom
viable_atom inside =
    viable_either (mark_kind mark.Colon ∷ []) viable_label
    (viable_either (mark_kind mark.LowLine ∷ []) viable_any
    (viable_either (mark_kind mark.Bang ∷ []) viable_test
    (viable_either (mark_kind mark.Tilde ∷ []) viable_view (viable_group inside))))

viable_star : {j : ℕ} {L : Lang Expression} {p : Reader Expression} → Viable j L p → Viable (suc j) (star L) (read_star p)
unfolding read_star
viable_star inside = viable_made (viable_both (viable_atom inside) (viable_optional (mark_kind mark.Star ∷ []) (viable_mark mark.Star)))

viable_cat : {j : ℕ} {L : Lang Expression} {p : Reader Expression} → Viable j L p → Viable (suc j) (cat L) (read_cat (suc j) p)
unfolding read_cat
viable_cat {j = j} inside = viable_made (viable_several part_kinds (suc j) (viable_star inside))

viable_alt : {j : ℕ} {L : Lang Expression} {p : Reader Expression} → Viable j L p → Viable (suc j) (alt L) (read_alt (suc j) p)
unfolding read_alt
viable_alt {j = j} inside = viable_made (viable_separated (mark_kind mark.Bar ∷ []) (suc j) (viable_cat inside) (viable_mark mark.Bar))

-- `:` and a word, whatever may stand in parentheses
has_alt : (L : Lang Expression) → HasWord (alt L)
has_alt L =
    has_made (has_separated (has_made (has_several (has_made (has_both (has_first (viable_label {j = 0}).word) has_none)))))

-- regular path expressions of some depth more than the room
pub viable_within : (j d : ℕ) → j ≤ d → Viable j (regex_within (suc d)) (read_regex j)
unfolding read_regex
viable_within zero d small = record { word = has_alt (regex_within d); goes = λ start ts short. absurd (not-suc-le-zero short) }
viable_within (suc j) zero small = absurd (not-suc-le-zero small)
viable_within (suc j) (suc d) small = viable_alt (viable_within j d (omega (arith, small)))

-- and of any
pub viable_regex : {j : ℕ} → Viable j regex (read_regex j)
viable_regex {j = j} = viable_wider (λ start end ts e spelled. (suc j, spelled)) (viable_within j j (omega arith))
