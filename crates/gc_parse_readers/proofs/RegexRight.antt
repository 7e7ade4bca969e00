-- The readers of regular path expressions are right.
use Rattle.std.proofs.Common.{refl, ℕ, suc, false, [], ◌∷◌}
use Rattle.gc_lex.specs.declared.token.Mark.TheVariants as mark
use Rattle.gc_grammar.specs.Words.{Lang}
use Rattle.gc_parse_readers.specs.Kinds.{mark_kind}
use Rattle.gc_parse_readers.specs.Readers.{Reader}
use Rattle.gc_grammar.specs.Regexes.{Expression, label, any, test, view, group, atom, star, cat, alt, regex_within}
use Rattle.gc_parse_readers.specs.Right.{Right, Outline, one_of, both_of, optional_of, several_of, separated_of}
use Rattle.gc_parse_readers.proofs.RightTokens.{right_mark, right_word}
use Rattle.gc_parse_readers.proofs.RightBoth.{right_name, right_both, right_made, right_behind, right_before}
use Rattle.gc_parse_readers.proofs.RightChoices.{right_either, right_optional}
use Rattle.gc_parse_readers.proofs.RightMany.{right_several, right_separated}
use Rattle.gc_parse_readers.proofs.RightBrackets.{right_opening, right_nested}
use Rattle.gc_parse_readers.specs.RegexReaders.{part_kinds, read_label, read_any, read_test, read_view, read_group, read_atom, read_star, read_cat, read_alt, read_regex}

-- how a label begins, and with what it would go on
abbrev label_outline : Outline
label_outline = record { first = mark_kind mark.Colon ∷ []; empty = false; more = mark_kind mark.Minus ∷ [] }

abbrev any_outline : Outline
any_outline = record { first = mark_kind mark.LowLine ∷ []; empty = false; more = mark_kind mark.Minus ∷ [] }

-- a part and its star
abbrev atom_outline : Outline
atom_outline = record { first = part_kinds; empty = false; more = mark_kind mark.Minus ∷ mark_kind mark.Minus ∷ [] }

abbrev star_outline : Outline
star_outline = both_of atom_outline (optional_of (one_of (mark_kind mark.Star ∷ [])))

-- how a regular path expression begins, and with what it would go on
abbrev pub regex_outline : Outline
regex_outline = separated_of (several_of star_outline) (one_of (mark_kind mark.Bar ∷ []))

right_label : {j J : ℕ} → Right j J label label read_label read_label label_outline
unfolding read_label
right_label =
    right_made
    (right_both (right_behind (right_mark mark.Colon) right_word refl)
    (right_optional (mark_kind mark.Minus ∷ []) refl refl refl (right_mark mark.Minus)) refl)

right_any : {j J : ℕ} → Right j J any any read_any read_any any_outline
unfolding read_any
right_any =
    right_made (right_behind (right_mark mark.LowLine) (right_optional (mark_kind mark.Minus ∷ []) refl refl refl (right_mark mark.Minus)) refl)

right_test : {j J : ℕ} → Right j J test test read_test read_test (one_of (mark_kind mark.Bang ∷ []))
unfolding read_test
right_test = right_made (right_behind (right_mark mark.Bang) (right_behind (right_mark mark.Colon) right_word refl) refl)

right_view : {j J : ℕ} → Right j J view view read_view read_view (one_of (mark_kind mark.Tilde ∷ []))
unfolding read_view
right_view = right_made (right_behind (right_mark mark.Tilde) right_name refl)

right_group : {j J : ℕ} {L M : Lang Expression} {p q : Reader Expression} → Right j J L M p q regex_outline
    → Right (suc j) (suc J) (group L) (group M) (read_group p) (read_group q) (one_of (mark_kind mark.OpenParenthesis ∷ []))
unfolding read_group
right_group inside = right_before (right_opening mark.OpenParenthesis inside) (right_mark mark.CloseParenthesis) refl

right_atom : {j J : ℕ} {L M : Lang Expression} {p q : Reader Expression} → Right j J L M p q regex_outline
    → Right (suc j) (suc J) (atom L) (atom M) (read_atom p) (read_atom q) atom_outline
unfolding read_atom
right_atom inside =
    right_either (mark_kind mark.Colon ∷ []) refl refl refl refl right_label
    (right_either (mark_kind mark.LowLine ∷ []) refl refl refl refl right_any
    (right_either (mark_kind mark.Bang ∷ []) refl refl refl refl right_test
    (right_either (mark_kind mark.Tilde ∷ []) refl refl refl refl right_view
    (right_group inside))))

right_star : {j J : ℕ} {L M : Lang Expression} {p q : Reader Expression} → Right j J L M p q regex_outline
    → Right (suc j) (suc J) (star L) (star M) (read_star p) (read_star q) star_outline
unfolding read_star
right_star inside =
    right_made (right_both (right_atom inside) (right_optional (mark_kind mark.Star ∷ []) refl refl refl (right_mark mark.Star)) refl)

right_cat : {j J : ℕ} {L M : Lang Expression} {p q : Reader Expression} → Right j J L M p q regex_outline
    → Right (suc j) (suc J) (cat L) (cat M) (read_cat (suc j) p) (read_cat (suc J) q) (several_of star_outline)
unfolding read_cat
right_cat inside = right_made (right_several part_kinds refl refl refl refl (right_star inside))

right_alt : {j J : ℕ} {L M : Lang Expression} {p q : Reader Expression} → Right j J L M p q regex_outline
    → Right (suc j) (suc J) (alt L) (alt M) (read_alt (suc j) p) (read_alt (suc J) q) regex_outline
unfolding read_alt
right_alt inside =
    right_made (right_separated (mark_kind mark.Bar ∷ []) refl refl refl refl refl refl (right_cat inside) (right_mark mark.Bar))

-- regular path expressions of all depths
pub right_regex : (j J d : ℕ) → Right j J (regex_within j) (regex_within d) (read_regex j) (read_regex J) regex_outline
unfolding read_regex
right_regex j J d =
    right_nested {I = Unit {0}} (λ i depth. regex_within depth) (λ i room. read_regex room) (λ i. regex_outline)
    (λ i start end ts a spelled. spelled) (λ j J d inside i. right_alt (inside i)) j J d tt
