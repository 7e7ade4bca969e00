-- Symbols and words that stand for themselves, with the white space that is around them.
use Rattle.std.proofs.Common.{◌≡◌, ℕ, true, List, [], ◌∷◌, refl}
use Rattle.gc_base.specs.Words.{is_word}
use Rattle.gc_lex.specs.declared.token.Mark.{Mark}
use Rattle.gc_grammar.specs.Words as words
use Rattle.gc_print_query.specs.Pieces.{Blank, Line}
use Rattle.gc_print_query.specs.ExpressionPieces.{word, mark_piece, between}
use Rattle.gc_print_query.proofs.Rereading.{Reads, marked, the_word}

pub lone_mark : {n D : ℕ} (m : Mark) → Reads n D (λ d. words.mark m) (λ x u. mark_piece m ∷ []) (λ u. u)
lone_mark m = marked m (mark_piece m ∷ []) refl (tt, tt)

pub spaced_mark : {n D : ℕ} (m : Mark) → Reads n D (λ d. words.mark m) (λ x u. Blank ∷ mark_piece m ∷ Blank ∷ []) (λ u. u)
spaced_mark m = marked m (Blank ∷ mark_piece m ∷ Blank ∷ []) refl (tt, (tt, (tt, tt)))

pub mark_blank : {n D : ℕ} (m : Mark) → Reads n D (λ d. words.mark m) (λ x u. mark_piece m ∷ Blank ∷ []) (λ u. u)
mark_blank m = marked m (mark_piece m ∷ Blank ∷ []) refl (tt, (tt, tt))

pub blank_mark : {n D : ℕ} (m : Mark) → Reads n D (λ d. words.mark m) (λ x u. Blank ∷ mark_piece m ∷ []) (λ u. u)
blank_mark m = marked m (Blank ∷ mark_piece m ∷ []) refl (tt, (tt, tt))

pub mark_line : {n D : ℕ} (m : Mark) (depth : ℕ) → Reads n D (λ d. words.mark m) (λ x u. mark_piece m ∷ Line depth ∷ []) (λ u. u)
mark_line m depth = marked m (mark_piece m ∷ Line depth ∷ []) refl (tt, (tt, tt))

pub line_mark : {n D : ℕ} (m : Mark) (depth : ℕ) → Reads n D (λ d. words.mark m) (λ x u. Line depth ∷ mark_piece m ∷ []) (λ u. u)
line_mark m depth = marked m (Line depth ∷ mark_piece m ∷ []) refl (tt, (tt, tt))

pub lone_word : {n D : ℕ} (w : List ℕ) → is_word w ≡ true → Reads n D (λ d. words.the_word w) (λ x u. word w ∷ []) (λ u. u)
lone_word w is = the_word w (word w ∷ []) refl (is, tt)

pub word_blank : {n D : ℕ} (w : List ℕ) → is_word w ≡ true → Reads n D (λ d. words.the_word w) (λ x u. word w ∷ Blank ∷ []) (λ u. u)
word_blank w is = the_word w (word w ∷ Blank ∷ []) refl (is, (tt, tt))

pub spaced_word : {n D : ℕ} (w : List ℕ) → is_word w ≡ true → Reads n D (λ d. words.the_word w) (λ x u. between w) (λ u. u)
spaced_word w is = the_word w (between w) refl (tt, (is, (tt, tt)))

pub line_word : {n D : ℕ} (depth : ℕ) (w : List ℕ) → is_word w ≡ true → Reads n D (λ d. words.the_word w) (λ x u. Line depth ∷ word w ∷ Blank ∷ []) (λ u. u)
line_word depth w is = the_word w (Line depth ∷ word w ∷ Blank ∷ []) refl (tt, (is, (tt, tt)))
