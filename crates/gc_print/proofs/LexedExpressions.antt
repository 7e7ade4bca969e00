-- The texts of regular path expressions have the tokens that they are said to have.
use Rattle.std.proofs.Common.{◌≡◌, ℕ, Bool, true, false, nat_lt, List, [], ◌∷◌, ◌++◌, map, refl, ap, cond, append_assoc, codes, not}
use Rattle.std.specs.List.{join_with_byte}
use Rattle.gc_base.specs.Words.{is_word_part}
use Rattle.gc_lex.specs.declared.token.Token.{Token}
use Rattle.gc_lex.specs.declared.token.Token.TheVariants.{Symbol}
use Rattle.gc_lex.specs.declared.token.Mark.TheVariants as mark
use Rattle.gc_regx.specs.Trees.{Kind, RegexTree, ARegex, ARow, Label, Back, Any, AnyBack, Test, View, Cat, Alt, Star, none, more}
use Rattle.gc_print.specs.LooseTrees.{looseness_of, rank}
use Rattle.gc_print.specs.declared.looseness.Looseness.{Looseness}
use Rattle.gc_print.specs.declared.looseness.Looseness.TheVariants as loose
use Rattle.gc_print.specs.RegexTexts.{Part, enclosed, text_of}
use Rattle.gc_print.specs.RegexTokens.{TokenPart, enclosed_tokens, joined, tokens_of}
use Rattle.gc_regx.specs.Expressions.{IsFormed, IsLong, IsExpression}
use Rattle.gc_print.proofs.Lexing.{Lexes}
use Rattle.gc_print.proofs.LexedTexts.{ends_word, is_dense, lexes_word, lexes_colon, lexes_low_line, lexes_minus, lexes_bang, lexes_tilde, lexes_star, lexes_bar, lexes_open, lexes_close, lexes_space}

-- a text begins with no separator, and has these tokens before those of whatever ends a word
pub record TextLexes (text : List ℕ) (tokens : List Token) : Type 0 where
  pub dense : (rest : List ℕ) → is_dense (text ++ rest) ≡ true
  pub lexes : (rest : List ℕ) (ts : List Token) → ends_word rest ≡ true → Lexes rest ts → Lexes (text ++ rest) (tokens ++ ts)

-- a part is as loose in its tokens as in its text
pub record PartLexes (p : Part) (q : TokenPart) : Type 0 where
  pub same : p.looseness ≡ q.looseness
  pub text : TextLexes p.text q.tokens

abbrev PartsLex : List Part → List TokenPart → Type 0
PartsLex [] [] = Unit {0}
PartsLex (p ∷ ps) (q ∷ qs) = PartLexes p q × PartsLex ps qs
PartsLex [] (q ∷ qs) = ⊥
PartsLex (p ∷ ps) [] = ⊥

-- in parentheses or not
enclosed_lexes : (most : Looseness) (p : Part) (q : TokenPart) → PartLexes p q → TextLexes (enclosed most p) (enclosed_tokens most q)
enclosed_lexes most p q part = by (nat_lt (rank most) (rank p.looseness)) (nat_lt (rank most) (rank q.looseness)) (ap (λ l. nat_lt (rank most) (rank l)) part.same)
  where
    by : (loose other : Bool) → loose ≡ other
        → TextLexes (cond loose (codes "(" ++ p.text ++ codes ")") p.text) (cond other (Symbol mark.OpenParenthesis ∷ (q.tokens ++ Symbol mark.CloseParenthesis ∷ [])) q.tokens)
    by true true h = record {
      dense = λ rest. refl;
      lexes = λ rest ts ends behind.
          rw (append_assoc p.text (41 ∷ []) rest, append_assoc q.tokens (Symbol mark.CloseParenthesis ∷ []) ts)
          (lexes_open _ _ (part.text.lexes (41 ∷ rest) (Symbol mark.CloseParenthesis ∷ ts) refl (lexes_close rest ts behind)));
    }
    by false false h = part.text
    by true false h = absurd (cc)
    by false true h = absurd (cc)

-- parts with something between them that ends a word
module _ (c : ℕ) (between : List Token) (ends : is_word_part c ≡ false)
    (behind_byte : (rest : List ℕ) (ts : List Token) → is_dense rest ≡ true → Lexes rest ts → Lexes (c ∷ rest) (between ++ ts)) where
  joined_lexes : (most : Looseness) (p : Part) (ps : List Part) (q : TokenPart) (qs : List TokenPart) → PartLexes p q → PartsLex ps qs
      → TextLexes (join_with_byte c (map (enclosed most) (p ∷ ps))) (joined between (map (enclosed_tokens most) (q ∷ qs)))
  joined_lexes most p [] q [] part parts = enclosed_lexes most p q part
  joined_lexes most p [] q (r ∷ qs) part parts = absurd parts
  joined_lexes most p (o ∷ ps) q [] part parts = absurd parts
  joined_lexes most p (o ∷ ps) q (r ∷ qs) part parts =
      let first = enclosed_lexes most p q part in
      let later = joined_lexes most o ps r qs parts.0 parts.1 in
      let text = join_with_byte c (map (enclosed most) (o ∷ ps)) in
      let tokens = joined between (map (enclosed_tokens most) (r ∷ qs)) in
      record {
        dense = λ rest. rw (append_assoc (enclosed most p) (c ∷ text) rest) (first.dense (c ∷ (text ++ rest)));
        lexes = λ rest ts ends_rest behind.
            rw (append_assoc (enclosed most p) (c ∷ text) rest, append_assoc (enclosed_tokens most q) (between ++ tokens) ts, append_assoc between tokens ts)
            (first.lexes (c ∷ (text ++ rest)) (between ++ (tokens ++ ts)) (ap not ends) (behind_byte (text ++ rest) (tokens ++ ts) (later.dense rest) (later.lexes rest ts ends_rest behind)));
      }

abbrev Claim : (k : Kind) → RegexTree k → Type 0
Claim ARegex tree = TextLexes (text_of tree) (tokens_of tree)
Claim ARow parts = PartsLex (text_of parts) (tokens_of parts)

-- a list of two parts or more
long_lexes : (c : ℕ) (between : List Token) → is_word_part c ≡ false
    → ((rest : List ℕ) (ts : List Token) → is_dense rest ≡ true → Lexes rest ts → Lexes (c ∷ rest) (between ++ ts))
    → (most : Looseness) (parts : RegexTree ARow) → IsLong parts → PartsLex (text_of parts) (tokens_of parts)
    → TextLexes (join_with_byte c (map (enclosed most) (text_of parts))) (joined between (map (enclosed_tokens most) (tokens_of parts)))
unfolding text_of tokens_of
long_lexes c between ends behind_byte most none long parts = absurd long
long_lexes c between ends behind_byte most (more part none) long parts = absurd long
long_lexes c between ends behind_byte most (more part (more other row)) long parts =
    joined_lexes c between ends behind_byte most
    (record { looseness = looseness_of part; text = text_of part }) (text_of (more other row))
    (record { looseness = looseness_of part; tokens = tokens_of part }) (tokens_of (more other row)) parts.0 parts.1

pub expression_lexes : {k : Kind} (tree : RegexTree k) → IsExpression tree → Claim k tree
unfolding text_of tokens_of IsFormed
expression_lexes (Label l) is = record { dense = λ rest. refl; lexes = λ rest ts. lexes_colon l rest ts is }
expression_lexes (Back l) is = record {
  dense = λ rest. refl;
  lexes = λ rest ts ends behind. rw (append_assoc l (45 ∷ []) rest) (lexes_colon l (45 ∷ rest) (Symbol mark.Minus ∷ ts) is refl (lexes_minus rest ts behind));
}
expression_lexes Any is = record { dense = λ rest. refl; lexes = λ rest ts ends. lexes_low_line rest ts }
expression_lexes AnyBack is = record { dense = λ rest. refl; lexes = λ rest ts ends behind. lexes_low_line (45 ∷ rest) (Symbol mark.Minus ∷ ts) (lexes_minus rest ts behind) }
expression_lexes (Test l) is = record { dense = λ rest. refl; lexes = λ rest ts ends behind. lexes_bang _ _ (lexes_colon l rest ts is ends behind) }
expression_lexes (View v) is = record { dense = λ rest. refl; lexes = λ rest ts ends behind. lexes_tilde _ _ (lexes_word v rest ts is.0 ends behind) }
expression_lexes (Cat parts) is = long_lexes 32 [] refl lexes_space loose.Star parts is.0 (expression_lexes parts is.1)
expression_lexes (Alt parts) is = long_lexes 124 (Symbol mark.Bar ∷ []) refl (λ rest ts dense. lexes_bar rest ts) loose.Juxtaposition parts is.0 (expression_lexes parts is.1)
expression_lexes (Star part) is = starred (expression_lexes part is)
  where
    starred : TextLexes (text_of part) (tokens_of part) → TextLexes (text_of (Star part)) (tokens_of (Star part))
    starred lexed =
        let p : Part = record { looseness = looseness_of part; text = text_of part } in
        let q : TokenPart = record { looseness = looseness_of part; tokens = tokens_of part } in
        let whole = enclosed_lexes loose.Unit p q (record { same = refl; text = lexed }) in
        record {
          dense = λ rest. rw (append_assoc (enclosed loose.Unit p) (42 ∷ []) rest) (whole.dense (42 ∷ rest));
          lexes = λ rest ts ends behind.
              rw (append_assoc (enclosed loose.Unit p) (42 ∷ []) rest, append_assoc (enclosed_tokens loose.Unit q) (Symbol mark.Star ∷ []) ts)
              (whole.lexes (42 ∷ rest) (Symbol mark.Star ∷ ts) refl (lexes_star rest ts behind));
        }
expression_lexes none is = tt
expression_lexes (more part parts) is = (record { same = refl; text = expression_lexes part is.0 }, expression_lexes parts is.1)
