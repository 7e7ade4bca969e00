-- What it takes for a text to have some tokens, from its end to its front.
use Rattle.std.proofs.Common.{◌≡◌, ℕ, zero, suc, ◌+◌, ◌-◌, ◌<◌, ◌≤◌, Bool, true, false, not, ◌&&◌, ◌==◌, List, [], ◌∷◌, ◌++◌, length, take, drop, Result, Ok, Some, refl, sym, ap, subst, ◌∙◌, arith, cond, nat_eq, length-append, drop-drop}
use Rattle.std.specs.Char.{is_ascii_alphabetic}
use Rattle.std.specs.List.{list_all, prefix_len, starts_with, take_while}
use Rattle.std.proofs.lemmas.List.{drop_at, take_at}
use Rattle.gc_base.specs.Words.{is_word, is_word_part}
use Rattle.gc_lex.specs.declared.token.Token.{Token}
use Rattle.gc_lex.specs.declared.token.Token.TheVariants.{Word, Symbol}
use Rattle.gc_lex.specs.declared.token.Mark.{Mark}
use Rattle.gc_lex.specs.declared.token.Mark.TheVariants as mark
use Rattle.gc_lex.specs.declared.items.Item.{Item}
use Rattle.gc_lex.specs.declared.items.Item.TheVariants as item
use Rattle.gc_lex.specs.Characters.{is_separator, is_hash}
use Rattle.gc_lex.specs.Items.{first_item}
use Rattle.gc_lex.specs.Lexis.{TokenList, the_end, after_tokens, after_item, tokens_within}
use Rattle.gc_lex.specs.Places.{place_at}

-- what is given from an offset of a text on has these tokens
pub record HasTokens (text : List ℕ) (at items : ℕ) (tokens : List Token) : Type 0 where
  pub list : TokenList
  pub given : tokens_within items text at ≡ Ok list
  pub tokens_are : list.tokens ≡ tokens

-- wherever a text ends so, its end has these tokens
abbrev pub Lexes : List ℕ → List Token → Type 0
Lexes end tokens = (text : List ℕ) (at items : ℕ) → drop at text ≡ end → length end ≤ items → HasTokens text at items tokens

-- no bytes have no tokens
pub lexes_end : Lexes [] []
unfolding tokens_within
lexes_end text at zero is enough = record { list = the_end text at; given = refl; tokens_are = refl }
lexes_end text at (suc items) is enough = record {
  list = the_end text at;
  given = ap (λ rest. after_item text at (first_item rest) (tokens_within items text)) is;
  tokens_are = refl;
}

-- what is behind bytes at an offset
rest_at : (text : List ℕ) (at n : ℕ) (front rest : List ℕ) → drop at text ≡ front ++ rest → length front ≡ n → drop (at + n) text ≡ rest
rest_at text at n front rest is long = sym (drop-drop n at text) ∙ ap (drop n) is ∙ drop_at front rest n long

-- a token, and the tokens behind it
pub lexes_token : (front rest : List ℕ) (n : ℕ) (token : Token) (tokens : List Token) → length front ≡ n → 0 < n
    → first_item (front ++ rest) ≡ item.Spelled token n → Lexes rest tokens → Lexes (front ++ rest) (token ∷ tokens)
unfolding tokens_within
lexes_token front rest n token tokens long some first behind text at zero is enough =
    absurd (omega (arith, length-append front rest))
lexes_token front rest n token tokens long some first behind text at (suc items) is enough =
    let later = behind text (at + n) items (rest_at text at n front rest is long) (omega (arith, length-append front rest)) in
    record {
      list = record { tokens = token ∷ later.list.tokens; places = place_at text at ∷ later.list.places };
      given =
          ap (λ rest. after_item text at (first_item rest) (tokens_within items text)) is
          ∙ ap (λ found. after_item text at found (tokens_within items text)) first
          ∙ ap (after_tokens (token ∷ []) (place_at text at ∷ [])) later.given;
      tokens_are = ap (λ tokens. token ∷ tokens) later.tokens_are;
    }

-- a gap, and the tokens behind it
pub lexes_gap : (front rest : List ℕ) (n : ℕ) (tokens : List Token) → length front ≡ n → 0 < n
    → first_item (front ++ rest) ≡ item.Gap n → Lexes rest tokens → Lexes (front ++ rest) tokens
unfolding tokens_within
lexes_gap front rest n tokens long some first behind text at zero is enough =
    absurd (omega (arith, length-append front rest))
lexes_gap front rest n tokens long some first behind text at (suc items) is enough =
    let later = behind text (at + n) items (rest_at text at n front rest is long) (omega (arith, length-append front rest)) in
    record {
      list = later.list;
      given =
          ap (λ rest. after_item text at (first_item rest) (tokens_within items text)) is
          ∙ ap (λ found. after_item text at found (tokens_within items text)) first
          ∙ later.given;
      tokens_are = later.tokens_are;
    }
