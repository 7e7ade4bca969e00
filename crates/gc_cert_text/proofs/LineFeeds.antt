-- A printed text with a line feed behind it is read as the text is.
use Rattle.std.proofs.Common.{◌≡◌, ℕ, Bool, true, false, cond, ◌&&◌, List, [], ◌∷◌, ◌++◌, refl, sym, ap, ap₂, ◌∙◌, append_assoc}
use Rattle.json.specs.Token.{Token, begin_object, end_object, begin_array, end_array, key, string, number, boolean, null, bad}
use Rattle.json.specs.Word.{ends_word, word}
use Rattle.json.specs.Lex.{Lexeme, token, comma, colon, string_token, lex, between, fresh, punctuate, tokens}
use Rattle.json.specs.Print.{escape, quoted, token_text, begins, ends, separator, print_from, print, IsPrintable, ArePrintable}
use Rattle.json.proofs.Printed.Strings.{content-escape, lex-escape}
use Rattle.json.proofs.Printed.Numbers.{lex-number, in_word-ended}
use Rattle.json.proofs.Printed.Tokens.{tokens-print}

-- the lexemes of a token
abbrev token_lexemes : Token → List Lexeme
token_lexemes begin_object = token begin_object ∷ []
token_lexemes end_object = token end_object ∷ []
token_lexemes begin_array = token begin_array ∷ []
token_lexemes end_array = token end_array ∷ []
token_lexemes (key s) = token (string s) ∷ colon ∷ []
token_lexemes (string s) = token (string s) ∷ []
token_lexemes (number s) = token (number s) ∷ []
token_lexemes (boolean b) = token (boolean b) ∷ []
token_lexemes null = token null ∷ []
token_lexemes bad = []

lex_quoted : (s r : List ℕ) → lex between (quoted s ++ r) ≡ token (string s) ∷ lex between r
unfolding lex
lex_quoted s r =
    let e = append_assoc (escape s) (34 ∷ []) r in
    ap (λ l. lex between (34 ∷ l)) e ∙ ap₂ (λ o l. token (string_token o) ∷ l) (content-escape s r) (lex-escape s r)

lex_token : (t : Token) (r : List ℕ) → IsPrintable t → (ends t ≡ true → ends_word r ≡ true) → lex between (token_text t ++ r) ≡ token_lexemes t ++ lex between r
unfolding lex word
lex_token begin_object r h ended = refl
lex_token end_object r h ended = refl
lex_token begin_array r h ended = refl
lex_token end_array r h ended = refl
lex_token (key s) r h ended = ap (lex between) (append_assoc (quoted s) (58 ∷ []) r) ∙ lex_quoted s (58 ∷ r)
lex_token (string s) r h ended = lex_quoted s r
lex_token (number s) r h ended = lex-number s r h (ended refl)
lex_token (boolean true) r h ended = ap₂ (λ b l. token (cond b (boolean true) bad) ∷ l) (ended refl) (in_word-ended r (ended refl))
lex_token (boolean false) r h ended = ap₂ (λ b l. token (cond b (boolean false) bad) ∷ l) (ended refl) (in_word-ended r (ended refl))
lex_token null r h ended = ap₂ (λ b l. token (cond b null bad) ∷ l) (ended refl) (in_word-ended r (ended refl))
lex_token bad r h ended = absurd h

lex_separator : (b : Bool) (r : List ℕ) → lex between (cond b (44 ∷ []) [] ++ r) ≡ cond b (comma ∷ []) [] ++ lex between r
unfolding lex
lex_separator true r = refl
lex_separator false r = refl

-- after a value stands a comma, a closing bracket or the end, with a line feed or not
value_ends : (ts : List Token) → (ends_word (print_from true ts) ≡ true) × (ends_word (print_from true ts ++ 10 ∷ []) ≡ true)
unfolding print_from
value_ends [] = (refl, refl)
value_ends (begin_object ∷ ts) = (refl, refl)
value_ends (end_object ∷ ts) = (refl, refl)
value_ends (begin_array ∷ ts) = (refl, refl)
value_ends (end_array ∷ ts) = (refl, refl)
value_ends (key s ∷ ts) = (refl, refl)
value_ends (string s ∷ ts) = (refl, refl)
value_ends (number s ∷ ts) = (refl, refl)
value_ends (boolean b ∷ ts) = (refl, refl)
value_ends (null ∷ ts) = (refl, refl)
value_ends (bad ∷ ts) = (refl, refl)

lex_one : (c : Bool) (t : Token) (r : List ℕ) → IsPrintable t → (ends t ≡ true → ends_word r ≡ true)
    → lex between (separator c t ++ (token_text t ++ r)) ≡ cond (c && begins t) (comma ∷ []) [] ++ (token_lexemes t ++ lex between r)
lex_one c t r h ended = lex_separator (c && begins t) (token_text t ++ r) ∙ ap (λ l. cond (c && begins t) (comma ∷ []) [] ++ l) (lex_token t r h ended)

lex_printed : (c : Bool) (ts : List Token) → ArePrintable ts → lex between (print_from c ts ++ 10 ∷ []) ≡ lex between (print_from c ts)
unfolding lex print_from ArePrintable
lex_printed c [] h = refl
lex_printed c (t ∷ ts) h =
    let r = print_from (ends t) ts in
    ap (lex between) (append_assoc (separator c t) (token_text t ++ r) (10 ∷ []) ∙ ap (λ l. separator c t ++ l) (append_assoc (token_text t) r (10 ∷ [])))
    ∙ lex_one c t (r ++ 10 ∷ []) h.0 (λ e. ap (λ b. ends_word (print_from b ts ++ 10 ∷ [])) e ∙ (value_ends ts).1)
    ∙ ap (λ l. cond (c && begins t) (comma ∷ []) [] ++ (token_lexemes t ++ l)) (lex_printed (ends t) ts h.1)
    ∙ sym (lex_one c t r h.0 (λ e. ap (λ b. ends_word (print_from b ts)) e ∙ (value_ends ts).0))

pub tokens_line : (ts : List Token) → ArePrintable ts → tokens (print ts ++ 10 ∷ []) ≡ ts
tokens_line ts h = ap (punctuate fresh) (lex_printed false ts h) ∙ tokens-print ts h
