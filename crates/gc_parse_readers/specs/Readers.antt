-- The words that a reader is written with, one for each word of the grammar. A reader takes from the
-- front of a token list what it can use, with as few tokens in hand as tell its choices apart.
use Rattle.std.specs.Prelude.{ℕ, zero, suc, Bool, ℤ, List, [], ◌∷◌, ◌++◌, length, Option, Some, None, if◌then◌else◌, nat_eq}
use Rattle.std.specs.Cmp.Lexicographic.{pointwise}
use Rattle.gc_base.specs.Words.{is_reserved}
use Rattle.gc_lex.specs.declared.token.Token.{Token}
use Rattle.gc_lex.specs.declared.token.Token.TheVariants.{Word, Number, Text, Symbol}
use Rattle.gc_lex.specs.declared.token.Mark.{Mark}
use Rattle.gc_ast.specs.Trees.{Tree, AQuery, Named}
use Rattle.gc_grammar.specs.Words.{Point, next}
use Rattle.gc_parse_readers.specs.Kinds.{mark_kind, begins, begins_so}

-- what a reader gives: a value, the point after it and the tokens that are left; or the number of the
-- token that it cannot go past
pub data Reading (A : Type 0) : Type 0 where
  Got : A → Point → List Token → Reading A
  Stuck : ℕ → Reading A

abbrev pub Reader : Type 0 → Type 0
Reader A = Point → List Token → Reading A

-- what a reading gives, with what is made of its value
abbrev pub then_read : {A B : Type 0} → Reading A → (A → Reader B) → Reading B
then_read (Got a p ts) f = f a p ts
then_read (Stuck k) f = Stuck k

-- the reader that is stuck at once
abbrev pub stuck : {A : Type 0} → Reader A
stuck p ts = Stuck p.token

-- a token that was looked at, by what it means
abbrev pub meant : {A : Type 0} → Option A → Reader A
meant None p ts = Stuck p.token
meant (Some a) p ts = Got a (next p) ts

-- what the first token of a list means, and what follows it
abbrev pub first_means : {A : Type 0} → (Token → Option A) → List Token → Option A
first_means means [] = None
first_means means (token ∷ ts) = means token

abbrev pub behind : List Token → List Token
behind [] = []
behind (token ∷ ts) = ts

-- one token, by what it means
abbrev pub read_one : {A : Type 0} → (Token → Option A) → Reader A
read_one means p ts = meant (first_means means ts) p (behind ts)

-- one reader, and then another
abbrev pub read_both : {A B : Type 0} → Reader A → Reader B → Reader (A × B)
read_both p q start ts = then_read (p start ts) λ a. λ between late. then_read (q between late) λ b. λ end rest. Got (a, b) end rest

-- a reader, with the value that its value makes at its first token
abbrev pub read_made : {A B : Type 0} → Reader A → (ℕ → A → B) → Reader B
read_made p make start ts = then_read (p start ts) λ a. λ end rest. Got (make start.token a) end rest

-- a reader before another, with the value of the second, and with that of the first
abbrev pub read_behind : {A B : Type 0} → Reader A → Reader B → Reader B
read_behind p q = read_made (read_both p q) λ n v. v.1

abbrev pub read_before : {A B : Type 0} → Reader A → Reader B → Reader A
read_before p q = read_made (read_both p q) λ n v. v.0

-- one of two readers, by a test of what is in hand
abbrev pub read_if : {A : Type 0} → Bool → Reading A → Reading A → Reading A
read_if test this that = if test then this else that

-- the first of two readers where the list begins with such a token, else the second
abbrev pub read_either : {A : Type 0} → List ℕ → Reader A → Reader A → Reader A
read_either kinds p q start ts = if begins kinds ts then p start ts else q start ts

-- the first of two readers where the list begins with such tokens, else the second
abbrev pub read_fork : {A : Type 0} → List (List ℕ) → Reader A → Reader A → Reader A
read_fork kinds p q start ts = if begins_so kinds ts then p start ts else q start ts

-- a reader where the list begins with such a token
abbrev pub read_optional : {A : Type 0} → List ℕ → Reader A → Reader (Option A)
read_optional kinds p start ts =
    if begins kinds ts then then_read (p start ts) (λ a. λ end rest. Got (Some a) end rest) else Got None start ts

-- a value before those of a reading
abbrev pub in_front : {A : Type 0} → List A → Reading (List A) → Reading (List A)
in_front front reading = then_read reading λ others. λ end rest. Got (front ++ others) end rest

-- a reader as long as the list begins with such a token, at most so many times
abbrev pub read_many : {A : Type 0} → List ℕ → Reader A → ℕ → Reader (List A)
read_many kinds p zero start ts = Got [] start ts
read_many kinds p (suc room) start ts =
    if begins kinds ts
    then then_read (p start ts) (λ a. λ end rest. in_front (a ∷ []) (read_many kinds p room end rest))
    else Got [] start ts

-- a reader once, and then as long as the list begins with such a token
abbrev pub read_several : {A : Type 0} → List ℕ → Reader A → ℕ → Reader (List A)
read_several kinds p room = read_made (read_both p (read_many kinds p room)) λ n v. v.0 ∷ v.1

-- a reader once, and then behind separators, as long as the list begins with such a token
abbrev pub read_separated : {A B : Type 0} → List ℕ → Reader A → Reader B → ℕ → Reader (List A)
read_separated kinds p separator room =
    read_made (read_both p (read_many kinds (read_behind separator p) room)) λ n v. v.0 ∷ v.1

-- a reader, whatever value it has, meaning this one
abbrev pub read_as : {A B : Type 0} → Reader A → B → Reader B
read_as p b = read_made p λ n v. b

-- what a token means as a symbol, as a word that stands for itself, as a word, a number, a text and a name
abbrev pub means_mark : Mark → Token → Option (Unit {0})
means_mark symbol (Symbol other) = if nat_eq (mark_kind other) (mark_kind symbol) then Some tt else None
means_mark symbol token = None

abbrev pub means_the_word : List ℕ → Token → Option (Unit {0})
means_the_word word (Word other) = if pointwise nat_eq other word then Some tt else None
means_the_word word token = None

abbrev pub means_word : Token → Option (List ℕ)
means_word (Word a) = Some a
means_word token = None

abbrev pub means_number : Token → Option ℤ
means_number (Number a) = Some a
means_number token = None

abbrev pub means_text : Token → Option (List ℕ)
means_text (Text a) = Some a
means_text token = None

abbrev pub means_name : Token → Option (List ℕ)
means_name (Word a) = if is_reserved a then None else Some a
means_name token = None

-- a symbol
abbrev pub read_mark : Mark → Reader (Unit {0})
read_mark symbol = read_one (means_mark symbol)

-- a word that stands for itself
abbrev pub read_the_word : List ℕ → Reader (Unit {0})
read_the_word word = read_one (means_the_word word)

-- any word, any number and any text
abbrev pub read_word : Reader (List ℕ)
read_word = read_one means_word

abbrev pub read_number : Reader ℤ
read_number = read_one means_number

abbrev pub read_text : Reader (List ℕ)
read_text = read_one means_text

-- a name with its token
abbrev pub read_name : Reader Named
read_name = read_made (read_one means_name) λ n a. record { name = a; token = n }

-- an expression that is looked at by itself: the queries of its own EXISTS stand beside it
abbrev pub read_alone : {A : Type 0} → Reader A → Reader (A × List (Tree AQuery))
read_alone p start ts =
    then_read (p (record { token = start.token; exists = [] }) ts) λ a. λ end rest.
    Got (a, end.exists) (record { token = end.token; exists = start.exists }) rest

-- a query of an EXISTS, with its number: it is put behind those before it
abbrev pub read_numbered : Reader (Tree AQuery) → Reader ℕ
read_numbered p start ts =
    then_read (p (record { token = start.token; exists = [] }) ts) λ query. λ end rest.
    Got (length start.exists) (record { token = end.token; exists = start.exists ++ query ∷ [] }) rest
