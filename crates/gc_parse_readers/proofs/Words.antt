-- Languages that have a word, by the words that the grammar is written with.
use Rattle.std.proofs.Common.{refl, ℕ, [], ◌∷◌, ◌++◌, None}
use Rattle.gc_lex.specs.declared.token.Token.{Token}
use Rattle.gc_grammar.specs.Words.{Lang, One, next, this, that, ◌⋅◌, ◌∣◌, ◌⇒◌, optional, many, several, separated}
use Rattle.gc_parse_readers.proofs.Beginnings.{HasWord}

pub has_one : {A : Type 0} {Means : Token → A → Type 0} (token : Token) (a : A) → Means token a → HasWord (One Means)
has_one token a means start = record {
  tokens = token ∷ [];
  value = a;
  end = next start;
  spelled = record { token = token; alone = refl; means = means; after = refl };
}

pub has_both : {A B : Type 0} {L : Lang A} {M : Lang B} → HasWord L → HasWord M → HasWord (L ⋅ M)
has_both first second start =
    let early = first start in
    let late = second early.end in
    record {
      tokens = early.tokens ++ late.tokens;
      value = (early.value, late.value);
      end = late.end;
      spelled = record { early = early.tokens; late = late.tokens; between = early.end; whole = refl; before = early.spelled; behind = late.spelled };
    }

pub has_made : {A B : Type 0} {L : Lang A} {make : ℕ → A → B} → HasWord L → HasWord (L ⇒ make)
has_made {make = make} some start =
    let word = some start in
    record {
      tokens = word.tokens;
      value = make start.token word.value;
      end = word.end;
      spelled = record { value = word.value; spelled = word.spelled; made = refl };
    }

pub has_first : {A : Type 0} {L M : Lang A} → HasWord L → HasWord (L ∣ M)
has_first some start = let word = some start in record { tokens = word.tokens; value = word.value; end = word.end; spelled = this word.spelled }

pub has_second : {A : Type 0} {L M : Lang A} → HasWord M → HasWord (L ∣ M)
has_second some start = let word = some start in record { tokens = word.tokens; value = word.value; end = word.end; spelled = that word.spelled }

pub has_none : {A : Type 0} {L : Lang A} → HasWord (optional L)
has_none start = record { tokens = []; value = None; end = start; spelled = (refl, refl) }

pub has_no : {A : Type 0} {L : Lang A} → HasWord (many L)
has_no start = record { tokens = []; value = []; end = start; spelled = (refl, refl) }

pub has_several : {A : Type 0} {L : Lang A} → HasWord L → HasWord (several L)
has_several some = has_made (has_both some has_no)

pub has_separated : {A B : Type 0} {L : Lang A} {M : Lang B} → HasWord L → HasWord (separated L M)
has_separated some = has_made (has_both some has_no)
