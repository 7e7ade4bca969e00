-- Readers that are stuck only behind a beginning: one token, one reader behind another, and choices.
use Rattle.std.proofs.Common.{◌≡◌, refl, sym, ap, ◌∙◌, arith, ℕ, suc, ◌+◌, ◌<◌, add-zero, add_assoc, length-append, Bool, true, false, if◌then◌else◌, pos, List, [], ◌∷◌, ◌++◌, append_assoc, length, codes, Option, Some, None}
use Rattle.gc_lex.specs.declared.token.Token.{Token}
use Rattle.gc_lex.specs.declared.token.Token.TheVariants.{Word, Number, Text, Symbol}
use Rattle.gc_lex.specs.declared.token.Mark.{Mark}
use Rattle.gc_grammar.specs.Words.{Point, Lang, One, IsName, this, that, ◌⋅◌, ◌∣◌, ◌⇒◌, ◌▸◌, ◌◂◌, optional, as_value, alone, mark, the_word, word, number, text, plain_name, name}
use Rattle.gc_parse_readers.specs.Kinds.{begins, begins_so}
use Rattle.gc_parse_readers.specs.Readers.{Reader, Reading, Got, Stuck, then_read, meant, read_one, read_both, read_made, read_behind, read_before, read_as, read_either, read_fork, read_optional, means_name, read_mark, read_the_word, read_word, read_number, read_text, read_name}
use Rattle.gc_parse_readers.proofs.RightTokens.{mark_told, the_word_told, word_told, number_told, text_told, name_told}
use Rattle.gc_parse_readers.proofs.Beginnings.{HasWord, Read, Goes, Viable}
use Rattle.gc_parse_readers.proofs.Words.{has_one, has_both, has_made, has_first, has_none}

-- one token, by what it means
one_goes : {A : Type 0} (Means : Token → A → Type 0) (start : Point) (token : Token) (ts : List Token) → HasWord (One Means)
    → (meaning : Option A) → ((a : A) → meaning ≡ Some a → Means token a) → Goes (One Means) start (token ∷ ts) (meant meaning start ts)
one_goes Means start token ts some None told =
    let due = some start in
    record {
      used = [];
      rest = token ∷ ts;
      whole = refl;
      at = sym (add-zero start.token);
      more = due.tokens;
      value = due.value;
      end = due.end;
      spelled = due.spelled;
    }
one_goes Means start token ts some (Some a) told = record {
  used = token ∷ [];
  whole = refl;
  place = refl;
  spelled = record { token = token; alone = refl; means = told a refl; after = refl };
}

pub viable_one : {j : ℕ} {A : Type 0} {Means : Token → A → Type 0} {means : Token → Option A}
    → ((token : Token) (a : A) → means token ≡ Some a → Means token a) → HasWord (One Means) → Viable j (One Means) (read_one means)
viable_one {j = j} {A = A} {Means = Means} {means = means} told some = record { word = some; goes = goes }
  where
    goes : (start : Point) (ts : List Token) → length ts < j → Goes (One Means) start ts (read_one means start ts)
    goes start [] short =
        let due = some start in
        record {
          used = [];
          rest = [];
          whole = refl;
          at = sym (add-zero start.token);
          more = due.tokens;
          value = due.value;
          end = due.end;
          spelled = due.spelled;
        }
    goes start (token ∷ ts) short = one_goes Means start token ts some (means token) (told token)

pub viable_mark : {j : ℕ} (m : Mark) → Viable j (mark m) (read_mark m)
viable_mark m = viable_one (mark_told m) (has_one (Symbol m) tt refl)

pub viable_the_word : {j : ℕ} (w : List ℕ) → Viable j (the_word w) (read_the_word w)
viable_the_word w = viable_one (the_word_told w) (has_one (Word w) tt refl)

pub viable_word : {j : ℕ} → Viable j word read_word
viable_word = viable_one word_told (has_one (Word (codes "a")) (codes "a") refl)

pub viable_number : {j : ℕ} → Viable j number read_number
viable_number = viable_one number_told (has_one (Number (pos 1)) (pos 1) refl)

pub viable_text : {j : ℕ} → Viable j text read_text
viable_text = viable_one text_told (has_one (Text []) [] refl)

pub viable_plain_name : {j : ℕ} → Viable j plain_name (read_one means_name)
unfolding IsName
viable_plain_name = viable_one name_told (has_one (Word (codes "a")) (codes "a") (refl, refl))

-- behind a first reading, the second
both_second : {A B : Type 0} (L : Lang A) (M : Lang B) (start between : Point) (ts late : List Token) (a : A)
    → (first : Read L start ts a between late) → (second : Reading B) → Goes M between late second
    → Goes (L ⋅ M) start ts (then_read second λ b. λ end rest. Got (a, b) end rest)
both_second L M start between ts late a first (Got b end rest) second = record {
  used = first.used ++ second.used;
  whole = first.whole ∙ ap (λ us. first.used ++ us) second.whole ∙ sym (append_assoc first.used second.used rest);
  place =
      second.place ∙ ap (λ n. n + length second.used) first.place ∙ add_assoc start.token (length first.used) (length second.used)
      ∙ ap (λ n. start.token + n) (sym (length-append first.used second.used));
  spelled = record { early = first.used; late = second.used; between = between; whole = refl; before = first.spelled; behind = second.spelled };
}
both_second L M start between ts late a first (Stuck place) second = record {
  used = first.used ++ second.used;
  rest = second.rest;
  whole = first.whole ∙ ap (λ us. first.used ++ us) second.whole ∙ sym (append_assoc first.used second.used second.rest);
  at =
      second.at ∙ ap (λ n. n + length second.used) first.place ∙ add_assoc start.token (length first.used) (length second.used)
      ∙ ap (λ n. start.token + n) (sym (length-append first.used second.used));
  more = second.more;
  value = (a, second.value);
  end = second.end;
  spelled = record {
    early = first.used;
    late = second.used ++ second.more;
    between = between;
    whole = append_assoc first.used second.used second.more;
    before = first.spelled;
    behind = second.spelled;
  };
}

-- a first reading, and the second behind it
pub both_goes : {A B : Type 0} (L : Lang A) (M : Lang B) (q : Reader B) → HasWord M → (start : Point) (ts : List Token)
    → (first : Reading A) → Goes L start ts first
    → ((a : A) (between : Point) (late : List Token) → Read L start ts a between late → Goes M between late (q between late))
    → Goes (L ⋅ M) start ts (then_read first λ a. λ between late. then_read (q between late) λ b. λ end rest. Got (a, b) end rest)
both_goes L M q some start ts (Got a between late) first behind =
    both_second L M start between ts late a first (q between late) (behind a between late first)
both_goes L M q some start ts (Stuck place) first behind =
    let later = some first.end in
    record {
      used = first.used;
      rest = first.rest;
      whole = first.whole;
      at = first.at;
      more = first.more ++ later.tokens;
      value = (first.value, later.value);
      end = later.end;
      spelled = record {
        early = first.used ++ first.more;
        late = later.tokens;
        between = first.end;
        whole = sym (append_assoc first.used first.more later.tokens);
        before = first.spelled;
        behind = later.spelled;
      };
    }

-- what is left is no longer than all
pub left_short : (j : ℕ) (ts used rest : List Token) → ts ≡ used ++ rest → length ts < j → length rest < j
left_short j ts used rest whole short = let parts = ap length whole ∙ length-append used rest in omega (arith, parts)

pub viable_both : {j : ℕ} {A B : Type 0} {L : Lang A} {p : Reader A} {M : Lang B} {q : Reader B}
    → Viable j L p → Viable j M q → Viable j (L ⋅ M) (read_both p q)
viable_both {j = j} {L = L} {p = p} {M = M} {q = q} first second = record {
  word = has_both first.word second.word;
  goes = λ start ts short.
      both_goes L M q second.word start ts (p start ts) (first.goes start ts short)
      (λ a between late read. second.goes between late (left_short j ts read.used late read.whole short));
}

-- what is made of the value of a reading
pub made_goes : {A B : Type 0} (L : Lang A) (make : ℕ → A → B) (start : Point) (ts : List Token) → (reading : Reading A) → Goes L start ts reading
    → Goes (L ⇒ make) start ts (then_read reading λ a. λ end rest. Got (make start.token a) end rest)
made_goes L make start ts (Got a end rest) read = record {
  used = read.used;
  whole = read.whole;
  place = read.place;
  spelled = record { value = a; spelled = read.spelled; made = refl };
}
made_goes L make start ts (Stuck place) begun = record {
  used = begun.used;
  rest = begun.rest;
  whole = begun.whole;
  at = begun.at;
  more = begun.more;
  value = make start.token begun.value;
  end = begun.end;
  spelled = record { value = begun.value; spelled = begun.spelled; made = refl };
}

pub viable_made : {j : ℕ} {A B : Type 0} {L : Lang A} {p : Reader A} {make : ℕ → A → B} → Viable j L p → Viable j (L ⇒ make) (read_made p make)
viable_made {L = L} {p = p} {make = make} viable = record {
  word = has_made viable.word;
  goes = λ start ts short. made_goes L make start ts (p start ts) (viable.goes start ts short);
}

pub viable_behind : {j : ℕ} {A B : Type 0} {L : Lang A} {p : Reader A} {M : Lang B} {q : Reader B}
    → Viable j L p → Viable j M q → Viable j (L ▸ M) (read_behind p q)
viable_behind first second = viable_made (viable_both first second)

pub viable_before : {j : ℕ} {A B : Type 0} {L : Lang A} {p : Reader A} {M : Lang B} {q : Reader B}
    → Viable j L p → Viable j M q → Viable j (L ◂ M) (read_before p q)
viable_before first second = viable_made (viable_both first second)

pub viable_as : {j : ℕ} {A B : Type 0} {L : Lang A} {p : Reader A} {b : B} → Viable j L p → Viable j (as_value L b) (read_as p b)
viable_as viable = viable_made viable

pub viable_name : {j : ℕ} → Viable j name read_name
viable_name = viable_made viable_plain_name

-- behind an opening symbol there is one token less
pub viable_opening : {j : ℕ} {A : Type 0} {L : Lang A} {p : Reader A} (m : Mark) → Viable j L p → Viable (suc j) (mark m ▸ L) (read_behind (read_mark m) p)
viable_opening {j = j} {L = L} {p = p} m inside = record {
  word = has_made (has_both (viable_mark {j = j} m).word inside.word);
  goes = λ start ts short.
      made_goes (mark m ⋅ L) (λ n v. v.1) start ts (read_both (read_mark m) p start ts)
      (both_goes (mark m) L p inside.word start ts (read_mark m start ts) ((viable_mark {j = suc j} m).goes start ts short)
      (λ u between late read. inside.goes between late (one_less j ts read.used late read.whole read.spelled.token read.spelled.alone short)));
}
  where
    one_less : (j : ℕ) (ts used rest : List Token) → ts ≡ used ++ rest → (token : Token) → used ≡ token ∷ [] → length ts < suc j → length rest < j
    one_less j ts used rest whole token alone short =
        let parts = ap length whole ∙ length-append used rest in
        let one = ap length alone in
        omega (arith, parts, one)

-- what is spelled by a language is by a wider one
pub goes_wider : {A : Type 0} (L M : Lang A) → ((start end : Point) (ts : List Token) (a : A) → L start ts a end → M start ts a end)
    → (start : Point) (ts : List Token) (reading : Reading A) → Goes L start ts reading → Goes M start ts reading
goes_wider L M wider start ts (Got a end rest) read = record {
  used = read.used;
  whole = read.whole;
  place = read.place;
  spelled = wider start end read.used a read.spelled;
}
goes_wider L M wider start ts (Stuck place) begun = record {
  used = begun.used;
  rest = begun.rest;
  whole = begun.whole;
  at = begun.at;
  more = begun.more;
  value = begun.value;
  end = begun.end;
  spelled = wider start begun.end (begun.used ++ begun.more) begun.value begun.spelled;
}

pub viable_wider : {j : ℕ} {A : Type 0} {L M : Lang A} {p : Reader A} → ((start end : Point) (ts : List Token) (a : A) → L start ts a end → M start ts a end)
    → Viable j L p → Viable j M p
viable_wider {L = L} {M = M} {p = p} wider viable = record {
  word = λ start.
      let w = viable.word start in
      record { tokens = w.tokens; value = w.value; end = w.end; spelled = wider start w.end w.tokens w.value w.spelled };
  goes = λ start ts short. goes_wider L M wider start ts (p start ts) (viable.goes start ts short);
}

-- a choice, however it is made
either_goes : {A : Type 0} (L M : Lang A) (start : Point) (ts : List Token) (one other : Reading A) → Goes L start ts one → Goes M start ts other
    → (b : Bool) → Goes (L ∣ M) start ts (if b then one else other)
either_goes L M start ts one other first second true = goes_wider L (L ∣ M) (λ start end ts a l. this l) start ts one first
either_goes L M start ts one other first second false = goes_wider M (L ∣ M) (λ start end ts a m. that m) start ts other second

pub viable_either : {j : ℕ} {A : Type 0} (kinds : List ℕ) {L M : Lang A} {p q : Reader A}
    → Viable j L p → Viable j M q → Viable j (L ∣ M) (read_either kinds p q)
viable_either kinds {L = L} {M = M} {p = p} {q = q} first second = record {
  word = has_first first.word;
  goes = λ start ts short.
      either_goes L M start ts (p start ts) (q start ts) (first.goes start ts short) (second.goes start ts short) (begins kinds ts);
}

pub viable_fork : {j : ℕ} {A : Type 0} (kinds : List (List ℕ)) {L M : Lang A} {p q : Reader A}
    → Viable j L p → Viable j M q → Viable j (L ∣ M) (read_fork kinds p q)
viable_fork kinds {L = L} {M = M} {p = p} {q = q} first second = record {
  word = has_first first.word;
  goes = λ start ts short.
      either_goes L M start ts (p start ts) (q start ts) (first.goes start ts short) (second.goes start ts short) (begins_so kinds ts);
}

-- the same, where the reader that is tried first is of the second language
turned : {A : Type 0} (L M : Lang A) (start end : Point) (ts : List Token) (a : A) → (M ∣ L) start ts a end → (L ∣ M) start ts a end
turned L M start end ts a (this m) = that m
turned L M start end ts a (that l) = this l

pub viable_fork_second : {j : ℕ} {A : Type 0} (kinds : List (List ℕ)) {L M : Lang A} {p q : Reader A}
    → Viable j L p → Viable j M q → Viable j (L ∣ M) (read_fork kinds q p)
viable_fork_second kinds {L = L} {M = M} first second = viable_wider (turned L M) (viable_fork kinds second first)

-- what may be absent
present_goes : {A : Type 0} (L : Lang A) (start : Point) (ts : List Token) (reading : Reading A) → Goes L start ts reading
    → Goes (optional L) start ts (then_read reading λ a. λ end rest. Got (Some a) end rest)
present_goes L start ts (Got a end rest) read = record { used = read.used; whole = read.whole; place = read.place; spelled = read.spelled }
present_goes L start ts (Stuck place) begun = record {
  used = begun.used;
  rest = begun.rest;
  whole = begun.whole;
  at = begun.at;
  more = begun.more;
  value = Some begun.value;
  end = begun.end;
  spelled = begun.spelled;
}

pub optional_goes : {A : Type 0} (L : Lang A) (start : Point) (ts : List Token) (reading : Reading A) → Goes L start ts reading
    → (b : Bool) → Goes (optional L) start ts (if b then then_read reading (λ a. λ end rest. Got (Some a) end rest) else Got None start ts)
optional_goes L start ts reading goes true = present_goes L start ts reading goes
optional_goes L start ts reading goes false = record { used = []; whole = refl; place = sym (add-zero start.token); spelled = (refl, refl) }

pub viable_optional : {j : ℕ} {A : Type 0} (kinds : List ℕ) {L : Lang A} {p : Reader A} → Viable j L p → Viable j (optional L) (read_optional kinds p)
viable_optional kinds {L = L} {p = p} viable = record {
  word = has_none;
  goes = λ start ts short. optional_goes L start ts (p start ts) (viable.goes start ts short) (begins kinds ts);
}
