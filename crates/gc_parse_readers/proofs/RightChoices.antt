-- A choice by one token is right, and so is a reader of what may be absent.
use Rattle.std.proofs.Common.{◌≡◌, refl, sym, ap, ◌∙◌, ℕ, ◌<◌, add-zero, Bool, true, false, if◌then◌else◌, List, [], ◌∷◌, ◌++◌, length, Option, Some, None}
use Rattle.std.proofs.lemmas.Option.{none-some}
use Rattle.gc_lex.specs.declared.token.Token.{Token}
use Rattle.gc_grammar.specs.Words.{Point, Lang, this, that, ◌∣◌, optional}
use Rattle.gc_parse_readers.specs.Kinds.{kind, begins, covers, apart}
use Rattle.gc_parse_readers.specs.Readers.{Reader, Reading, Got, Stuck, then_read, read_either, read_optional}
use Rattle.gc_parse_readers.specs.Right.{front, Alike, Sound, Right, Outline, Opens, either_of, optional_of}
use Rattle.gc_parse_readers.proofs.KindLaws.{or_true, among_left, among_right, begins_neither_left, begins_neither_right, begins_alike, alike_behind, not_covered, opens_covered, opens_apart}

-- what opens as one of two outlines
pub left_opens : (o p : Outline) (ts : List Token) → Opens o ts → Opens (either_of o p) ts
left_opens o p [] opens = rw opens refl
left_opens o p (token ∷ ts) opens = among_left o.first p.first (kind token) opens

pub right_opens : (o p : Outline) (ts : List Token) → Opens p ts → Opens (either_of o p) ts
right_opens o p [] opens = rw opens (or_true o.empty)
right_opens o p (token ∷ ts) opens = among_right o.first p.first (kind token) opens

-- a choice that was made so is made so again
pub chosen_again : (kinds : List ℕ) (ts used rest other : List Token) (b : Bool) → ts ≡ used ++ rest → Alike rest other → begins kinds ts ≡ b → begins kinds (used ++ other) ≡ b
chosen_again kinds ts used rest other b whole same chosen =
    begins_alike kinds (used ++ other) (used ++ rest) (alike_behind used other rest (sym same)) ∙ ap (begins kinds) (sym whole) ∙ chosen

-- what one of two readers gave is what the choice gives
pub first_sound : {A : Type 0} (room : ℕ) (L M : Lang A) (p q : Reader A) (kinds : List ℕ) (start : Point) (ts : List Token) → begins kinds ts ≡ true
    → (reading : Reading A) → Sound room L p start ts reading → Sound room (L ∣ M) (read_either kinds p q) start ts reading
first_sound room L M p q kinds start ts chosen (Got a end rest) found = record {
  used = found.used;
  whole = found.whole;
  place = found.place;
  spelled = this found.spelled;
  again = λ other same short. rw (chosen_again kinds ts found.used rest other true found.whole same chosen) (found.again other same short);
}
first_sound room L M p q kinds start ts chosen (Stuck place) refused = record {
  used = refused.used;
  rest = refused.rest;
  whole = refused.whole;
  at = refused.at;
  again = λ other same short. rw (chosen_again kinds ts refused.used refused.rest other true refused.whole same chosen) (refused.again other same short);
}

pub second_sound : {A : Type 0} (room : ℕ) (L M : Lang A) (p q : Reader A) (kinds : List ℕ) (start : Point) (ts : List Token) → begins kinds ts ≡ false
    → (reading : Reading A) → Sound room M q start ts reading → Sound room (L ∣ M) (read_either kinds p q) start ts reading
second_sound room L M p q kinds start ts chosen (Got a end rest) found = record {
  used = found.used;
  whole = found.whole;
  place = found.place;
  spelled = that found.spelled;
  again = λ other same short. rw (chosen_again kinds ts found.used rest other false found.whole same chosen) (found.again other same short);
}
second_sound room L M p q kinds start ts chosen (Stuck place) refused = record {
  used = refused.used;
  rest = refused.rest;
  whole = refused.whole;
  at = refused.at;
  again = λ other same short. rw (chosen_again kinds ts refused.used refused.rest other false refused.whole same chosen) (refused.again other same short);
}

-- the choice gives what the chosen reader does
either_sound : {A : Type 0} (room : ℕ) (L M : Lang A) (p q p' q' : Reader A) (kinds : List ℕ) (start : Point) (ts : List Token)
    → Sound room L p start ts (p' start ts) → Sound room M q start ts (q' start ts)
    → (b : Bool) → begins kinds ts ≡ b → Sound room (L ∣ M) (read_either kinds p q) start ts (if b then p' start ts else q' start ts)
either_sound room L M p q p' q' kinds start ts first second true chosen = first_sound room L M p q kinds start ts chosen (p' start ts) first
either_sound room L M p q p' q' kinds start ts first second false chosen = second_sound room L M p q kinds start ts chosen (q' start ts) second

either_complete : {j J : ℕ} {A : Type 0} {L M : Lang A} {p q : Reader A} {o : Outline} {L' M' : Lang A} {p' q' : Reader A} {o' : Outline} (kinds : List ℕ)
    → covers kinds o.first ≡ true → apart kinds o'.first ≡ true → o.empty ≡ false → o'.empty ≡ false
    → Right j J L M p q o → Right j J L' M' p' q' o' → (start end : Point) (used rest : List Token) (a : A)
    → (M ∣ M') start used a end → length (used ++ rest) < j → begins (either_of o o').more rest ≡ false
    → read_either kinds p p' start (used ++ rest) ≡ Got a end rest
either_complete {o = o} {o' = o'} kinds c d some some' first second start end used rest a (this m) short behind =
    rw (opens_covered o kinds used rest (first.opened_by start end used a m) some c)
    (first.complete start end used rest a m short (begins_neither_left o.more o'.more rest behind))
either_complete {o = o} {o' = o'} kinds c d some some' first second start end used rest a (that m) short behind =
    rw (opens_apart o' kinds used rest (second.opened_by start end used a m) some' d)
    (second.complete start end used rest a m short (begins_neither_right o.more o'.more rest behind))

pub either_opens : {A : Type 0} (L M : Lang A) (o p : Outline) (start end : Point) (ts : List Token) (a : A)
    → (L start ts a end → Opens o ts) → (M start ts a end → Opens p ts) → (L ∣ M) start ts a end → Opens (either_of o p) ts
either_opens L M o p start end ts a first second (this l) = left_opens o p ts (first l)
either_opens L M o p start end ts a first second (that m) = right_opens o p ts (second m)

-- one of two, by the first token
pub right_either : {j J : ℕ} {A : Type 0} {L M : Lang A} {p q : Reader A} {o : Outline} {L' M' : Lang A} {p' q' : Reader A} {o' : Outline} (kinds : List ℕ)
    → covers kinds o.first ≡ true → apart kinds o'.first ≡ true → o.empty ≡ false → o'.empty ≡ false
    → Right j J L M p q o → Right j J L' M' p' q' o' → Right j J (L ∣ L') (M ∣ M') (read_either kinds p p') (read_either kinds q q') (either_of o o')
right_either {J = J} {L = L} {M = M} {p = p} {q = q} {o = o} {L' = L'} {M' = M'} {p' = p'} {q' = q'} {o' = o'} kinds c d some some' first second = record {
  sound = λ start ts short.
      either_sound J L L' q q' p p' kinds start ts (first.sound start ts short) (second.sound start ts short) (begins kinds ts) refl;
  complete = either_complete kinds c d some some' first second;
  opened = λ start end ts a. either_opens L L' o o' start end ts a (first.opened start end ts a) (second.opened start end ts a);
  opened_by = λ start end ts a. either_opens M M' o o' start end ts a (first.opened_by start end ts a) (second.opened_by start end ts a);
}

-- where the list begins so, what may be absent is what the reader gave
present_sound : {A : Type 0} (room : ℕ) (L : Lang A) (q : Reader A) (kinds : List ℕ) (start : Point) (ts : List Token) → begins kinds ts ≡ true
    → (reading : Reading A) → Sound room L q start ts reading
    → Sound room (optional L) (read_optional kinds q) start ts (then_read reading λ a. λ end rest. Got (Some a) end rest)
present_sound room L q kinds start ts chosen (Got a end rest) found = record {
  used = found.used;
  whole = found.whole;
  place = found.place;
  spelled = found.spelled;
  again = λ other same short.
      rw (chosen_again kinds ts found.used rest other true found.whole same chosen) (rw (found.again other same short) refl);
}
present_sound room L q kinds start ts chosen (Stuck place) refused = record {
  used = refused.used;
  rest = refused.rest;
  whole = refused.whole;
  at = refused.at;
  again = λ other same short.
      rw (chosen_again kinds ts refused.used refused.rest other true refused.whole same chosen) (rw (refused.again other same short) refl);
}

optional_sound : {A : Type 0} (room : ℕ) (L : Lang A) (p q : Reader A) (kinds : List ℕ) (start : Point) (ts : List Token)
    → Sound room L q start ts (p start ts) → (b : Bool) → begins kinds ts ≡ b
    → Sound room (optional L) (read_optional kinds q) start ts (if b then then_read (p start ts) (λ a. λ end rest. Got (Some a) end rest) else Got None start ts)
optional_sound room L p q kinds start ts sound true chosen = present_sound room L q kinds start ts chosen (p start ts) sound
optional_sound room L p q kinds start ts sound false chosen = record {
  used = [];
  whole = refl;
  place = sym (add-zero start.token);
  spelled = (refl, refl);
  again = λ other same short. rw (begins_alike kinds other ts (sym same) ∙ chosen) refl;
}

optional_complete : {j J : ℕ} {A : Type 0} {L M : Lang A} {p q : Reader A} {o : Outline} (kinds : List ℕ)
    → covers kinds o.first ≡ true → covers o.first kinds ≡ true → o.empty ≡ false → Right j J L M p q o
    → (start end : Point) (used rest : List Token) (v : Option A)
    → optional M start used v end → length (used ++ rest) < j → begins (optional_of o).more rest ≡ false
    → read_optional kinds p start (used ++ rest) ≡ Got v end rest
optional_complete {o = o} kinds c d some right start end used rest None m short behind =
    rw (m.0, m.1) (rw (not_covered o.first kinds rest d (begins_neither_left o.first o.more rest behind)) refl)
optional_complete {o = o} kinds c d some right start end used rest (Some a) m short behind =
    rw (opens_covered o kinds used rest (right.opened_by start end used a m) some c)
    (rw (right.complete start end used rest a m short (begins_neither_right o.first o.more rest behind)) refl)

optional_opens : {A : Type 0} (L : Lang A) (o : Outline) (start end : Point) (ts : List Token) (v : Option A) → o.empty ≡ false
    → ((a : A) → L start ts a end → Opens o ts) → optional L start ts v end → Opens (optional_of o) ts
optional_opens L o start end [] v some opened l = refl
optional_opens L o start end (token ∷ ts) None some opened l = absurd (none-some token (sym (ap front l.0)))
optional_opens L o start end (token ∷ ts) (Some a) some opened l = opened a l

-- at most once
pub right_optional : {j J : ℕ} {A : Type 0} {L M : Lang A} {p q : Reader A} {o : Outline} (kinds : List ℕ)
    → covers kinds o.first ≡ true → covers o.first kinds ≡ true → o.empty ≡ false
    → Right j J L M p q o → Right j J (optional L) (optional M) (read_optional kinds p) (read_optional kinds q) (optional_of o)
right_optional {J = J} {L = L} {M = M} {p = p} {q = q} {o = o} kinds c d some right = record {
  sound = λ start ts short. optional_sound J L p q kinds start ts (right.sound start ts short) (begins kinds ts) refl;
  complete = optional_complete kinds c d some right;
  opened = λ start end ts v. optional_opens L o start end ts v some (right.opened start end ts);
  opened_by = λ start end ts v. optional_opens M o start end ts v some (right.opened_by start end ts);
}
