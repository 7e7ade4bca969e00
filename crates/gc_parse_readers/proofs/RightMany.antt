-- A reader of any number of what another reader reads is right, with and without separators.
use Rattle.std.proofs.Common.{◌≡◌, refl, sym, ap, ◌∙◌, subst, ℕ, zero, suc, pred, ◌+◌, ◌<◌, ◌≤◌, add-zero, add_assoc, arith, le_refl, lt_of_lt_of_le, not-suc-le-zero, length-append, Bool, true, false, if◌then◌else◌, List, [], ◌∷◌, ◌++◌, append_assoc, length}
use Rattle.std.proofs.lemmas.Option.{none-some}
use Rattle.gc_lex.specs.declared.token.Token.{Token}
use Rattle.gc_grammar.specs.Words.{Point, Lang, many, several, separated}
use Rattle.gc_parse_readers.specs.Kinds.{kind, begins, covers, apart}
use Rattle.gc_parse_readers.specs.Readers.{Reader, Reading, Got, Stuck, then_read, in_front, read_many, read_several, read_separated}
use Rattle.gc_parse_readers.specs.Right.{front, Found, Sound, Right, Outline, Opens, both_of, optional_of, several_of, separated_of}
use Rattle.gc_parse_readers.proofs.KindLaws.{kept_apart, begins_neither_left, begins_neither_right, begins_alike, alike_behind, not_covered, opens_covered, opens_first}
use Rattle.gc_parse_readers.proofs.RightBoth.{leaves_one_less, right_both, right_made, right_behind}
use Rattle.gc_parse_readers.proofs.RightChoices.{chosen_again}

-- where the list does not begin so, none is read
many_none : {A : Type 0} (kinds : List ℕ) (q : Reader A) (room : ℕ) (start : Point) (ts : List Token)
    → length ts < room → begins kinds ts ≡ false → read_many kinds q room start ts ≡ Got [] start ts
many_none kinds q zero start ts short chosen = absurd (not-suc-le-zero short)
many_none kinds q (suc room) start ts short chosen = rw chosen refl

-- where it does, one is read and then the others
many_some : {A : Type 0} (kinds : List ℕ) (q : Reader A) (room : ℕ) (start between : Point) (ts late : List Token) (a : A)
    → length ts < room → begins kinds ts ≡ true → q start ts ≡ Got a between late
    → read_many kinds q room start ts ≡ in_front (a ∷ []) (read_many kinds q (pred room) between late)
many_some kinds q zero start between ts late a short chosen reads = absurd (not-suc-le-zero short)
many_some kinds q (suc room) start between ts late a short chosen reads = rw chosen (rw reads refl)

-- where it does, and one is refused, so are all
many_refused : {A : Type 0} (kinds : List ℕ) (q : Reader A) (room place : ℕ) (start : Point) (ts : List Token)
    → length ts < room → begins kinds ts ≡ true → q start ts ≡ Stuck place → read_many kinds q room start ts ≡ Stuck place
many_refused kinds q zero place start ts short chosen reads = absurd (not-suc-le-zero short)
many_refused kinds q (suc room) place start ts short chosen reads = rw chosen (rw reads refl)

-- one that uses a token leaves one less
leaves_pred : (room : ℕ) (o : Outline) (used rest : List Token) → o.empty ≡ false → Opens o used → length (used ++ rest) < room → length rest < pred room
leaves_pred zero o used rest some opens short = absurd (not-suc-le-zero short)
leaves_pred (suc room) o used rest some opens short = leaves_one_less room o some used rest opens short

pred_within : (n m : ℕ) → n ≤ m → pred n ≤ m
pred_within zero m h = h
pred_within (suc n) m h = omega arith

-- behind one reading, the others
many_then : {A : Type 0} (J room : ℕ) (L : Lang A) (q : Reader A) (kinds : List ℕ) (o : Outline) (start between : Point) (ts late : List Token) (a : A)
    → room ≤ J → begins kinds ts ≡ true → o.empty ≡ false → (first : Found J L q start ts a between late) → Opens o first.used
    → (others : Reading (List A)) → Sound (pred room) (many L) (read_many kinds q (pred room)) between late others
    → Sound room (many L) (read_many kinds q room) start ts (in_front (a ∷ []) others)
many_then J room L q kinds o start between ts late a within chosen some first opens (Got others end rest) second = record {
  used = first.used ++ second.used;
  whole = first.whole ∙ ap (λ us. first.used ++ us) second.whole ∙ sym (append_assoc first.used second.used rest);
  place =
      second.place ∙ ap (λ n. n + length second.used) first.place ∙ add_assoc start.token (length first.used) (length second.used)
      ∙ ap (λ n. start.token + n) (sym (length-append first.used second.used));
  spelled = (first.used, second.used, between, refl, first.spelled, second.spelled);
  again = λ other same short.
      let parts = append_assoc first.used second.used other in
      let us = second.used ++ other in
      let fits = subst (λ vs. length vs < room) parts short in
      let alike = ap front second.whole ∙ alike_behind second.used rest other same in
      ap (read_many kinds q room start) parts
      ∙ many_some kinds q room start between (first.used ++ us) us a fits
      (chosen_again kinds ts first.used late us true first.whole alike chosen) (first.again us alike (lt_of_lt_of_le fits within))
      ∙ ap (in_front (a ∷ [])) (second.again other same (leaves_pred room o first.used us some opens fits));
}
many_then J room L q kinds o start between ts late a within chosen some first opens (Stuck place) second = record {
  used = first.used ++ second.used;
  rest = second.rest;
  whole = first.whole ∙ ap (λ us. first.used ++ us) second.whole ∙ sym (append_assoc first.used second.used second.rest);
  at =
      second.at ∙ ap (λ n. n + length second.used) first.place ∙ add_assoc start.token (length first.used) (length second.used)
      ∙ ap (λ n. start.token + n) (sym (length-append first.used second.used));
  again = λ other same short.
      let parts = append_assoc first.used second.used other in
      let us = second.used ++ other in
      let fits = subst (λ vs. length vs < room) parts short in
      let alike = ap front second.whole ∙ alike_behind second.used second.rest other same in
      ap (read_many kinds q room start) parts
      ∙ many_some kinds q room start between (first.used ++ us) us a fits
      (chosen_again kinds ts first.used late us true first.whole alike chosen) (first.again us alike (lt_of_lt_of_le fits within))
      ∙ ap (in_front (a ∷ [])) (second.again other same (leaves_pred room o first.used us some opens fits));
}

-- a first reading, and the others behind it
many_first : {A : Type 0} (j J room : ℕ) (L : Lang A) (q : Reader A) (kinds : List ℕ) (o : Outline) (start : Point) (ts : List Token)
    → room ≤ J → begins kinds ts ≡ true → o.empty ≡ false → length ts < suc j
    → ((start end : Point) (us : List Token) (a : A) → L start us a end → Opens o us)
    → (others : Reader (List A))
    → ((between : Point) (late : List Token) → length late < j
    → Sound (pred room) (many L) (read_many kinds q (pred room)) between late (others between late))
    → (first : Reading A) → Sound J L q start ts first
    → Sound room (many L) (read_many kinds q room) start ts (then_read first λ a. λ end rest. in_front (a ∷ []) (others end rest))
many_first j J room L q kinds o start ts within chosen some short opened others sound (Got a between late) first =
    let opens = opened start between first.used a first.spelled in
    many_then J room L q kinds o start between ts late a within chosen some first opens (others between late)
    (sound between late (leaves_one_less j o some first.used late opens (subst (λ us. length us < suc j) first.whole short)))
many_first j J room L q kinds o start ts within chosen some short opened others sound (Stuck place) first = record {
  used = first.used;
  rest = first.rest;
  whole = first.whole;
  at = first.at;
  again = λ other same fits.
      many_refused kinds q room place start (first.used ++ other) fits
      (chosen_again kinds ts first.used first.rest other true first.whole same chosen) (first.again other same (lt_of_lt_of_le fits within));
}

-- none or some, by the first token
many_choice : {A : Type 0} (room : ℕ) (L : Lang A) (q : Reader A) (kinds : List ℕ) (start : Point) (ts : List Token) (reading : Reading (List A))
    → (begins kinds ts ≡ true → Sound room (many L) (read_many kinds q room) start ts reading)
    → (b : Bool) → begins kinds ts ≡ b → Sound room (many L) (read_many kinds q room) start ts (if b then reading else Got [] start ts)
many_choice room L q kinds start ts reading sound true chosen = sound chosen
many_choice room L q kinds start ts reading sound false chosen = record {
  used = [];
  whole = refl;
  place = sym (add-zero start.token);
  spelled = (refl, refl);
  again = λ other same short. many_none kinds q room start other short (begins_alike kinds other ts (sym same) ∙ chosen);
}

many_sound : {j J : ℕ} {A : Type 0} {L M : Lang A} {p q : Reader A} {o : Outline} (kinds : List ℕ) → o.empty ≡ false → Right j J L M p q o
    → (n room : ℕ) → n ≤ j → room ≤ J → (start : Point) (ts : List Token) → length ts < n
    → Sound room (many L) (read_many kinds q room) start ts (read_many kinds p n start ts)
many_sound kinds some right zero room small within start ts short = absurd (not-suc-le-zero short)
many_sound {j = j} {J = J} {L = L} {p = p} {q = q} {o = o} kinds some right (suc n) room small within start ts short =
    many_choice room L q kinds start ts (then_read (p start ts) λ a. λ end rest. in_front (a ∷ []) (read_many kinds p n end rest))
    (λ chosen.
    many_first n J room L q kinds o start ts within chosen some short right.opened (read_many kinds p n)
    (many_sound kinds some right n (pred room) (omega arith) (pred_within room J within)) (p start ts)
    (right.sound start ts (lt_of_lt_of_le short small)))
    (begins kinds ts) refl

-- how many begin
many_opens : {A : Type 0} (M : Lang A) (o : Outline) → o.empty ≡ false → ((start end : Point) (ts : List Token) (a : A) → M start ts a end → Opens o ts)
    → (start end : Point) (ts : List Token) (vs : List A) → many M start ts vs end → Opens (optional_of o) ts
many_opens M o some opened start end [] vs m = refl
many_opens M o some opened start end (token ∷ ts) [] m = absurd (none-some token (sym (ap front m.0)))
many_opens M o some opened start end (token ∷ ts) (a ∷ others) m =
    ap (begins o.first) m.3 ∙ opens_first o m.0 m.1 (opened start m.2 m.0 a m.4) some

-- what many would not go on with, one would not go on with before others
many_behind : (o : Outline) (late rest : List Token) → Opens (optional_of o) late → apart o.more o.first ≡ true → begins (optional_of o).more rest ≡ false → begins o.more (late ++ rest) ≡ false
many_behind o [] rest opens c behind = begins_neither_right o.first o.more rest behind
many_behind o (token ∷ late) rest opens c behind = kept_apart o.more o.first (kind token) c opens

many_complete : {j J : ℕ} {A : Type 0} {L M : Lang A} {p q : Reader A} {o : Outline} (kinds : List ℕ)
    → covers kinds o.first ≡ true → covers o.first kinds ≡ true → o.empty ≡ false → apart o.more o.first ≡ true → Right j J L M p q o
    → (vs : List A) (n : ℕ) → n ≤ j → (start end : Point) (used rest : List Token)
    → many M start used vs end → length (used ++ rest) < n → begins (optional_of o).more rest ≡ false
    → read_many kinds p n start (used ++ rest) ≡ Got vs end rest
many_complete {p = p} {o = o} kinds c d some e right [] n small start end used rest m short behind =
    ap (λ us. read_many kinds p n start (us ++ rest)) m.0
    ∙ many_none kinds p n start rest (subst (λ us. length (us ++ rest) < n) m.0 short)
    (not_covered o.first kinds rest d (begins_neither_left o.first o.more rest behind))
    ∙ ap (λ at. Got [] at rest) (sym m.1)
many_complete {j = j} {M = M} {p = p} {o = o} kinds c d some e right (a ∷ others) n small start end used rest m short behind =
    let parts = ap (λ us. us ++ rest) m.3 ∙ append_assoc m.0 m.1 rest in
    let fits = subst (λ us. length us < n) parts short in
    let opens = right.opened_by start m.2 m.0 a m.4 in
    let later = many_behind o m.1 rest (many_opens M o some right.opened_by m.2 end m.1 others m.5) e behind in
    ap (read_many kinds p n start) parts
    ∙ many_some kinds p n start m.2 (m.0 ++ (m.1 ++ rest)) (m.1 ++ rest) a fits (opens_covered o kinds m.0 (m.1 ++ rest) opens some c)
    (right.complete start m.2 m.0 (m.1 ++ rest) a m.4 (lt_of_lt_of_le fits small) later)
    ∙ ap (in_front (a ∷ []))
    (many_complete kinds c d some e right others (pred n) (pred_within n j small) m.2 end m.1 rest m.5 (leaves_pred n o m.0 (m.1 ++ rest) some opens fits) behind)

-- any number of times
pub right_many : {j J : ℕ} {A : Type 0} {L M : Lang A} {p q : Reader A} {o : Outline} (kinds : List ℕ)
    → covers kinds o.first ≡ true → covers o.first kinds ≡ true → o.empty ≡ false → apart o.more o.first ≡ true
    → Right j J L M p q o → Right j J (many L) (many M) (read_many kinds p j) (read_many kinds q J) (optional_of o)
right_many {j = j} {J = J} {L = L} {M = M} {o = o} kinds c d some e right = record {
  sound = many_sound kinds some right j J (le_refl j) (le_refl J);
  complete = λ start end used rest vs. many_complete kinds c d some e right vs j (le_refl j) start end used rest;
  opened = many_opens L o some right.opened;
  opened_by = many_opens M o some right.opened_by;
}

-- once or more often
pub right_several : {j J : ℕ} {A : Type 0} {L M : Lang A} {p q : Reader A} {o : Outline} (kinds : List ℕ)
    → covers kinds o.first ≡ true → covers o.first kinds ≡ true → o.empty ≡ false → apart o.more o.first ≡ true
    → Right j J L M p q o → Right j J (several L) (several M) (read_several kinds p j) (read_several kinds q J) (several_of o)
right_several kinds c d some e right = right_made (right_both right (right_many kinds c d some e right) e)

-- once or more often, with a separator between
pub right_separated : {j J : ℕ} {A B : Type 0} {L M : Lang A} {p q : Reader A} {o : Outline} {L' M' : Lang B} {p' q' : Reader B} {o' : Outline} (kinds : List ℕ)
    → covers kinds (both_of o' o).first ≡ true → covers (both_of o' o).first kinds ≡ true → (both_of o' o).empty ≡ false
    → apart o'.more o.first ≡ true → apart (both_of o' o).more (both_of o' o).first ≡ true → apart o.more (both_of o' o).first ≡ true
    → Right j J L M p q o → Right j J L' M' p' q' o'
    → Right j J (separated L L') (separated M M') (read_separated kinds p p' j) (read_separated kinds q q' J) (separated_of o o')
right_separated kinds c d some e f g right separator =
    right_made (right_both right (right_many kinds c d some f (right_behind separator right e)) g)
