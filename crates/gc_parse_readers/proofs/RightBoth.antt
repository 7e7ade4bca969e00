-- A reader and then another are right, and so is one whose value is made into another.
use Rattle.std.proofs.Common.{◌≡◌, refl, sym, ap, ◌∙◌, subst, ℕ, suc, ◌+◌, ◌<◌, arith, add_assoc, length-append, Bool, true, false, if◌then◌else◌, List, [], ◌∷◌, ◌++◌, append_assoc, length}
use Rattle.std.proofs.lemmas.Bool.{and_from}
use Rattle.gc_lex.specs.declared.token.Token.{Token}
use Rattle.gc_grammar.specs.Words.{Point, Lang, ◌⋅◌, ◌⇒◌, ◌▸◌, ◌◂◌, as_value, name}
use Rattle.gc_parse_readers.specs.Kinds.{name_kind, kind, among, begins, apart}
use Rattle.gc_parse_readers.specs.Readers.{Reader, Reading, Got, Stuck, then_read, read_both, read_made, read_behind, read_before, read_as, read_name}
use Rattle.gc_parse_readers.specs.Right.{front, Found, Sound, Right, Outline, Opens, one_of, both_of}
use Rattle.gc_parse_readers.proofs.KindLaws.{neither, kept_apart, among_left, among_right, begins_neither_left, begins_neither_right, alike_behind}
use Rattle.gc_parse_readers.proofs.RightTokens.{right_plain_name}

-- where a whole list is short enough for one room, what is behind its beginning is so for another
abbrev pub Leaves : ℕ → Outline → ℕ → Type 0
Leaves j o i = (used rest : List Token) → Opens o used → length (used ++ rest) < j → length rest < i

-- one room for both
pub leaves_room : (j : ℕ) (o : Outline) → Leaves j o j
leaves_room j o used rest opens short = let whole = length-append used rest in omega (arith, whole)

-- what uses a token leaves one less
pub leaves_one_less : (j : ℕ) (o : Outline) → o.empty ≡ false → Leaves (suc j) o j
leaves_one_less j o some [] rest opens short = neither opens some
leaves_one_less j o some (token ∷ used) rest opens short = let whole = length-append used rest in omega (arith, whole)

-- how both begin
both_empty : (b : Bool) (first later : List ℕ) (k : ℕ) → among first k ≡ true → among (if b then first ++ later else first) k ≡ true
both_empty true first later k h = among_left first later k h
both_empty false first later k h = h

pub both_opens : (o p : Outline) (early late : List Token) → Opens o early → Opens p late → Opens (both_of o p) (early ++ late)
both_opens o p [] [] before behind = and_from o.empty p.empty before behind
both_opens o p [] (token ∷ late) before behind =
    subst (λ b. among (if b then o.first ++ p.first else o.first) (kind token) ≡ true) (sym before) (among_right o.first p.first (kind token) behind)
both_opens o p (token ∷ early) late before behind = both_empty o.empty o.first p.first (kind token) before

-- what both would not go on with, the first would not go on with before the second, nor the second behind it
pub behind_first : (o p : Outline) (late rest : List Token) → Opens p late → apart o.more p.first ≡ true → begins (both_of o p).more rest ≡ false → begins o.more (late ++ rest) ≡ false
behind_first o p [] rest opens c behind =
    begins_neither_left o.more p.more rest (subst (λ b. begins (if b then o.more ++ p.more else p.more) rest ≡ false) opens behind)
behind_first o p (token ∷ late) rest opens c behind = kept_apart o.more p.first (kind token) c opens

behind_second : (b : Bool) (more later : List ℕ) (rest : List Token) → begins (if b then more ++ later else later) rest ≡ false → begins later rest ≡ false
behind_second true more later rest h = begins_neither_right more later rest h
behind_second false more later rest h = h

-- behind a first reading, the second
both_then : {A B : Type 0} (room later : ℕ) (L : Lang A) (M : Lang B) (p : Reader A) (q : Reader B) (start between : Point) (ts late : List Token) (a : A)
    → (first : Found room L p start ts a between late)
    → ((rest : List Token) → length (first.used ++ rest) < room → length rest < later)
    → (second : Reading B) → Sound later M q between late second
    → Sound room (L ⋅ M) (read_both p q) start ts (then_read second λ b. λ end rest. Got (a, b) end rest)
both_then room later L M p q start between ts late a first leaves (Got b end rest) second = record {
  used = first.used ++ second.used;
  whole = first.whole ∙ ap (λ us. first.used ++ us) second.whole ∙ sym (append_assoc first.used second.used rest);
  place =
      second.place ∙ ap (λ n. n + length second.used) first.place ∙ add_assoc start.token (length first.used) (length second.used)
      ∙ ap (λ n. start.token + n) (sym (length-append first.used second.used));
  spelled = record { early = first.used; late = second.used; between = between; whole = refl; before = first.spelled; behind = second.spelled };
  again = λ other same short.
      let parts = append_assoc first.used second.used other in
      let within = subst (λ us. length us < room) parts short in
      rw (parts, first.again (second.used ++ other) (ap front second.whole ∙ alike_behind second.used rest other same) within)
      (rw (second.again other same (leaves (second.used ++ other) within)) refl);
}
both_then room later L M p q start between ts late a first leaves (Stuck place) second = record {
  used = first.used ++ second.used;
  rest = second.rest;
  whole = first.whole ∙ ap (λ us. first.used ++ us) second.whole ∙ sym (append_assoc first.used second.used second.rest);
  at =
      second.at ∙ ap (λ n. n + length second.used) first.place ∙ add_assoc start.token (length first.used) (length second.used)
      ∙ ap (λ n. start.token + n) (sym (length-append first.used second.used));
  again = λ other same short.
      let parts = append_assoc first.used second.used other in
      let within = subst (λ us. length us < room) parts short in
      rw (parts, first.again (second.used ++ other) (ap front second.whole ∙ alike_behind second.used second.rest other same) within)
      (rw (second.again other same (leaves (second.used ++ other) within)) refl);
}

-- a first reading, and the second behind it
both_sound : {A B : Type 0} (j i room later : ℕ) (L : Lang A) (M : Lang B) (p : Reader A) (q q' : Reader B) (o : Outline)
    → Leaves j o i → Leaves room o later
    → ((start end : Point) (ts : List Token) (a : A) → L start ts a end → Opens o ts)
    → ((between : Point) (late : List Token) → length late < i → Sound later M q between late (q' between late))
    → (start : Point) (ts : List Token) → length ts < j → (first : Reading A) → Sound room L p start ts first
    → Sound room (L ⋅ M) (read_both p q) start ts (then_read first λ a. λ between late. then_read (q' between late) λ b. λ end rest. Got (a, b) end rest)
both_sound j i room later L M p q q' o leaves leaves_later opened second start ts short (Got a between late) first =
    let opens = opened start between first.used a first.spelled in
    both_then room later L M p q start between ts late a first (λ rest. leaves_later first.used rest opens) (q' between late)
    (second between late (leaves first.used late opens (subst (λ us. length us < j) first.whole short)))
both_sound j i room later L M p q q' o leaves leaves_later opened second start ts short (Stuck place) first = record {
  used = first.used;
  rest = first.rest;
  whole = first.whole;
  at = first.at;
  again = λ other same within. rw (first.again other same within) refl;
}

-- one and then another, where the room for the second is what the first leaves
pub right_both_leaving : {j J i I : ℕ} {A B : Type 0} {L M : Lang A} {p q : Reader A} {o : Outline} {L' M' : Lang B} {p' q' : Reader B} {o' : Outline}
    → Leaves j o i → Leaves J o I → Right j J L M p q o → Right i I L' M' p' q' o' → apart o.more o'.first ≡ true
    → Right j J (L ⋅ L') (M ⋅ M') (read_both p p') (read_both q q') (both_of o o')
right_both_leaving {j = j} {J = J} {i = i} {I = I} {L = L} {M = M} {p = p} {q = q} {o = o} {L' = L'} {M' = M'} {p' = p'} {q' = q'} {o' = o'} leaves leaves_later first second c = record {
  sound = λ start ts short. both_sound j i J I L L' q q' p' o leaves leaves_later first.opened second.sound start ts short (p start ts) (first.sound start ts short);
  complete = λ start end used rest v m short behind.
      let opens = second.opened_by m.between end m.late v.1 m.behind in
      let parts = ap (λ us. us ++ rest) m.whole ∙ append_assoc m.early m.late rest in
      let within = subst (λ us. length us < j) parts short in
      rw (parts, first.complete start m.between m.early (m.late ++ rest) v.0 m.before within (behind_first o o' m.late rest opens c behind))
      (rw (second.complete m.between end m.late rest v.1 m.behind
      (leaves m.early (m.late ++ rest) (first.opened_by start m.between m.early v.0 m.before) within)
      (behind_second o'.empty o.more o'.more rest behind)) refl);
  opened = λ start end ts v l.
      subst (Opens (both_of o o')) (sym l.whole)
      (both_opens o o' l.early l.late (first.opened start l.between l.early v.0 l.before) (second.opened l.between end l.late v.1 l.behind));
  opened_by = λ start end ts v m.
      subst (Opens (both_of o o')) (sym m.whole)
      (both_opens o o' m.early m.late (first.opened_by start m.between m.early v.0 m.before) (second.opened_by m.between end m.late v.1 m.behind));
}

-- one and then another
pub right_both : {j J : ℕ} {A B : Type 0} {L M : Lang A} {p q : Reader A} {o : Outline} {L' M' : Lang B} {p' q' : Reader B} {o' : Outline}
    → Right j J L M p q o → Right j J L' M' p' q' o' → apart o.more o'.first ≡ true
    → Right j J (L ⋅ L') (M ⋅ M') (read_both p p') (read_both q q') (both_of o o')
right_both {j = j} {J = J} {o = o} first second c = right_both_leaving (leaves_room j o) (leaves_room J o) first second c

-- a reading, and what is made of its value
made_sound : {A B : Type 0} (room : ℕ) (L : Lang A) (q : Reader A) (make : ℕ → A → B) (start : Point) (ts : List Token)
    → (reading : Reading A) → Sound room L q start ts reading
    → Sound room (L ⇒ make) (read_made q make) start ts (then_read reading λ a. λ end rest. Got (make start.token a) end rest)
made_sound room L q make start ts (Got a end rest) found = record {
  used = found.used;
  whole = found.whole;
  place = found.place;
  spelled = record { value = a; spelled = found.spelled; made = refl };
  again = λ other same short. rw (found.again other same short) refl;
}
made_sound room L q make start ts (Stuck place) refused = record {
  used = refused.used;
  rest = refused.rest;
  whole = refused.whole;
  at = refused.at;
  again = λ other same short. rw (refused.again other same short) refl;
}

-- with the value that its value makes
pub right_made : {j J : ℕ} {A B : Type 0} {L M : Lang A} {p q : Reader A} {o : Outline} {make : ℕ → A → B}
    → Right j J L M p q o → Right j J (L ⇒ make) (M ⇒ make) (read_made p make) (read_made q make) o
right_made {J = J} {L = L} {p = p} {q = q} {make = make} right = record {
  sound = λ start ts short. made_sound J L q make start ts (p start ts) (right.sound start ts short);
  complete = λ start end used rest b m short behind. rw (right.complete start end used rest m.value m.spelled short behind, m.made) refl;
  opened = λ start end ts b l. right.opened start end ts l.value l.spelled;
  opened_by = λ start end ts b m. right.opened_by start end ts m.value m.spelled;
}

-- one before another, with the value of the second
pub right_behind : {j J : ℕ} {A B : Type 0} {L M : Lang A} {p q : Reader A} {o : Outline} {L' M' : Lang B} {p' q' : Reader B} {o' : Outline}
    → Right j J L M p q o → Right j J L' M' p' q' o' → apart o.more o'.first ≡ true
    → Right j J (L ▸ L') (M ▸ M') (read_behind p p') (read_behind q q') (both_of o o')
right_behind first second c = right_made (right_both first second c)

-- one before another, with the value of the first
pub right_before : {j J : ℕ} {A B : Type 0} {L M : Lang A} {p q : Reader A} {o : Outline} {L' M' : Lang B} {p' q' : Reader B} {o' : Outline}
    → Right j J L M p q o → Right j J L' M' p' q' o' → apart o.more o'.first ≡ true
    → Right j J (L ◂ L') (M ◂ M') (read_before p p') (read_before q q') (both_of o o')
right_before first second c = right_made (right_both first second c)

-- whatever value it has, meaning one
pub right_as : {j J : ℕ} {A B : Type 0} {L M : Lang A} {p q : Reader A} {o : Outline} {b : B}
    → Right j J L M p q o → Right j J (as_value L b) (as_value M b) (read_as p b) (read_as q b) o
right_as right = right_made right

-- a name with its token
pub right_name : {j J : ℕ} → Right j J name name read_name read_name (one_of (name_kind ∷ []))
right_name = right_made right_plain_name
