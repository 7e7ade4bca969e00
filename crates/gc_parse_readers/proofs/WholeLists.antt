-- Readers of whole lists of tokens: what they give is spelled by the whole list, where they are stuck
-- they are stuck whatever follows, and a list that is spelled they read to its end.
use Rattle.std.proofs.Common.{◌≡◌, refl, sym, ap, ◌∙◌, subst, ℕ, ◌+◌, ◌<◌, ◌≤◌, add_assoc, length-append, lt_of_lt_of_le, not-suc-le-zero, zero, false, List, [], ◌∷◌, ◌++◌, append_assoc, length, Option, Some, None}
use Rattle.std.proofs.lemmas.Option.{none-some}
use Rattle.gc_lex.specs.declared.token.Token.{Token}
use Rattle.gc_grammar.specs.Words.{Point, Lang, ◌⋅◌, ◌⇒◌, ◌▸◌, optional}
use Rattle.gc_parse_readers.specs.Kinds.{begins}
use Rattle.gc_grammar.specs.Patterns.{listed}
use Rattle.gc_parse_readers.specs.Readers.{Reader, Reading, Got, Stuck, then_read, read_both, read_made, read_behind}
use Rattle.gc_parse_readers.specs.Right.{front, Alike, Found, Refused, Sound, Right, Outline, Opens}
use Rattle.gc_parse_readers.proofs.KindLaws.{neither, alike_behind}
use Rattle.gc_parse_readers.proofs.RightBoth.{Leaves}
use Rattle.gc_parse_readers.specs.QueryReaders.{read_unless_end}

-- a reading of a whole list says what it should
abbrev pub WholeSound : {A : Type 0} → ℕ → Lang A → Reader A → Point → List Token → Reading A → Type 0
WholeSound room L q start ts (Got a end rest) = (rest ≡ []) × L start ts a end
WholeSound room L q start ts (Stuck place) = Refused room q start ts place

-- a reader p of whole lists shorter than j is right about L, with q for those shorter than J; what M spells it reads
pub record WholeRight {A : Type 0} (j J : ℕ) (L M : Lang A) (p q : Reader A) : Type 0 where
  pub sound : (start : Point) (ts : List Token) → length ts < j → WholeSound J L q start ts (p start ts)
  pub complete : (start end : Point) (ts : List Token) (a : A) → M start ts a end → length ts < j → p start ts ≡ Got a end []

-- a language without the empty list
abbrev pub Used : {A : Type 0} → Lang A → Type 0
Used {A = A} L = (start end : Point) (a : A) → L start [] a end → ⊥

pub used_right : {j J : ℕ} {A : Type 0} {L M : Lang A} {p q : Reader A} {o : Outline} → o.empty ≡ false → Right j J L M p q o → Used M
used_right some right start end a m = neither (right.opened_by start end [] a m) some

pub used_both : {A B : Type 0} {L : Lang A} {M : Lang B} → Used L → Used (L ⋅ M)
used_both {A = A} {L = L} used start end v m = by m.early m.whole m.before
  where
    by : (early : List Token) → [] ≡ early ++ m.late → L start early v.0 m.between → ⊥
    by [] whole before = used start m.between v.0 before
    by (token ∷ early) whole before = none-some token (ap front whole)

-- with the value that its value makes
made_whole : {A B : Type 0} (room : ℕ) (L : Lang A) (q : Reader A) (make : ℕ → A → B) (start : Point) (ts : List Token)
    → (reading : Reading A) → WholeSound room L q start ts reading
    → WholeSound room (L ⇒ make) (read_made q make) start ts (then_read reading λ a. λ end rest. Got (make start.token a) end rest)
made_whole room L q make start ts (Got a end rest) whole = (whole.0, record { value = a; spelled = whole.1; made = refl })
made_whole room L q make start ts (Stuck place) refused = record {
  used = refused.used;
  rest = refused.rest;
  whole = refused.whole;
  at = refused.at;
  again = λ other same short. rw (refused.again other same short) refl;
}

pub whole_made : {j J : ℕ} {A B : Type 0} {L M : Lang A} {p q : Reader A} {make : ℕ → A → B}
    → WholeRight j J L M p q → WholeRight j J (L ⇒ make) (M ⇒ make) (read_made p make) (read_made q make)
whole_made {J = J} {L = L} {p = p} {q = q} {make = make} right = record {
  sound = λ start ts short. made_whole J L q make start ts (p start ts) (right.sound start ts short);
  complete = λ start end ts b m short. rw (right.complete start end ts m.value m.spelled short, m.made) refl;
}

-- behind a first reading, the whole of what is left
then_whole : {A B : Type 0} (room later : ℕ) (L : Lang A) (M : Lang B) (p : Reader A) (q : Reader B) (start between : Point) (ts late : List Token) (a : A)
    → (first : Found room L p start ts a between late)
    → ((rest : List Token) → length (first.used ++ rest) < room → length rest < later)
    → (second : Reading B) → WholeSound later M q between late second
    → WholeSound room (L ⋅ M) (read_both p q) start ts (then_read second λ b. λ end rest. Got (a, b) end rest)
then_whole room later L M p q start between ts late a first leaves (Got b end rest) second = (
  second.0,
  record { early = first.used; late = late; between = between; whole = first.whole; before = first.spelled; behind = second.1 },
)
then_whole room later L M p q start between ts late a first leaves (Stuck place) second = record {
  used = first.used ++ second.used;
  rest = second.rest;
  whole = first.whole ∙ ap (λ us. first.used ++ us) second.whole ∙ sym (append_assoc first.used second.used second.rest);
  at =
      second.at ∙ ap (λ n. n + length second.used) first.place ∙ add_assoc start.token (length first.used) (length second.used)
      ∙ ap (λ n. start.token + n) (sym (length-append first.used second.used));
  again = λ other same short.
      let parts = append_assoc first.used second.used other in
      let within = subst (λ us. length us < room) parts short in
      rw (parts, first.again (second.used ++ other) (ap front second.whole ∙ alike_behind second.used second.rest other same) within)
      (rw (second.again other same (leaves (second.used ++ other) within)) refl);
}

both_whole : {A B : Type 0} (j i room later : ℕ) (L : Lang A) (M : Lang B) (p : Reader A) (q q' : Reader B) (o : Outline)
    → Leaves j o i → Leaves room o later
    → ((start end : Point) (ts : List Token) (a : A) → L start ts a end → Opens o ts)
    → ((between : Point) (late : List Token) → length late < i → WholeSound later M q between late (q' between late))
    → (start : Point) (ts : List Token) → length ts < j → (first : Reading A) → Sound room L p start ts first
    → WholeSound room (L ⋅ M) (read_both p q) start ts (then_read first λ a. λ between late. then_read (q' between late) λ b. λ end rest. Got (a, b) end rest)
both_whole j i room later L M p q q' o leaves leaves_later opened second start ts short (Got a between late) first =
    let opens = opened start between first.used a first.spelled in
    then_whole room later L M p q start between ts late a first (λ rest. leaves_later first.used rest opens) (q' between late)
    (second between late (leaves first.used late opens (subst (λ us. length us < j) first.whole short)))
both_whole j i room later L M p q q' o leaves leaves_later opened second start ts short (Stuck place) first = record {
  used = first.used;
  rest = first.rest;
  whole = first.whole;
  at = first.at;
  again = λ other same within. rw (first.again other same within) refl;
}

-- one, and then the whole of what is left
pub whole_both : {j J i I : ℕ} {A B : Type 0} {L M : Lang A} {p q : Reader A} {o : Outline} {L' M' : Lang B} {p' q' : Reader B}
    → Leaves j o i → Leaves J o I → ((start end : Point) (ts : List Token) (b : B) → M' start ts b end → begins o.more ts ≡ false)
    → Right j J L M p q o → WholeRight i I L' M' p' q' → WholeRight j J (L ⋅ L') (M ⋅ M') (read_both p p') (read_both q q')
whole_both {j = j} {J = J} {i = i} {I = I} {L = L} {M = M} {p = p} {q = q} {o = o} {L' = L'} {p' = p'} {q' = q'} leaves leaves_later follows first second = record {
  sound = λ start ts short. both_whole j i J I L L' q q' p' o leaves leaves_later first.opened second.sound start ts short (p start ts) (first.sound start ts short);
  complete = λ start end ts v m short.
      let within = subst (λ us. length us < j) m.whole short in
      rw (m.whole, first.complete start m.between m.early m.late v.0 m.before within (follows m.between end m.late v.1 m.behind))
      (rw (second.complete m.between end m.late v.1 m.behind (leaves m.early m.late (first.opened_by start m.between m.early v.0 m.before) within)) refl);
}

pub whole_behind : {j J i I : ℕ} {A B : Type 0} {L M : Lang A} {p q : Reader A} {o : Outline} {L' M' : Lang B} {p' q' : Reader B}
    → Leaves j o i → Leaves J o I → ((start end : Point) (ts : List Token) (b : B) → M' start ts b end → begins o.more ts ≡ false)
    → Right j J L M p q o → WholeRight i I L' M' p' q' → WholeRight j J (L ▸ L') (M ▸ M') (read_behind p p') (read_behind q q')
whole_behind leaves leaves_later follows first second = whole_made (whole_both leaves leaves_later follows first second)

-- none, or some values of a language
abbrev pub ended : {A : Type 0} → Lang (List A) → Lang (List A)
ended L = optional L ⇒ λ n v. listed v

-- where the list is not at its end, the reader's reading counts
not_at_end : {A : Type 0} (q : Reader (List A)) (start : Point) (token : Token) (ts us : List Token) → Alike (token ∷ ts) us → read_unless_end q start us ≡ q start us
unfolding read_unless_end
not_at_end q start token ts [] same = absurd (none-some token (sym same))
not_at_end q start token ts (other ∷ us) same = refl

ended_some : {A : Type 0} (room : ℕ) (L : Lang (List A)) (q : Reader (List A)) (start : Point) (token : Token) (ts : List Token)
    → (reading : Reading (List A)) → WholeSound room L q start (token ∷ ts) reading → WholeSound room (ended L) (read_unless_end q) start (token ∷ ts) reading
ended_some room L q start token ts (Got vs end rest) whole = (whole.0, record { value = Some vs; spelled = whole.1; made = refl })
ended_some room L q start token ts (Stuck place) refused = record {
  used = refused.used;
  rest = refused.rest;
  whole = refused.whole;
  at = refused.at;
  again = λ other same short.
      not_at_end q start token ts (refused.used ++ other) (ap front refused.whole ∙ alike_behind refused.used refused.rest other same)
      ∙ refused.again other same short;
}

ended_sound : {A : Type 0} (j room : ℕ) (L : Lang (List A)) (p q : Reader (List A))
    → ((start : Point) (ts : List Token) → length ts < j → WholeSound room L q start ts (p start ts))
    → (start : Point) (ts : List Token) → length ts < j → WholeSound room (ended L) (read_unless_end q) start ts (read_unless_end p start ts)
unfolding read_unless_end
ended_sound j room L p q sound start [] short = (refl, record { value = None; spelled = (refl, refl); made = refl })
ended_sound j room L p q sound start (token ∷ ts) short = ended_some room L q start token ts (p start (token ∷ ts)) (sound start (token ∷ ts) short)

ended_complete : {A : Type 0} (j : ℕ) (M : Lang (List A)) (p : Reader (List A)) → Used M
    → ((start end : Point) (ts : List Token) (vs : List A) → M start ts vs end → length ts < j → p start ts ≡ Got vs end [])
    → (start end : Point) (ts : List Token) (v : Option (List A)) → optional M start ts v end → length ts < j → read_unless_end p start ts ≡ Got (listed v) end []
unfolding read_unless_end
ended_complete j M p used complete start end ts None m short = rw (m.0, m.1) refl
ended_complete j M p used complete start end [] (Some vs) m short = absurd (used start end vs m)
ended_complete j M p used complete start end (token ∷ ts) (Some vs) m short = complete start end (token ∷ ts) vs m short

-- none at the end of the list
pub whole_ended : {j J : ℕ} {A : Type 0} {L M : Lang (List A)} {p q : Reader (List A)}
    → Used M → WholeRight j J L M p q → WholeRight j J (ended L) (ended M) (read_unless_end p) (read_unless_end q)
whole_ended {j = j} {J = J} {L = L} {M = M} {p = p} {q = q} used right = record {
  sound = ended_sound j J L p q right.sound;
  complete = λ start end ts vs m short.
      ended_complete j M p used right.complete start end ts m.value m.spelled short ∙ ap (λ values. Got values end []) (sym m.made);
}

-- with no room for what is read again, any reader reads it
unread_whole : {A : Type 0} (room : ℕ) (L : Lang A) (q q' : Reader A) (start : Point) (ts : List Token)
    → (reading : Reading A) → WholeSound room L q start ts reading → WholeSound zero L q' start ts reading
unread_whole room L q q' start ts (Got a end rest) whole = whole
unread_whole room L q q' start ts (Stuck place) refused = record {
  used = refused.used;
  rest = refused.rest;
  whole = refused.whole;
  at = refused.at;
  again = λ other same short. absurd (not-suc-le-zero short);
}

pub whole_unread : {j J : ℕ} {A : Type 0} {L M : Lang A} {p q q' : Reader A} → WholeRight j J L M p q → WholeRight j zero L M p q'
whole_unread {J = J} {L = L} {p = p} {q = q} {q' = q'} right = record {
  sound = λ start ts short. unread_whole J L q q' start ts (p start ts) (right.sound start ts short);
  complete = right.complete;
}

-- of languages that spell the same
same_whole : {A : Type 0} (room : ℕ) (L N : Lang A) (q : Reader A) (start : Point) (ts : List Token)
    → ((start end : Point) (ts : List Token) (a : A) → L start ts a end → N start ts a end)
    → (reading : Reading A) → WholeSound room L q start ts reading → WholeSound room N q start ts reading
same_whole room L N q start ts same (Got a end rest) whole = (whole.0, same start end ts a whole.1)
same_whole room L N q start ts same (Stuck place) refused = refused

pub whole_same : {j J : ℕ} {A : Type 0} {L M N K : Lang A} {p q : Reader A}
    → ((start end : Point) (ts : List Token) (a : A) → L start ts a end → N start ts a end)
    → ((start end : Point) (ts : List Token) (a : A) → K start ts a end → M start ts a end)
    → WholeRight j J L M p q → WholeRight j J N K p q
whole_same {J = J} {L = L} {N = N} {p = p} {q = q} same same_by right = record {
  sound = λ start ts short. same_whole J L N q start ts same (p start ts) (right.sound start ts short);
  complete = λ start end ts a k short. right.complete start end ts a (same_by start end ts a k) short;
}

-- a reader that is right at some rooms is right at smaller ones
smaller_sound : {A : Type 0} (J room : ℕ) (L : Lang A) (q : Reader A) (start : Point) (ts : List Token) → room ≤ J
    → (reading : Reading A) → Sound J L q start ts reading → Sound room L q start ts reading
smaller_sound J room L q start ts within (Got a end rest) found = record {
  used = found.used;
  whole = found.whole;
  place = found.place;
  spelled = found.spelled;
  again = λ other same short. found.again other same (lt_of_lt_of_le short within);
}
smaller_sound J room L q start ts within (Stuck place) refused = record {
  used = refused.used;
  rest = refused.rest;
  whole = refused.whole;
  at = refused.at;
  again = λ other same short. refused.again other same (lt_of_lt_of_le short within);
}

pub right_smaller : {j J : ℕ} {A : Type 0} {L M : Lang A} {p q : Reader A} {o : Outline} (n room : ℕ) → n ≤ j → room ≤ J
    → Right j J L M p q o → Right n room L M p q o
right_smaller {J = J} {L = L} {p = p} {q = q} n room small within right = record {
  sound = λ start ts short.
      smaller_sound J room L q start ts within (p start ts) (right.sound start ts (lt_of_lt_of_le short small));
  complete = λ start end used rest a m short. right.complete start end used rest a m (lt_of_lt_of_le short small);
  opened = right.opened;
  opened_by = right.opened_by;
}
