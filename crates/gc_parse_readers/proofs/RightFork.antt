-- A choice by several tokens is right, where both ways are told apart by them and neither reader is
-- stuck before them.
use Rattle.std.proofs.Common.{◌≡◌, refl, sym, ap, ◌∙◌, ℕ, ◌+◌, ◌<◌, ◌≤◌, arith, Bool, true, false, if◌then◌else◌, List, [], ◌∷◌, ◌++◌, length}
use Rattle.gc_lex.specs.declared.token.Token.{Token}
use Rattle.gc_grammar.specs.Words.{Point, Lang, this, that, ◌∣◌}
use Rattle.gc_parse_readers.specs.Kinds.{begins, begins_so}
use Rattle.gc_parse_readers.specs.Readers.{Reader, Reading, Got, Stuck, read_fork}
use Rattle.gc_parse_readers.specs.Right.{Alike, Refused, Sound, Right, Outline, either_of}
use Rattle.gc_parse_readers.proofs.KindLaws.{begins_neither_left, begins_neither_right}
use Rattle.gc_parse_readers.proofs.RightChoices.{either_opens}
use Rattle.gc_parse_readers.proofs.Forks.{matched, Reaches, Firm, begins_so_alike}

-- each word of a language begins with such tokens, or none does, whatever follows it
abbrev pub Fronts : {A : Type 0} → List (List ℕ) → Bool → Lang A → Type 0
Fronts {A = A} sets does L = (start end : Point) (ts other : List Token) (a : A) → L start ts a end → begins_so sets (ts ++ other) ≡ does

-- one way of a fork, at the rooms of its laws: its words begin with all these tokens or none does, and
-- its reader comes past those before the last
pub record Way {A : Type 0} (j J : ℕ) (init : List (List ℕ)) (last : List ℕ) (does : Bool) (L M : Lang A) (p : Reader A) : Type 0 where
  pub fronts : Fronts (init ++ last ∷ []) does L
  pub fronts_by : Fronts (init ++ last ∷ []) does M
  pub firm : Firm j init p

-- a choice that was made so is made so where a reader is refused again
refused_again : {A : Type 0} (room : ℕ) (init : List (List ℕ)) (last : List ℕ) (p : Reader A) (start : Point) (ts : List Token) (place : ℕ)
    → (refused : Refused room p start ts place) → start.token + matched init ts ≤ place → (does : Bool) → begins_so (init ++ last ∷ []) ts ≡ does
    → (other : List Token) → Alike refused.rest other → begins_so (init ++ last ∷ []) (refused.used ++ other) ≡ does
refused_again room init last p start ts place refused most does chosen other same =
    let at = refused.at in
    let here : matched init ts ≤ length refused.used = omega (arith, most, at) in
    begins_so_alike init last refused.used refused.rest other same (rw (← refused.whole) here)
    ∙ ap (begins_so (init ++ last ∷ [])) (sym refused.whole) ∙ chosen

fork_first : {A : Type 0} (room : ℕ) (L M : Lang A) (p q : Reader A) (init : List (List ℕ)) (last : List ℕ) (start : Point) (ts : List Token)
    → begins_so (init ++ last ∷ []) ts ≡ true → Fronts (init ++ last ∷ []) true L
    → (reading : Reading A) → Reaches init start ts reading → Sound room L p start ts reading
    → Sound room (L ∣ M) (read_fork (init ++ last ∷ []) p q) start ts reading
fork_first room L M p q init last start ts chosen fronts (Got a end rest) most found = record {
  used = found.used;
  whole = found.whole;
  place = found.place;
  spelled = this found.spelled;
  again = λ other same short. rw (fronts start end found.used other a found.spelled) (found.again other same short);
}
fork_first room L M p q init last start ts chosen fronts (Stuck place) most refused = record {
  used = refused.used;
  rest = refused.rest;
  whole = refused.whole;
  at = refused.at;
  again = λ other same short. rw (refused_again room init last p start ts place refused most true chosen other same) (refused.again other same short);
}

fork_second : {A : Type 0} (room : ℕ) (L M : Lang A) (p q : Reader A) (init : List (List ℕ)) (last : List ℕ) (start : Point) (ts : List Token)
    → begins_so (init ++ last ∷ []) ts ≡ false → Fronts (init ++ last ∷ []) false M
    → (reading : Reading A) → Reaches init start ts reading → Sound room M q start ts reading
    → Sound room (L ∣ M) (read_fork (init ++ last ∷ []) p q) start ts reading
fork_second room L M p q init last start ts chosen fronts (Got a end rest) most found = record {
  used = found.used;
  whole = found.whole;
  place = found.place;
  spelled = that found.spelled;
  again = λ other same short. rw (fronts start end found.used other a found.spelled) (found.again other same short);
}
fork_second room L M p q init last start ts chosen fronts (Stuck place) most refused = record {
  used = refused.used;
  rest = refused.rest;
  whole = refused.whole;
  at = refused.at;
  again = λ other same short. rw (refused_again room init last q start ts place refused most false chosen other same) (refused.again other same short);
}

-- the fork gives what the chosen reader does
fork_sound : {j J : ℕ} {A : Type 0} {L M : Lang A} {p q : Reader A} {o : Outline} {L' M' : Lang A} {p' q' : Reader A} {o' : Outline} (init : List (List ℕ)) (last : List ℕ)
    → Way j J init last true L M p → Way j J init last false L' M' p' → Right j J L M p q o → Right j J L' M' p' q' o'
    → (start : Point) (ts : List Token) → length ts < j → (b : Bool) → begins_so (init ++ last ∷ []) ts ≡ b
    → Sound J (L ∣ L') (read_fork (init ++ last ∷ []) q q') start ts (if b then p start ts else p' start ts)
fork_sound {J = J} {L = L} {p = p} {q = q} {L' = L'} {p' = p'} {q' = q'} init last way way' first second start ts short true chosen =
    fork_first J L L' q q' init last start ts chosen way.fronts (p start ts) (way.firm start ts short) (first.sound start ts short)
fork_sound {J = J} {L = L} {p = p} {q = q} {L' = L'} {p' = p'} {q' = q'} init last way way' first second start ts short false chosen =
    fork_second J L L' q q' init last start ts chosen way'.fronts (p' start ts) (way'.firm start ts short) (second.sound start ts short)

fork_complete : {j J : ℕ} {A : Type 0} {L M : Lang A} {p q : Reader A} {o : Outline} {L' M' : Lang A} {p' q' : Reader A} {o' : Outline} (init : List (List ℕ)) (last : List ℕ)
    → Way j J init last true L M p → Way j J init last false L' M' p' → Right j J L M p q o → Right j J L' M' p' q' o'
    → (start end : Point) (used rest : List Token) (a : A) → (M ∣ M') start used a end → length (used ++ rest) < j
    → begins o.more rest ≡ false → begins o'.more rest ≡ false
    → read_fork (init ++ last ∷ []) p p' start (used ++ rest) ≡ Got a end rest
fork_complete init last way way' first second start end used rest a (this m) short behind behind' =
    rw (way.fronts_by start end used rest a m) (first.complete start end used rest a m short behind)
fork_complete init last way way' first second start end used rest a (that m) short behind behind' =
    rw (way'.fronts_by start end used rest a m) (second.complete start end used rest a m short behind')

-- one of two, by several tokens, which choose the first
pub right_fork : {j J : ℕ} {A : Type 0} {L M : Lang A} {p q : Reader A} {o : Outline} {L' M' : Lang A} {p' q' : Reader A} {o' : Outline} (init : List (List ℕ)) (last : List ℕ)
    → Way j J init last true L M p → Way j J init last false L' M' p' → Right j J L M p q o → Right j J L' M' p' q' o'
    → Right j J (L ∣ L') (M ∣ M') (read_fork (init ++ last ∷ []) p p') (read_fork (init ++ last ∷ []) q q') (either_of o o')
right_fork {L = L} {M = M} {o = o} {L' = L'} {M' = M'} {o' = o'} init last way way' first second = record {
  sound = λ start ts short. fork_sound init last way way' first second start ts short (begins_so (init ++ last ∷ []) ts) refl;
  complete = λ start end used rest a m short behind.
      fork_complete init last way way' first second start end used rest a m short
      (begins_neither_left o.more o'.more rest behind) (begins_neither_right o.more o'.more rest behind);
  opened = λ start end ts a. either_opens L L' o o' start end ts a (first.opened start end ts a) (second.opened start end ts a);
  opened_by = λ start end ts a. either_opens M M' o o' start end ts a (first.opened_by start end ts a) (second.opened_by start end ts a);
}

-- the other way round
swapped : {A : Type 0} (L M : Lang A) (start end : Point) (ts : List Token) (a : A) → (L ∣ M) start ts a end → (M ∣ L) start ts a end
swapped L M start end ts a (this l) = that l
swapped L M start end ts a (that m) = this m

swapped_sound : {A : Type 0} (room : ℕ) (L M : Lang A) (q : Reader A) (start : Point) (ts : List Token) (reading : Reading A)
    → Sound room (L ∣ M) q start ts reading → Sound room (M ∣ L) q start ts reading
swapped_sound room L M q start ts (Got a end rest) found = record {
  used = found.used;
  whole = found.whole;
  place = found.place;
  spelled = swapped L M start end found.used a found.spelled;
  again = found.again;
}
swapped_sound room L M q start ts (Stuck place) refused = refused

-- the same, where they choose the second
pub right_fork_second : {j J : ℕ} {A : Type 0} {L M : Lang A} {p q : Reader A} {o : Outline} {L' M' : Lang A} {p' q' : Reader A} {o' : Outline} (init : List (List ℕ)) (last : List ℕ)
    → Way j J init last false L M p → Way j J init last true L' M' p' → Right j J L M p q o → Right j J L' M' p' q' o'
    → Right j J (L ∣ L') (M ∣ M') (read_fork (init ++ last ∷ []) p' p) (read_fork (init ++ last ∷ []) q' q) (either_of o o')
right_fork_second {J = J} {L = L} {M = M} {p = p} {q = q} {o = o} {L' = L'} {M' = M'} {p' = p'} {q' = q'} {o' = o'} init last way way' first second = record {
  sound = λ start ts short.
      swapped_sound J L' L (read_fork (init ++ last ∷ []) q' q) start ts (read_fork (init ++ last ∷ []) p' p start ts)
      (fork_sound init last way' way second first start ts short (begins_so (init ++ last ∷ []) ts) refl);
  complete = λ start end used rest a m short behind.
      fork_complete init last way' way second first start end used rest a (swapped M M' start end used a m) short
      (begins_neither_right o.more o'.more rest behind) (begins_neither_left o.more o'.more rest behind);
  opened = λ start end ts a. either_opens L L' o o' start end ts a (first.opened start end ts a) (second.opened start end ts a);
  opened_by = λ start end ts a. either_opens M M' o o' start end ts a (first.opened_by start end ts a) (second.opened_by start end ts a);
}
