-- The ways of a fork along the beginning of a production, a word of the grammar after another.
use Rattle.std.proofs.Common.{◌≡◌, ◌+◌, refl, sym, ap, ◌∙◌, subst, ℕ, suc, ◌<◌, ◌≤◌, arith, Bool, true, false, ◌&&◌, List, [], ◌∷◌, ◌++◌, append_assoc, length}
use Rattle.std.proofs.lemmas.Bool.{false≢true}
use Rattle.gc_lex.specs.declared.token.Token.{Token}
use Rattle.gc_lex.specs.declared.token.Mark.{Mark}
use Rattle.gc_grammar.specs.Words.{mark, Point, Lang, ◌⋅◌, ◌⇒◌, ◌▸◌, ◌◂◌}
use Rattle.gc_parse_readers.specs.Kinds.{mark_kind, kind, among, begins, begins_so, covers, apart}
use Rattle.gc_parse_readers.specs.Readers.{Reader, read_mark, Reading, Got, Stuck, then_read, read_both, read_made, read_behind, read_before}
use Rattle.gc_parse_readers.specs.Right.{Right, Outline, Opens, one_of}
use Rattle.gc_parse_readers.proofs.KindLaws.{and_false, neither, covered, opens_apart}
use Rattle.gc_parse_readers.proofs.RightTokens.{right_mark}
use Rattle.gc_parse_readers.proofs.Forks.{matched, matched_none, matched_one, Reaches, Firm, sound_reaches, reaches_made, reaches_later, reaches_then}
use Rattle.gc_parse_readers.proofs.RightFork.{Fronts, Way}
use Rattle.gc_parse_readers.proofs.Taken.{Takes, IsToken, Taken, taken_mark}

-- a reader that is right goes on
pub firm_right : {j J : ℕ} {A : Type 0} {L M : Lang A} {p q : Reader A} {o : Outline} → Right j J L M p q o → Firm j [] p
firm_right {J = J} {L = L} {p = p} {q = q} right start ts short = sound_reaches J L q start ts (p start ts) (right.sound start ts short)

-- what does not begin with a first token of some kinds does not begin so
pub begins_so_not : (kinds : List ℕ) (others : List (List ℕ)) (ts : List Token) → begins kinds ts ≡ false → begins_so (kinds ∷ others) ts ≡ false
begins_so_not kinds others [] h = refl
begins_so_not kinds others (token ∷ ts) h = rw h refl

opens_so : (o : Outline) (last : List ℕ) (ts other : List Token) → Opens o ts → o.empty ≡ false → covers last o.first ≡ true → begins_so (last ∷ []) (ts ++ other) ≡ true
opens_so o last [] other opens some c = neither opens some
opens_so o last (token ∷ ts) other opens some c = rw (covered last o.first (kind token) c opens) refl

-- at the last token of a fork: its way
pub way_last : {j J : ℕ} {A : Type 0} {L M : Lang A} {p q : Reader A} {o : Outline} {last : List ℕ}
    → covers last o.first ≡ true → o.empty ≡ false → Right j J L M p q o → Way j J [] last true L M p
way_last {o = o} {last = last} c some right = record {
  fronts = λ start end ts other a l. opens_so o last ts other (right.opened start end ts a l) some c;
  fronts_by = λ start end ts other a m. opens_so o last ts other (right.opened_by start end ts a m) some c;
  firm = firm_right right;
}

-- at the last token of a fork: the other way
pub way_not_last : {j J : ℕ} {A : Type 0} {L M : Lang A} {p q : Reader A} {o : Outline} {last : List ℕ}
    → apart last o.first ≡ true → o.empty ≡ false → Right j J L M p q o → Way j J [] last false L M p
way_not_last {o = o} {last = last} c some right = record {
  fronts = λ start end ts other a l.
      begins_so_not last [] (ts ++ other) (opens_apart o last ts other (right.opened start end ts a l) some c);
  fronts_by = λ start end ts other a m.
      begins_so_not last [] (ts ++ other) (opens_apart o last ts other (right.opened_by start end ts a m) some c);
  firm = firm_right right;
}

-- with the value that its value makes
pub way_made : {j J : ℕ} {init : List (List ℕ)} {last : List ℕ} {does : Bool} {A B : Type 0} {L M : Lang A} {p : Reader A} {make : ℕ → A → B}
    → Way j J init last does L M p → Way j J init last does (L ⇒ make) (M ⇒ make) (read_made p make)
way_made {init = init} {p = p} {make = make} way = record {
  fronts = λ start end ts other b l. way.fronts start end ts other l.value l.spelled;
  fronts_by = λ start end ts other b m. way.fronts_by start end ts other m.value m.spelled;
  firm = λ start ts short. reaches_made init start ts (make start.token) (p start ts) (way.firm start ts short);
}

-- the beginning of what begins with a whole fork
fronts_both : {A B : Type 0} (sets : List (List ℕ)) (does : Bool) (L : Lang A) (M : Lang B) → Fronts sets does L → Fronts sets does (L ⋅ M)
fronts_both sets does L M fronts start end ts other v l =
    ap (λ us. begins_so sets (us ++ other)) l.whole ∙ ap (begins_so sets) (append_assoc l.early l.late other)
    ∙ fronts start l.between l.early (l.late ++ other) v.0 l.before

pub firm_then : {A B : Type 0} (j : ℕ) (q : Reader B) (a : A) → Firm j [] q → Firm {A = A × B} j [] (λ between late. then_read (q between late) λ b. λ end rest. Got (a, b) end rest)
firm_then j q a firm between late short = reaches_made [] between late (λ b. (a, b)) (q between late) (firm between late short)

-- the first of two, behind which another comes
pub way_both : {j J : ℕ} {init : List (List ℕ)} {last : List ℕ} {does : Bool} {A B : Type 0} {L M : Lang A} {p : Reader A} {L' M' : Lang B} {p' q' : Reader B} {o' : Outline}
    → Way j J init last does L M p → Right j J L' M' p' q' o' → Way j J init last does (L ⋅ L') (M ⋅ M') (read_both p p')
way_both {j = j} {init = init} {last = last} {does = does} {L = L} {M = M} {p = p} {L' = L'} {M' = M'} {p' = p'} way right = record {
  fronts = fronts_both (init ++ last ∷ []) does L L' way.fronts;
  fronts_by = fronts_both (init ++ last ∷ []) does M M' way.fronts_by;
  firm = λ start ts short.
      reaches_then j init start ts (λ a. λ between late. then_read (p' between late) λ b. λ end rest. Got (a, b) end rest) short
      (λ a. firm_then j p' a (firm_right right)) (p start ts) (way.firm start ts short);
}

pub way_behind : {j J : ℕ} {init : List (List ℕ)} {last : List ℕ} {does : Bool} {A B : Type 0} {L M : Lang A} {p : Reader A} {L' M' : Lang B} {p' q' : Reader B} {o' : Outline}
    → Way j J init last does L M p → Right j J L' M' p' q' o' → Way j J init last does (L ▸ L') (M ▸ M') (read_behind p p')
way_behind way right = way_made (way_both way right)

pub way_before : {j J : ℕ} {init : List (List ℕ)} {last : List ℕ} {does : Bool} {A B : Type 0} {L M : Lang A} {p : Reader A} {L' M' : Lang B} {p' q' : Reader B} {o' : Outline}
    → Way j J init last does L M p → Right j J L' M' p' q' o' → Way j J init last does (L ◂ L') (M ◂ M') (read_before p p')
way_before way right = way_made (way_both way right)

-- behind a token of a fork, what comes past the rest of it
pub reaches_behind : {A : Type 0} (kinds : List ℕ) (init : List (List ℕ)) (start between : Point) (token : Token) (ts late : List Token) → ts ≡ token ∷ late
    → between.token ≡ start.token + 1 → (reading : Reading A) → Reaches init between late reading → Reaches (kinds ∷ init) start ts reading
reaches_behind kinds init start between token ts late whole place reading reaches =
    let fewer : length ts ≡ suc (length late) = ap length whole in
    let most : matched (kinds ∷ init) ts ≤ suc (matched init late) =
    subst (λ us. matched (kinds ∷ init) us ≤ suc (matched init late)) (sym whole) (matched_one kinds init token late) in
    reaches_later (kinds ∷ init) init start between ts late reading (omega (arith, place, most)) (omega (arith, fewer)) reaches

take_reaches : {A B : Type 0} (j : ℕ) (kinds : List ℕ) (init : List (List ℕ)) (q : Reader B) (start : Point) (ts : List Token) → length ts < suc j → Firm j init q
    → (reading : Reading A) → Takes kinds start ts reading
    → Reaches {A = A × B} (kinds ∷ init) start ts (then_read reading λ a. λ between late. then_read (q between late) λ b. λ end rest. Got (a, b) end rest)
take_reaches j kinds init q start ts short firm (Got a between late) takes =
    let fewer : length ts ≡ suc (length late) = ap length takes.1 in
    reaches_behind kinds init start between takes.0 ts late takes.1 takes.2 (then_read (q between late) λ b. λ end rest. Got (a, b) end rest)
    (reaches_made init between late (λ b. (a, b)) (q between late) (firm between late (omega (arith, short, fewer))))
take_reaches j kinds init q start ts short firm (Stuck place) takes =
    let none = matched_none kinds init ts takes.0 in
    let at = takes.1 in
    omega (arith, none, at)

-- a token and then a word that begins with the rest of a fork, or does not
token_then : (kinds : List ℕ) (sets : List (List ℕ)) (does : Bool) (ts early late other : List Token) → ts ≡ early ++ late → IsToken early
    → (does ≡ true → begins kinds early ≡ true) → begins_so sets (late ++ other) ≡ does → begins_so (kinds ∷ sets) (ts ++ other) ≡ does
token_then kinds sets does ts early late other whole token first rest =
    ap (λ us. begins_so (kinds ∷ sets) (us ++ other)) (whole ∙ ap (λ us. us ++ late) token.1)
    ∙ by does first rest
  where
    by : (b : Bool) → (b ≡ true → begins kinds early ≡ true) → begins_so sets (late ++ other) ≡ b
        → (among kinds (kind token.0) && begins_so sets (late ++ other)) ≡ b
    by true first rest = rw (sym (ap (begins kinds) token.1) ∙ first refl, rest) refl
    by false first rest = rw rest (and_false (among kinds (kind token.0)))

token_opens : (kinds : List ℕ) (o : Outline) (ts : List Token) → covers kinds o.first ≡ true → IsToken ts → Opens o ts → begins kinds ts ≡ true
token_opens kinds o ts c token opens =
    ap (begins kinds) token.1 ∙ covered kinds o.first (kind token.0) c (subst (Opens o) token.1 opens)

token_begins : (m : Mark) (ts : List Token) → IsToken ts → Opens (one_of (mark_kind m ∷ [])) ts → begins (mark_kind m ∷ []) ts ≡ true
token_begins m ts token opens = ap (begins (mark_kind m ∷ [])) token.1 ∙ subst (Opens (one_of (mark_kind m ∷ []))) token.1 opens

-- a token of a fork, and then the rest of its way
pub way_token : {j J : ℕ} {kinds : List ℕ} {init : List (List ℕ)} {last : List ℕ} {does : Bool} {A B : Type 0} {L M : Lang A} {p q : Reader A} {o : Outline} {L' M' : Lang B} {p' : Reader B}
    → covers kinds o.first ≡ true → Taken kinds L M p → Right j J L M p q o → Way j J init last does L' M' p'
    → Way j J (kinds ∷ init) last does (L ⋅ L') (M ⋅ M') (read_both p p')
way_token {j = j} {kinds = kinds} {init = init} {last = last} {does = does} {p = p} {o = o} {p' = p'} c token right way = record {
  fronts = λ start end ts other v l.
      let one = token.alone start l.between l.early v.0 l.before in
      token_then kinds (init ++ last ∷ []) does ts l.early l.late other l.whole one
      (λ is. token_opens kinds o l.early c one (right.opened start l.between l.early v.0 l.before))
      (way.fronts l.between end l.late other v.1 l.behind);
  fronts_by = λ start end ts other v m.
      let one = token.alone_by start m.between m.early v.0 m.before in
      token_then kinds (init ++ last ∷ []) does ts m.early m.late other m.whole one
      (λ is. token_opens kinds o m.early c one (right.opened_by start m.between m.early v.0 m.before))
      (way.fronts_by m.between end m.late other v.1 m.behind);
  firm = λ start ts short. take_reaches j kinds init p' start ts (omega (arith, short)) way.firm (p start ts) (token.taken start ts);
}

pub way_token_behind : {j J : ℕ} {kinds : List ℕ} {init : List (List ℕ)} {last : List ℕ} {does : Bool} {A B : Type 0} {L M : Lang A} {p q : Reader A} {o : Outline} {L' M' : Lang B} {p' : Reader B}
    → covers kinds o.first ≡ true → Taken kinds L M p → Right j J L M p q o → Way j J init last does L' M' p'
    → Way j J (kinds ∷ init) last does (L ▸ L') (M ▸ M') (read_behind p p')
way_token_behind c token right way = way_made (way_token c token right way)

-- an opening symbol of a fork, behind which there is one token less
pub way_opening : {j J : ℕ} {init : List (List ℕ)} {last : List ℕ} {does : Bool} {A : Type 0} {L M : Lang A} {p : Reader A} (m : Mark)
    → Way j J init last does L M p → Way (suc j) (suc J) ((mark_kind m ∷ []) ∷ init) last does (mark m ▸ L) (mark m ▸ M) (read_behind (read_mark m) p)
way_opening {j = j} {J = J} {init = init} {last = last} {does = does} {p = p} m way =
    let kinds = mark_kind m ∷ [] in
    let token = taken_mark m in
    let right = right_mark {j = j} {J = J} m in
    way_made record {
      fronts = λ start end ts other v l.
          let one = token.alone start l.between l.early v.0 l.before in
          token_then kinds (init ++ last ∷ []) does ts l.early l.late other l.whole one
          (λ is. token_begins m l.early one (right.opened start l.between l.early v.0 l.before))
          (way.fronts l.between end l.late other v.1 l.behind);
      fronts_by = λ start end ts other v l.
          let one = token.alone_by start l.between l.early v.0 l.before in
          token_then kinds (init ++ last ∷ []) does ts l.early l.late other l.whole one
          (λ is. token_begins m l.early one (right.opened_by start l.between l.early v.0 l.before))
          (way.fronts_by l.between end l.late other v.1 l.behind);
      firm = λ start ts short. take_reaches j kinds init p start ts short way.firm (read_mark m start ts) (token.taken start ts);
    }

not_does : {A : Type 0} → false ≡ true → A
not_does is = absurd (false≢true is)

-- behind two tokens of a fork
second_reaches : {A B C : Type 0} (j : ℕ) (kinds : List ℕ) (init : List (List ℕ)) (q : Reader C) (start : Point) (ts : List Token) (a : A) → length ts < j → Firm j init q
    → (reading : Reading B) → Takes kinds start ts reading
    → Reaches {A = B × C} (kinds ∷ init) start ts
    (then_read (then_read {A = A × B} (then_read reading λ b. λ end rest. Got (a, b) end rest) λ v. λ end rest. Got v.1 end rest)
    λ b. λ between late. then_read (q between late) λ c. λ end rest. Got (b, c) end rest)
second_reaches j kinds init q start ts a short firm (Got b between late) takes = take_reaches j kinds init q start ts (omega (arith, short)) firm (Got b between late) takes
second_reaches {B = B} j kinds init q start ts a short firm (Stuck place) takes = take_reaches {A = B} j kinds init q start ts (omega (arith, short)) firm (Stuck place) takes

two_reach : {A B C : Type 0} (j : ℕ) (kinds others : List ℕ) (init : List (List ℕ)) (p : Reader B) (q : Reader C) (start : Point) (ts : List Token) → length ts < j
    → ((between : Point) (late : List Token) → Takes others between late (p between late)) → Firm j init q
    → (reading : Reading A) → Takes kinds start ts reading
    → Reaches {A = B × C} (kinds ∷ others ∷ init) start ts
    (then_read
    (then_read {A = A × B} (then_read reading λ a. λ between late. then_read (p between late) λ b. λ end rest. Got (a, b) end rest)
    λ v. λ end rest. Got v.1 end rest)
    λ b. λ between late. then_read (q between late) λ c. λ end rest. Got (b, c) end rest)
two_reach j kinds others init p q start ts short second firm (Got a between late) takes =
    let fewer : length ts ≡ suc (length late) = ap length takes.1 in
    reaches_behind kinds (others ∷ init) start between takes.0 ts late takes.1 takes.2 _
    (second_reaches j others init q between late a (omega (arith, short, fewer)) firm (p between late) (second between late))
two_reach j kinds others init p q start ts short second firm (Stuck place) takes =
    let none = matched_none kinds (others ∷ init) ts takes.0 in
    let at = takes.1 in
    omega (arith, none, at)

-- two tokens of a fork in one word of the grammar, and then the rest of its way
pub way_two_tokens : {j J : ℕ} {kinds others : List ℕ} {init : List (List ℕ)} {last : List ℕ} {does : Bool} {A B C : Type 0}
    {L M : Lang A} {p q : Reader A} {o : Outline} {L' M' : Lang B} {p' q' : Reader B} {o' : Outline} {N K : Lang C} {r : Reader C}
    → covers kinds o.first ≡ true → covers others o'.first ≡ true
    → Taken kinds L M p → Right j J L M p q o → Taken others L' M' p' → Right j J L' M' p' q' o' → Way j J init last does N K r
    → Way j J (kinds ∷ others ∷ init) last does ((L ▸ L') ⋅ N) ((M ▸ M') ⋅ K) (read_both (read_behind p p') r)
way_two_tokens {j = j} {kinds = kinds} {others = others} {init = init} {last = last} {does = does} {p = p} {o = o} {p' = p'} {o' = o'} {r = r} c d token right token' right' way = record {
  fronts = λ start end ts other v l.
      let two = l.before.spelled in
      let pair = l.before.value in
      let one = token.alone start two.between two.early pair.0 two.before in
      let one' = token'.alone two.between l.between two.late pair.1 two.behind in
      token_then kinds (others ∷ (init ++ last ∷ [])) does ts two.early (two.late ++ l.late) other
      (l.whole ∙ ap (λ us. us ++ l.late) two.whole ∙ append_assoc two.early two.late l.late) one
      (λ is. token_opens kinds o two.early c one (right.opened start two.between two.early pair.0 two.before))
      (token_then others (init ++ last ∷ []) does (two.late ++ l.late) two.late l.late other refl one'
      (λ is. token_opens others o' two.late d one' (right'.opened two.between l.between two.late pair.1 two.behind))
      (way.fronts l.between end l.late other v.1 l.behind));
  fronts_by = λ start end ts other v m.
      let two = m.before.spelled in
      let pair = m.before.value in
      let one = token.alone_by start two.between two.early pair.0 two.before in
      let one' = token'.alone_by two.between m.between two.late pair.1 two.behind in
      token_then kinds (others ∷ (init ++ last ∷ [])) does ts two.early (two.late ++ m.late) other
      (m.whole ∙ ap (λ us. us ++ m.late) two.whole ∙ append_assoc two.early two.late m.late) one
      (λ is. token_opens kinds o two.early c one (right.opened_by start two.between two.early pair.0 two.before))
      (token_then others (init ++ last ∷ []) does (two.late ++ m.late) two.late m.late other refl one'
      (λ is. token_opens others o' two.late d one' (right'.opened_by two.between m.between two.late pair.1 two.behind))
      (way.fronts_by m.between end m.late other v.1 m.behind));
  firm = λ start ts short. two_reach j kinds others init p' r start ts short token'.taken way.firm (p start ts) (token.taken start ts);
}

-- some token, of a fork or not, and then the other way
pub way_any_token : {j J : ℕ} {kinds : List ℕ} {init : List (List ℕ)} {last : List ℕ} {A B : Type 0} {L M : Lang A} {p : Reader A} {L' M' : Lang B} {p' : Reader B}
    → Taken kinds L M p → Way j J init last false L' M' p' → Way j J (kinds ∷ init) last false (L ⋅ L') (M ⋅ M') (read_both p p')
way_any_token {j = j} {kinds = kinds} {init = init} {last = last} {p = p} {p' = p'} token way = record {
  fronts = λ start end ts other v l.
      token_then kinds (init ++ last ∷ []) false ts l.early l.late other l.whole (token.alone start l.between l.early v.0 l.before)
      not_does (way.fronts l.between end l.late other v.1 l.behind);
  fronts_by = λ start end ts other v m.
      token_then kinds (init ++ last ∷ []) false ts m.early m.late other m.whole (token.alone_by start m.between m.early v.0 m.before)
      not_does (way.fronts_by m.between end m.late other v.1 m.behind);
  firm = λ start ts short. take_reaches j kinds init p' start ts (omega (arith, short)) way.firm (p start ts) (token.taken start ts);
}
