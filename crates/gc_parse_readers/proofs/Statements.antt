-- The statements of a file: the reader of those behind the first is right.
use Rattle.std.proofs.Common.{◌≡◌, refl, sym, ap, ◌∙◌, subst, ℕ, zero, suc, ◌≤◌, not-suc-le-zero, true, false, List, [], ◌∷◌, ◌++◌, append_assoc, Option, Some, None}
use Rattle.std.proofs.lemmas.List.{append-nil}
use Rattle.gc_lex.specs.declared.token.Token.{Token}
use Rattle.gc_lex.specs.declared.token.Mark.TheVariants as mark
use Rattle.gc_grammar.specs.Words.{Point, Lang, ◌⋅◌, ◌⇒◌, ◌▸◌, ◌◂◌, optional, many, separated, mark}
use Rattle.gc_parse_readers.specs.Kinds.{mark_kind, begins, apart}
use Rattle.gc_grammar.specs.Patterns.{listed}
use Rattle.gc_parse_readers.specs.Readers.{Reader}
use Rattle.gc_parse_readers.specs.Right.{Right, Outline, one_of}
use Rattle.gc_parse_readers.proofs.KindLaws.{opens_apart}
use Rattle.gc_parse_readers.proofs.RightTokens.{right_mark}
use Rattle.gc_parse_readers.proofs.RightBoth.{leaves_room, leaves_one_less}
use Rattle.gc_parse_readers.specs.QueryReaders.{read_later}
use Rattle.gc_parse_readers.proofs.WholeLists.{WholeRight, used_right, used_both, whole_made, whole_both, whole_behind, ended, whole_ended, whole_unread, whole_same, right_smaller}
use native.Mathlib.Omega.{arith}

-- what is spelled, said with equal parts
spelled_as : {A : Type 0} (L : Lang A) (start end last : Point) (ts us : List Token) (a b : A) → us ≡ ts → b ≡ a → last ≡ end → L start ts a end → L start us b last
spelled_as L start end last ts us a b whole value place l =
    subst (λ vs. L start vs b last) (sym whole) (subst (λ v. L start ts v last) (sym value) (subst (λ p. L start ts a p) (sym place) l))

-- what follows a statement up to the end of a file
abbrev pub Later : {A : Type 0} → Lang A → Lang (List A)
Later S = many (mark mark.Semicolon ▸ S) ◂ optional (mark mark.Semicolon)

-- statements, the first of which is there
abbrev pub Listed : {A : Type 0} → Lang A → Lang (List A)
Listed S = (S ⋅ Later S) ⇒ λ n v. v.0 ∷ v.1

-- the same as `Later`, a statement after another
abbrev pub Turn : {A : Type 0} → Lang A → Lang (List A)
Turn S = ended (mark mark.Semicolon ▸ ended (Listed S))

later_none : {A : Type 0} (S : Lang A) (start : Point) → Later S start [] [] start
later_none S start = record {
  value = ([], None);
  spelled = record { early = []; late = []; between = start; whole = refl; before = (refl, refl); behind = (refl, refl) };
  made = refl;
}

later_last : {A : Type 0} (S : Lang A) (start end : Point) (ts : List Token) (u : Unit {0}) → mark mark.Semicolon start ts u end → Later S start ts [] end
later_last S start end ts u semicolon = record {
  value = ([], Some u);
  spelled = record { early = []; late = ts; between = start; whole = refl; before = (refl, refl); behind = semicolon };
  made = refl;
}

later_more : {A : Type 0} (S : Lang A) (start between middle end : Point) (ss used late : List Token) (u : Unit {0}) (a : A) (vs : List A)
    → mark mark.Semicolon start ss u between → S between used a middle → Later S middle late vs end → Later S start (ss ++ (used ++ late)) (a ∷ vs) end
later_more S start between middle end ss used late u a vs semicolon one later =
    let l = later.spelled in
    record {
      value = (a ∷ later.value.0, later.value.1);
      spelled = record {
        early = ss ++ (used ++ l.early);
        late = l.late;
        between = l.between;
        whole =
            ap (λ us. ss ++ (used ++ us)) l.whole
            ∙ ap (λ us. ss ++ us) (sym (append_assoc used l.early l.late)) ∙ sym (append_assoc ss (used ++ l.early) l.late);
        before = (
          ss ++ used,
          l.early,
          middle,
          sym (append_assoc ss used l.early),
          record { value = (u, a); spelled = record { early = ss; late = used; between = between; whole = refl; before = semicolon; behind = one }; made = refl },
          l.before,
        );
        behind = l.behind;
      };
      made = ap (λ others. a ∷ others) later.made;
    }

-- behind a `;` there is nothing or a statement
turn_more : {A : Type 0} (S : Lang A) (start between end : Point) (ss late : List Token) (u : Unit {0}) (v : Option (List A))
    → mark mark.Semicolon start ss u between → optional (Listed S) between late v end → Later S start (ss ++ late) (listed v) end
turn_more S start between end ss late u None semicolon l =
    spelled_as (Later S) start between end ss (ss ++ late) [] [] (ap (λ us. ss ++ us) l.0 ∙ append-nil ss) refl l.1 (later_last S start between ss u semicolon)
turn_more S start between end ss late u (Some vs) semicolon l =
    let parts = l.spelled in
    spelled_as (Later S) start end end (ss ++ (parts.early ++ parts.late)) (ss ++ late) (l.value.0 ∷ l.value.1) vs (ap (λ us. ss ++ us) parts.whole) l.made refl
    (later_more S start between parts.between end ss parts.early parts.late u l.value.0 l.value.1 semicolon parts.before parts.behind)

turn_first : {A : Type 0} (S : Lang A) (start end : Point) (ts : List Token) (v : Option (List A))
    → optional (mark mark.Semicolon ▸ ended (Listed S)) start ts v end → Later S start ts (listed v) end
turn_first S start end ts None l = spelled_as (Later S) start start end [] ts [] [] l.0 refl l.1 (later_none S start)
turn_first S start end ts (Some vs) l =
    let parts = l.spelled in
    let behind = parts.behind in
    spelled_as (Later S) start end end (parts.early ++ parts.late) ts (listed behind.value) vs parts.whole (l.made ∙ behind.made) refl
    (turn_more S start parts.between end parts.early parts.late l.value.0 behind.value parts.before behind.spelled)

pub later_of_turn : {A : Type 0} (S : Lang A) (start end : Point) (ts : List Token) (vs : List A) → Turn S start ts vs end → Later S start ts vs end
later_of_turn S start end ts vs turn =
    spelled_as (Later S) start end end ts ts (listed turn.value) vs refl turn.made refl (turn_first S start end ts turn.value turn.spelled)

turn_parts : {A : Type 0} (S : Lang A) (start between end : Point) (early late : List Token) (vs : List A) (last : Option (Unit {0}))
    → many (mark mark.Semicolon ▸ S) start early vs between → optional (mark mark.Semicolon) between late last end → Turn S start (early ++ late) vs end
turn_parts S start between end early late [] None m n =
    record { value = None; spelled = (ap (λ us. us ++ late) m.0 ∙ n.0, n.1 ∙ m.1); made = refl }
turn_parts S start between end early late [] (Some u) m n =
    spelled_as (Turn S) start end end (late ++ []) (early ++ late) [] [] (ap (λ us. us ++ late) m.0 ∙ sym (append-nil late)) refl refl
    (record {
      value = Some [];
      spelled = record {
        value = (u, []);
        spelled = record {
          early = late;
          late = [];
          between = end;
          whole = refl;
          before = subst (λ p. mark mark.Semicolon p late u end) m.1 n;
          behind = record { value = None; spelled = (refl, refl); made = refl };
        };
        made = refl;
      };
      made = refl;
    })
turn_parts S start between end early late (a ∷ others) last m n =
    let one = m.4 in
    let parts = one.spelled in
    record {
      value = Some (a ∷ others);
      spelled = record {
        value = (one.value.0, a ∷ others);
        spelled = record {
          early = parts.early;
          late = parts.late ++ (m.1 ++ late);
          between = parts.between;
          whole =
              ap (λ us. us ++ late) (m.3 ∙ ap (λ us. us ++ m.1) parts.whole) ∙ append_assoc (parts.early ++ parts.late) m.1 late
              ∙ append_assoc parts.early parts.late (m.1 ++ late);
          before = parts.before;
          behind = record {
            value = Some (a ∷ others);
            spelled = record {
              value = (a, others);
              spelled = record {
                early = parts.late;
                late = m.1 ++ late;
                between = m.2;
                whole = refl;
                before = subst (λ v. S parts.between parts.late v m.2) (sym one.made) parts.behind;
                behind = record {
                  value = (others, last);
                  spelled = record { early = m.1; late = late; between = between; whole = refl; before = m.5; behind = n };
                  made = refl;
                };
              };
              made = refl;
            };
            made = refl;
          };
        };
        made = refl;
      };
      made = refl;
    }

turn_of_later : {A : Type 0} (S : Lang A) (start end : Point) (ts : List Token) (vs : List A) → Later S start ts vs end → Turn S start ts vs end
turn_of_later S start end ts vs later =
    let l = later.spelled in
    spelled_as (Turn S) start end end (l.early ++ l.late) ts later.value.0 vs l.whole later.made refl
    (turn_parts S start l.between end l.early l.late later.value.0 later.value.1 l.before l.behind)

-- what follows a statement begins with `;`, or is nothing
turn_begins : {A : Type 0} (S : Lang A) (kinds : List ℕ) → apart kinds (mark_kind mark.Semicolon ∷ []) ≡ true → (start end : Point) (ts : List Token) (v : Option (List A))
    → optional (mark mark.Semicolon ▸ ended (Listed S)) start ts v end → begins kinds ts ≡ false
turn_begins S kinds c start end ts None l = ap (begins kinds) l.0
turn_begins S kinds c start end ts (Some vs) l =
    let parts = l.spelled in
    let semicolon = right_mark {j = 0} {J = 0} mark.Semicolon in
    ap (begins kinds) parts.whole
    ∙ opens_apart (one_of (mark_kind mark.Semicolon ∷ [])) kinds parts.early parts.late
    (semicolon.opened start parts.between parts.early l.value.0 parts.before) refl c

pub later_begins : {A : Type 0} (S : Lang A) (kinds : List ℕ) → apart kinds (mark_kind mark.Semicolon ∷ []) ≡ true → (start end : Point) (ts : List Token) (vs : List A)
    → Later S start ts vs end → begins kinds ts ≡ false
later_begins S kinds c start end ts vs later =
    let turn = turn_of_later S start end ts vs later in
    turn_begins S kinds c start end ts turn.value turn.spelled

begins_none : (ts : List Token) → begins [] ts ≡ false
begins_none [] = refl
begins_none (token ∷ ts) = refl

-- one turn more
later_turn : {n room : ℕ} {A : Type 0} {S T : Lang A} {p q : Reader A} {o : Outline} → apart o.more (mark_kind mark.Semicolon ∷ []) ≡ true → o.empty ≡ false
    → Right n room S T p q o → WholeRight n room (Later S) (Later T) (read_later p n) (read_later q room)
    → WholeRight (suc n) (suc room) (Later S) (Later T) (read_later p (suc n)) (read_later q (suc room))
unfolding read_later
later_turn {n = n} {room = room} {S = S} {T = T} {o = o} c some right later =
    let semicolon = one_of (mark_kind mark.Semicolon ∷ []) in
    whole_same (later_of_turn S) (turn_of_later T)
    (whole_ended (λ start end vs m. used_both (used_right refl (right_mark {j = n} {J = room} mark.Semicolon)) start end m.value m.spelled)
    (whole_behind (leaves_one_less n semicolon refl) (leaves_one_less room semicolon refl) (λ start end ts vs m. begins_none ts) (right_mark mark.Semicolon)
    (whole_ended (λ start end vs m. used_both (used_right some right) start end m.value m.spelled)
    (whole_made (whole_both (leaves_room n o) (leaves_room room o) (later_begins T o.more c) right later)))))

-- all turns
pub later_right : {j J : ℕ} {A : Type 0} {S T : Lang A} {p q : Reader A} {o : Outline} → apart o.more (mark_kind mark.Semicolon ∷ []) ≡ true → o.empty ≡ false
    → Right j J S T p q o → (n room : ℕ) → n ≤ j → room ≤ J → WholeRight n room (Later S) (Later T) (read_later p n) (read_later q room)
later_right c some right zero room small within = record {
  sound = λ start ts short. absurd (not-suc-le-zero short);
  complete = λ start end ts a m short. absurd (not-suc-le-zero short);
}
later_right c some right (suc n) zero small within =
    whole_unread (later_turn c some (right_smaller n zero (omega (arith, small)) within right) (later_right c some right n zero (omega (arith, small)) within))
later_right c some right (suc n) (suc room) small within =
    later_turn c some (right_smaller n room (omega (arith, small)) (omega (arith, within)) right)
    (later_right c some right n room (omega (arith, small)) (omega (arith, within)))

-- a file is statements, the first of which is there
pub file_of_listed : {A : Type 0} (S : Lang A) (start end : Point) (ts : List Token) (vs : List A)
    → Listed S start ts vs end → (separated S (mark mark.Semicolon) ◂ optional (mark mark.Semicolon)) start ts vs end
file_of_listed S start end ts vs m =
    let one = m.spelled in
    let later = one.behind.spelled in
    record {
      value = (m.value.0 ∷ one.behind.value.0, one.behind.value.1);
      spelled = record {
        early = one.early ++ later.early;
        late = later.late;
        between = later.between;
        whole = one.whole ∙ ap (λ us. one.early ++ us) later.whole ∙ sym (append_assoc one.early later.early later.late);
        before = record {
          value = (m.value.0, one.behind.value.0);
          spelled = record { early = one.early; late = later.early; between = one.between; whole = refl; before = one.before; behind = later.before };
          made = refl;
        };
        behind = later.behind;
      };
      made = m.made ∙ ap (λ others. m.value.0 ∷ others) one.behind.made;
    }

pub listed_of_file : {A : Type 0} (S : Lang A) (start end : Point) (ts : List Token) (vs : List A)
    → (separated S (mark mark.Semicolon) ◂ optional (mark mark.Semicolon)) start ts vs end → Listed S start ts vs end
listed_of_file S start end ts vs m =
    let both = m.spelled in
    let statements = both.before in
    let one = statements.spelled in
    record {
      value = (statements.value.0, statements.value.1);
      spelled = record {
        early = one.early;
        late = one.late ++ both.late;
        between = one.between;
        whole = both.whole ∙ ap (λ us. us ++ both.late) one.whole ∙ append_assoc one.early one.late both.late;
        before = one.before;
        behind = record {
          value = (statements.value.1, m.value.1);
          spelled = record { early = one.late; late = both.late; between = both.between; whole = refl; before = one.behind; behind = both.behind };
          made = refl;
        };
      };
      made = m.made ∙ statements.made;
    }
