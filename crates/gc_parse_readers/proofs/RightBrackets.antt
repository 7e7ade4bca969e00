-- What brackets hold: one token gives room for one more depth, and the readers of all depths are right
-- where each is right over the one below it. The expressions that count their own EXISTS queries.
use Rattle.std.proofs.Common.{refl, sym, ap, ℕ, zero, suc, not-suc-le-zero, List, [], ◌∷◌, ◌++◌, length}
use Rattle.gc_lex.specs.declared.token.Token.{Token}
use Rattle.gc_lex.specs.declared.token.Mark.{Mark}
use Rattle.gc_ast.specs.Trees.{Tree, AQuery}
use Rattle.gc_grammar.specs.Words.{Point, Lang, mark, alone, numbered, ◌▸◌}
use Rattle.gc_parse_readers.specs.Kinds.{mark_kind}
use Rattle.gc_parse_readers.specs.Readers.{Reader, Reading, Got, Stuck, then_read, read_mark, read_behind, read_alone, read_numbered}
use Rattle.gc_parse_readers.specs.Right.{Sound, Right, Outline, one_of, both_of}
use Rattle.gc_parse_readers.proofs.KindLaws.{apart_none}
use Rattle.gc_parse_readers.proofs.RightTokens.{right_mark}
use Rattle.gc_parse_readers.proofs.RightBoth.{leaves_one_less, right_both_leaving, right_made}

-- before the first token of its own, and without queries
abbrev alone_at : Point → Point
alone_at start = record { token = start.token; exists = [] }

alone_sound : {A : Type 0} (room : ℕ) (L : Lang A) (q : Reader A) (start : Point) (ts : List Token)
    → (reading : Reading A) → Sound room L q (alone_at start) ts reading
    → Sound room (alone L) (read_alone q) start ts
    (then_read reading λ a. λ end rest. Got (a, end.exists) (record { token = end.token; exists = start.exists }) rest)
alone_sound room L q start ts (Got a end rest) found = record {
  used = found.used;
  whole = found.whole;
  place = found.place;
  spelled = record { last = end; spelled = found.spelled; queries = refl; after = refl };
  again = λ other same short. rw (found.again other same short) refl;
}
alone_sound room L q start ts (Stuck place) refused = record {
  used = refused.used;
  rest = refused.rest;
  whole = refused.whole;
  at = refused.at;
  again = λ other same short. rw (refused.again other same short) refl;
}

-- an expression that is looked at by itself
pub right_alone : {j J : ℕ} {A : Type 0} {L M : Lang A} {p q : Reader A} {o : Outline}
    → Right j J L M p q o → Right j J (alone L) (alone M) (read_alone p) (read_alone q) o
right_alone {J = J} {L = L} {p = p} {q = q} right = record {
  sound = λ start ts short. alone_sound J L q start ts (p (alone_at start) ts) (right.sound (alone_at start) ts short);
  complete = λ start end used rest v m short behind.
      rw (right.complete (alone_at start) m.last used rest v.0 m.spelled short behind, m.after)
      (ap (λ queries. Got (v.0, queries) (record { token = m.last.token; exists = start.exists }) rest) (sym m.queries));
  opened = λ start end ts v l. right.opened (alone_at start) l.last ts v.0 l.spelled;
  opened_by = λ start end ts v m. right.opened_by (alone_at start) m.last ts v.0 m.spelled;
}

numbered_sound : (room : ℕ) (L : Lang (Tree AQuery)) (q : Reader (Tree AQuery)) (start : Point) (ts : List Token)
    → (reading : Reading (Tree AQuery)) → Sound room L q (alone_at start) ts reading
    → Sound room (numbered L) (read_numbered q) start ts
    (then_read reading λ query. λ end rest.
    Got (length start.exists) (record { token = end.token; exists = start.exists ++ query ∷ [] }) rest)
numbered_sound room L q start ts (Got query end rest) found = record {
  used = found.used;
  whole = found.whole;
  place = found.place;
  spelled = record { query = query; last = end; spelled = found.spelled; number = refl; after = refl };
  again = λ other same short. rw (found.again other same short) refl;
}
numbered_sound room L q start ts (Stuck place) refused = record {
  used = refused.used;
  rest = refused.rest;
  whole = refused.whole;
  at = refused.at;
  again = λ other same short. rw (refused.again other same short) refl;
}

-- a query of an EXISTS, with its number
pub right_numbered : {j J : ℕ} {L M : Lang (Tree AQuery)} {p q : Reader (Tree AQuery)} {o : Outline}
    → Right j J L M p q o → Right j J (numbered L) (numbered M) (read_numbered p) (read_numbered q) o
right_numbered {J = J} {L = L} {p = p} {q = q} right = record {
  sound = λ start ts short. numbered_sound J L q start ts (p (alone_at start) ts) (right.sound (alone_at start) ts short);
  complete = λ start end used rest i m short behind.
      rw (right.complete (alone_at start) m.last used rest m.query m.spelled short behind, m.after)
      (ap (λ k. Got k (record { token = m.last.token; exists = start.exists ++ m.query ∷ [] }) rest) (sym m.number));
  opened = λ start end ts i l. right.opened (alone_at start) l.last ts l.query l.spelled;
  opened_by = λ start end ts i m. right.opened_by (alone_at start) m.last ts m.query m.spelled;
}

-- behind an opening symbol there is one token less
pub right_opening : {j J : ℕ} {A : Type 0} {L M : Lang A} {p q : Reader A} {o : Outline} (m : Mark)
    → Right j J L M p q o
    → Right (suc j) (suc J) (mark m ▸ L) (mark m ▸ M) (read_behind (read_mark m) p) (read_behind (read_mark m) q) (both_of (one_of (mark_kind m ∷ [])) o)
right_opening {j = j} {J = J} {o = o} m right =
    let opening = one_of (mark_kind m ∷ []) in
    right_made (right_both_leaving (leaves_one_less j opening refl) (leaves_one_less J opening refl) (right_mark m) right (apart_none o.first))

-- a language that no list of tokens is in
abbrev pub Never : {A : Type 0} → Lang A → Type 0
Never {A = A} L = (start end : Point) (ts : List Token) (a : A) → L start ts a end → ⊥

-- with no room any reader is right about what nothing spells
pub right_never : {J : ℕ} {A : Type 0} {L M : Lang A} {p q : Reader A} {o : Outline} → Never L → Never M → Right zero J L M p q o
right_never none none' = record {
  sound = λ start ts short. absurd (not-suc-le-zero short);
  complete = λ start end used rest a m short behind. absurd (not-suc-le-zero short);
  opened = λ start end ts a l. absurd (none start end ts a l);
  opened_by = λ start end ts a m. absurd (none' start end ts a m);
}

-- so it is about what begins as another law says
pub right_nothing : {j J I : ℕ} {A : Type 0} {L L' M : Lang A} {p q p' q' : Reader A} {o : Outline}
    → Never L → Right j J L' M p' q' o → Right zero I L M p q o
right_nothing none right = record {
  sound = λ start ts short. absurd (not-suc-le-zero short);
  complete = λ start end used rest a m short behind. absurd (not-suc-le-zero short);
  opened = λ start end ts a l. absurd (none start end ts a l);
  opened_by = right.opened_by;
}

-- what nothing spells need not be read
pub right_unspelled : {j J : ℕ} {A : Type 0} {L M N : Lang A} {p q : Reader A} {o : Outline} → Never N → Right j J L M p q o → Right j J L N p q o
right_unspelled none right = record {
  sound = right.sound;
  complete = λ start end used rest a n short behind. absurd (none start end used a n);
  opened = right.opened;
  opened_by = λ start end ts a n. absurd (none start end ts a n);
}

unread_sound : {A : Type 0} (room : ℕ) (L : Lang A) (q q' : Reader A) (start : Point) (ts : List Token)
    → (reading : Reading A) → Sound room L q start ts reading → Sound zero L q' start ts reading
unread_sound room L q q' start ts (Got a end rest) found = record {
  used = found.used;
  whole = found.whole;
  place = found.place;
  spelled = found.spelled;
  again = λ other same short. absurd (not-suc-le-zero short);
}
unread_sound room L q q' start ts (Stuck place) refused = record {
  used = refused.used;
  rest = refused.rest;
  whole = refused.whole;
  at = refused.at;
  again = λ other same short. absurd (not-suc-le-zero short);
}

-- with no room for what is read again, any reader reads it
pub right_unread : {j J : ℕ} {A : Type 0} {L M : Lang A} {p q q' : Reader A} {o : Outline} → Right j J L M p q o → Right j zero L M p q' o
right_unread {J = J} {L = L} {p = p} {q = q} {q' = q'} right = record {
  sound = λ start ts short. unread_sound J L q q' start ts (p start ts) (right.sound start ts short);
  complete = right.complete;
  opened = right.opened;
  opened_by = right.opened_by;
}

-- the readers p of some nested languages L with the outlines o are right at a room, for a depth
abbrev pub AllRight : {I : Type 0} {A : I → Type 0} (L : (i : I) → ℕ → Lang (A i)) (p : (i : I) → ℕ → Reader (A i)) (o : I → Outline) (j J d : ℕ) → Type 0
AllRight {I = I} L p o j J d = (i : I) → Right j J (L i j) (L i d) (p i j) (p i J) (o i)

-- each depth is right over the one below it
abbrev pub StepsRight : {I : Type 0} {A : I → Type 0} (L : (i : I) → ℕ → Lang (A i)) (p : (i : I) → ℕ → Reader (A i)) (o : I → Outline) → Type 0
StepsRight L p o = (j J d : ℕ) → AllRight L p o j J d → AllRight L p o (suc j) (suc J) (suc d)

nested_none : {I : Type 0} {A : I → Type 0} (L : (i : I) → ℕ → Lang (A i)) (p : (i : I) → ℕ → Reader (A i)) (o : I → Outline)
    → ((i : I) → Never (L i zero)) → StepsRight L p o → (J d : ℕ) → AllRight L p o zero J d
nested_none L p o none step J zero i = right_never (none i) (none i)
nested_none L p o none step J (suc d) i = right_nothing (none i) (step zero J d (nested_none L p o none step J d) i)

-- then all depths are right
pub right_nested : {I : Type 0} {A : I → Type 0} (L : (i : I) → ℕ → Lang (A i)) (p : (i : I) → ℕ → Reader (A i)) (o : I → Outline)
    → ((i : I) → Never (L i zero)) → StepsRight L p o → (j J d : ℕ) → AllRight L p o j J d
right_nested L p o none step zero J d i = nested_none L p o none step J d i
right_nested L p o none step (suc j) zero zero i = right_unspelled (none i) (right_unread (step j zero zero (right_nested L p o none step j zero zero) i))
right_nested L p o none step (suc j) zero (suc d) i = right_unread (step j zero d (right_nested L p o none step j zero d) i)
right_nested L p o none step (suc j) (suc J) zero i = right_unspelled (none i) (step j J zero (right_nested L p o none step j J zero) i)
right_nested L p o none step (suc j) (suc J) (suc d) i = step j J d (right_nested L p o none step j J d) i
