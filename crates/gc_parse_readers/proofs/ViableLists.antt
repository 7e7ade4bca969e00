-- Readers that are stuck only behind a beginning: lists, and expressions that count their own EXISTS queries.
use Rattle.std.proofs.Common.{refl, sym, ap, ◌∙◌, ℕ, zero, suc, ◌+◌, ◌<◌, add-zero, add_assoc, length-append, Bool, true, false, if◌then◌else◌, List, [], ◌∷◌, ◌++◌, append_assoc, length}
use Rattle.std.proofs.lemmas.List.{append-nil}
use Rattle.gc_lex.specs.declared.token.Token.{Token}
use Rattle.gc_ast.specs.Trees.{Tree, AQuery}
use Rattle.gc_grammar.specs.Words.{Point, Lang, many, several, separated, alone, numbered}
use Rattle.gc_parse_readers.specs.Kinds.{begins}
use Rattle.gc_parse_readers.specs.Readers.{Reader, Reading, Got, Stuck, then_read, in_front, read_many, read_several, read_separated, read_alone, read_numbered}
use Rattle.gc_parse_readers.proofs.Beginnings.{Read, Goes, Viable}
use Rattle.gc_parse_readers.proofs.Words.{has_no}
use Rattle.gc_parse_readers.proofs.ViableParts.{left_short, viable_made, viable_both, viable_behind}

-- behind a first item, others
later_goes : {A : Type 0} (L : Lang A) (start between : Point) (ts late : List Token) (a : A) → (first : Read L start ts a between late)
    → (others : Reading (List A)) → Goes (many L) between late others → Goes (many L) start ts (in_front (a ∷ []) others)
later_goes L start between ts late a first (Got vs end rest) later = record {
  used = first.used ++ later.used;
  whole = first.whole ∙ ap (λ us. first.used ++ us) later.whole ∙ sym (append_assoc first.used later.used rest);
  place =
      later.place ∙ ap (λ n. n + length later.used) first.place ∙ add_assoc start.token (length first.used) (length later.used)
      ∙ ap (λ n. start.token + n) (sym (length-append first.used later.used));
  spelled = (first.used, later.used, between, refl, first.spelled, later.spelled);
}
later_goes L start between ts late a first (Stuck place) later = record {
  used = first.used ++ later.used;
  rest = later.rest;
  whole = first.whole ∙ ap (λ us. first.used ++ us) later.whole ∙ sym (append_assoc first.used later.used later.rest);
  at =
      later.at ∙ ap (λ n. n + length later.used) first.place ∙ add_assoc start.token (length first.used) (length later.used)
      ∙ ap (λ n. start.token + n) (sym (length-append first.used later.used));
  more = later.more;
  value = a ∷ later.value;
  end = later.end;
  spelled = (first.used, later.used ++ later.more, between, append_assoc first.used later.used later.more, first.spelled, later.spelled);
}

-- a first item, and others behind it
first_goes : {A : Type 0} (L : Lang A) (others : Reader (List A)) (start : Point) (ts : List Token) → (first : Reading A) → Goes L start ts first
    → ((a : A) (between : Point) (late : List Token) → Read L start ts a between late → Goes (many L) between late (others between late))
    → Goes (many L) start ts (then_read first λ a. λ between late. in_front (a ∷ []) (others between late))
first_goes L others start ts (Got a between late) first behind = later_goes L start between ts late a first (others between late) (behind a between late first)
first_goes L others start ts (Stuck place) begun behind = record {
  used = begun.used;
  rest = begun.rest;
  whole = begun.whole;
  at = begun.at;
  more = begun.more;
  value = begun.value ∷ [];
  end = begun.end;
  spelled = (begun.used ++ begun.more, [], begun.end, sym (append-nil (begun.used ++ begun.more)), begun.spelled, (refl, refl));
}

none_goes : {A : Type 0} (L : Lang A) (start : Point) (ts : List Token) → Goes (many L) start ts (Got [] start ts)
none_goes L start ts = record { used = []; whole = refl; place = sym (add-zero start.token); spelled = (refl, refl) }

turn_goes : {A : Type 0} (L : Lang A) (others : Reader (List A)) (start : Point) (ts : List Token) → (first : Reading A) → Goes L start ts first
    → ((a : A) (between : Point) (late : List Token) → Read L start ts a between late → Goes (many L) between late (others between late))
    → (b : Bool) → Goes (many L) start ts (if b then then_read first (λ a. λ between late. in_front (a ∷ []) (others between late)) else Got [] start ts)
turn_goes L others start ts first goes behind true = first_goes L others start ts first goes behind
turn_goes L others start ts first goes behind false = none_goes L start ts

many_goes : {A : Type 0} (kinds : List ℕ) (j : ℕ) (L : Lang A) (p : Reader A) → Viable j L p → (n : ℕ) (start : Point) (ts : List Token) → length ts < j
    → Goes (many L) start ts (read_many kinds p n start ts)
many_goes kinds j L p viable zero start ts short = none_goes L start ts
many_goes kinds j L p viable (suc n) start ts short =
    turn_goes L (read_many kinds p n) start ts (p start ts) (viable.goes start ts short)
    (λ a between late read. many_goes kinds j L p viable n between late (left_short j ts read.used late read.whole short)) (begins kinds ts)

pub viable_many : {j : ℕ} {A : Type 0} (kinds : List ℕ) (n : ℕ) {L : Lang A} {p : Reader A} → Viable j L p → Viable j (many L) (read_many kinds p n)
viable_many {j = j} kinds n {L = L} {p = p} viable = record { word = has_no; goes = many_goes kinds j L p viable n }

pub viable_several : {j : ℕ} {A : Type 0} (kinds : List ℕ) (n : ℕ) {L : Lang A} {p : Reader A} → Viable j L p → Viable j (several L) (read_several kinds p n)
viable_several kinds n viable = viable_made (viable_both viable (viable_many kinds n viable))

pub viable_separated : {j : ℕ} {A B : Type 0} (kinds : List ℕ) (n : ℕ) {L : Lang A} {p : Reader A} {M : Lang B} {q : Reader B}
    → Viable j L p → Viable j M q → Viable j (separated L M) (read_separated kinds p q n)
viable_separated kinds n viable separator = viable_made (viable_both viable (viable_many kinds n (viable_behind separator viable)))

-- before the first token of its own, and without queries
abbrev alone_at : Point → Point
alone_at start = record { token = start.token; exists = [] }

alone_goes : {A : Type 0} (L : Lang A) (start : Point) (ts : List Token) → (reading : Reading A) → Goes L (alone_at start) ts reading
    → Goes (alone L) start ts (then_read reading λ a. λ end rest. Got (a, end.exists) (record { token = end.token; exists = start.exists }) rest)
alone_goes L start ts (Got a end rest) read = record {
  used = read.used;
  whole = read.whole;
  place = read.place;
  spelled = record { last = end; spelled = read.spelled; queries = refl; after = refl };
}
alone_goes L start ts (Stuck place) begun = record {
  used = begun.used;
  rest = begun.rest;
  whole = begun.whole;
  at = begun.at;
  more = begun.more;
  value = (begun.value, begun.end.exists);
  end = record { token = begun.end.token; exists = start.exists };
  spelled = record { last = begun.end; spelled = begun.spelled; queries = refl; after = refl };
}

-- an expression that is looked at by itself
pub viable_alone : {j : ℕ} {A : Type 0} {L : Lang A} {p : Reader A} → Viable j L p → Viable j (alone L) (read_alone p)
viable_alone {L = L} {p = p} viable = record {
  word = λ start.
      let w = viable.word (alone_at start) in
      record {
        tokens = w.tokens;
        value = (w.value, w.end.exists);
        end = record { token = w.end.token; exists = start.exists };
        spelled = record { last = w.end; spelled = w.spelled; queries = refl; after = refl };
      };
  goes = λ start ts short. alone_goes L start ts (p (alone_at start) ts) (viable.goes (alone_at start) ts short);
}

numbered_goes : (L : Lang (Tree AQuery)) (start : Point) (ts : List Token) → (reading : Reading (Tree AQuery)) → Goes L (alone_at start) ts reading
    → Goes (numbered L) start ts
    (then_read reading λ query. λ end rest. Got (length start.exists) (record { token = end.token; exists = start.exists ++ query ∷ [] }) rest)
numbered_goes L start ts (Got query end rest) read = record {
  used = read.used;
  whole = read.whole;
  place = read.place;
  spelled = record { query = query; last = end; spelled = read.spelled; number = refl; after = refl };
}
numbered_goes L start ts (Stuck place) begun = record {
  used = begun.used;
  rest = begun.rest;
  whole = begun.whole;
  at = begun.at;
  more = begun.more;
  value = length start.exists;
  end = record { token = begun.end.token; exists = start.exists ++ begun.value ∷ [] };
  spelled = record { query = begun.value; last = begun.end; spelled = begun.spelled; number = refl; after = refl };
}

-- a query of an EXISTS, with its number
pub viable_numbered : {j : ℕ} {L : Lang (Tree AQuery)} {p : Reader (Tree AQuery)} → Viable j L p → Viable j (numbered L) (read_numbered p)
viable_numbered {L = L} {p = p} viable = record {
  word = λ start.
      let w = viable.word (alone_at start) in
      record {
        tokens = w.tokens;
        value = length start.exists;
        end = record { token = w.end.token; exists = start.exists ++ w.value ∷ [] };
        spelled = record { query = w.value; last = w.end; spelled = w.spelled; number = refl; after = refl };
      };
  goes = λ start ts short. numbered_goes L start ts (p (alone_at start) ts) (viable.goes (alone_at start) ts short);
}
