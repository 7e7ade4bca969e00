-- The ways of a fork through choices and repetitions at the beginning of a production.
use Rattle.std.proofs.Common.{◌≡◌, refl, ap, ◌∙◌, ℕ, zero, suc, arith, le_refl, not-suc-le-zero, Bool, true, false, if◌then◌else◌, List, [], ◌∷◌, ◌++◌, append_assoc, length}
use Rattle.gc_lex.specs.declared.token.Token.{Token}
use Rattle.gc_grammar.specs.Words.{Point, Lang, this, that, many, ◌⋅◌, ◌∣◌}
use Rattle.gc_parse_readers.specs.Kinds.{kind, among, begins, begins_so, covers, apart}
use Rattle.gc_parse_readers.specs.Readers.{Reader, Reading, Got, then_read, in_front, read_both, read_either, read_fork, read_many}
use Rattle.gc_parse_readers.specs.Right.{Right, Outline, Opens}
use Rattle.gc_parse_readers.proofs.KindLaws.{neither, kept_apart, not_covered, opens_apart}
use Rattle.gc_parse_readers.proofs.Forks.{matched_none, Reaches, Firm, reaches_none, reaches_any, reaches_made, reaches_then}
use Rattle.gc_parse_readers.proofs.RightFork.{Fronts, Way}
use Rattle.gc_parse_readers.proofs.Ways.{begins_so_not, firm_right, firm_then}

-- a word of either
fronts_either : {A : Type 0} (sets : List (List ℕ)) (does : Bool) (L M : Lang A) → Fronts sets does L → Fronts sets does M → Fronts sets does (L ∣ M)
fronts_either sets does L M first second start end ts other a (this l) = first start end ts other a l
fronts_either sets does L M first second start end ts other a (that m) = second start end ts other a m

-- what begins with other tokens does not begin so
fronts_apart : {A : Type 0} (kinds : List ℕ) (sets : List (List ℕ)) (L : Lang A) (o : Outline) → apart kinds o.first ≡ true → o.empty ≡ false
    → ((start end : Point) (ts : List Token) (a : A) → L start ts a end → Opens o ts) → Fronts (kinds ∷ sets) false L
fronts_apart kinds sets L o c some opened start end ts other a l =
    begins_so_not kinds sets (ts ++ other) (opens_apart o kinds ts other (opened start end ts a l) some c)

-- what does not begin with a first token matches nothing
other_reaches : {A : Type 0} (kinds : List ℕ) (init : List (List ℕ)) (start : Point) (ts : List Token) (reading : Reading A) → begins kinds ts ≡ false
    → Reaches [] start ts reading → Reaches (kinds ∷ init) start ts reading
other_reaches kinds init start ts reading not_so reaches = reaches_none (kinds ∷ init) start ts reading (matched_none kinds init ts not_so) reaches

-- of two, the first of which may begin with a token of the fork
either_first : {A : Type 0} (choice kinds : List ℕ) (init : List (List ℕ)) (start : Point) (ts : List Token) (r s : Reading A) → covers choice kinds ≡ true
    → Reaches (kinds ∷ init) start ts r → Reaches [] start ts s → (b : Bool) → begins choice ts ≡ b → Reaches (kinds ∷ init) start ts (if b then r else s)
either_first choice kinds init start ts r s c first second true chosen = first
either_first choice kinds init start ts r s c first second false chosen = other_reaches kinds init start ts s (not_covered choice kinds ts c chosen) second

pub way_either : {j J : ℕ} {kinds : List ℕ} {init : List (List ℕ)} {last : List ℕ} {A : Type 0} {L M : Lang A} {p : Reader A} {L' M' : Lang A} {p' q' : Reader A} {o' : Outline}
    (choice : List ℕ) → covers choice kinds ≡ true → apart kinds o'.first ≡ true → o'.empty ≡ false
    → Way j J (kinds ∷ init) last false L M p → Right j J L' M' p' q' o' → Way j J (kinds ∷ init) last false (L ∣ L') (M ∣ M') (read_either choice p p')
way_either {kinds = kinds} {init = init} {last = last} {L = L} {M = M} {p = p} {L' = L'} {M' = M'} {p' = p'} {o' = o'} choice c d some way right = record {
  fronts = fronts_either (kinds ∷ (init ++ last ∷ [])) false L L' way.fronts (fronts_apart kinds (init ++ last ∷ []) L' o' d some right.opened);
  fronts_by = fronts_either (kinds ∷ (init ++ last ∷ [])) false M M' way.fronts_by (fronts_apart kinds (init ++ last ∷ []) M' o' d some right.opened_by);
  firm = λ start ts short.
      either_first choice kinds init start ts (p start ts) (p' start ts) c (way.firm start ts short) (firm_right right start ts short) (begins choice ts) refl;
}

-- a token of some kinds is not of others
not_apart : (choice kinds : List ℕ) (ts : List Token) → apart choice kinds ≡ true → begins choice ts ≡ true → begins kinds ts ≡ false
not_apart choice kinds [] c h = refl
not_apart choice kinds (token ∷ ts) c h = by (among kinds (kind token)) refl
  where
    by : (b : Bool) → among kinds (kind token) ≡ b → b ≡ false
    by true is = neither h (kept_apart choice kinds (kind token) c is)
    by false is = refl

-- of two, the second of which may begin with a token of the fork
either_second : {A : Type 0} (choice kinds : List ℕ) (init : List (List ℕ)) (start : Point) (ts : List Token) (r s : Reading A) → apart choice kinds ≡ true
    → Reaches [] start ts r → Reaches (kinds ∷ init) start ts s → (b : Bool) → begins choice ts ≡ b → Reaches (kinds ∷ init) start ts (if b then r else s)
either_second choice kinds init start ts r s c first second true chosen = other_reaches kinds init start ts r (not_apart choice kinds ts c chosen) first
either_second choice kinds init start ts r s c first second false chosen = second

pub way_either_second : {j J : ℕ} {kinds : List ℕ} {init : List (List ℕ)} {last : List ℕ} {A : Type 0} {L M : Lang A} {p q : Reader A} {o : Outline} {L' M' : Lang A} {p' : Reader A}
    (choice : List ℕ) → apart choice kinds ≡ true → apart kinds o.first ≡ true → o.empty ≡ false
    → Right j J L M p q o → Way j J (kinds ∷ init) last false L' M' p' → Way j J (kinds ∷ init) last false (L ∣ L') (M ∣ M') (read_either choice p p')
way_either_second {kinds = kinds} {init = init} {last = last} {L = L} {M = M} {p = p} {o = o} {L' = L'} {M' = M'} {p' = p'} choice c d some right way = record {
  fronts = fronts_either (kinds ∷ (init ++ last ∷ [])) false L L' (fronts_apart kinds (init ++ last ∷ []) L o d some right.opened) way.fronts;
  fronts_by = fronts_either (kinds ∷ (init ++ last ∷ [])) false M M' (fronts_apart kinds (init ++ last ∷ []) M o d some right.opened_by) way.fronts_by;
  firm = λ start ts short.
      either_second choice kinds init start ts (p start ts) (p' start ts) c (firm_right right start ts short) (way.firm start ts short) (begins choice ts) refl;
}

-- of two that are themselves told by a fork
fork_reaches : {A : Type 0} (init : List (List ℕ)) (start : Point) (ts : List Token) (r s : Reading A) → Reaches init start ts r → Reaches init start ts s
    → (b : Bool) → Reaches init start ts (if b then r else s)
fork_reaches init start ts r s first second true = first
fork_reaches init start ts r s first second false = second

pub way_fork : {j J : ℕ} {init : List (List ℕ)} {last : List ℕ} {does : Bool} {A : Type 0} {L M : Lang A} {p : Reader A} {L' M' : Lang A} {p' : Reader A} (choice : List (List ℕ))
    → Way j J init last does L M p → Way j J init last does L' M' p' → Way j J init last does (L ∣ L') (M ∣ M') (read_fork choice p p')
way_fork {init = init} {last = last} {does = does} {L = L} {M = M} {p = p} {L' = L'} {M' = M'} {p' = p'} choice way way' = record {
  fronts = fronts_either (init ++ last ∷ []) does L L' way.fronts way'.fronts;
  fronts_by = fronts_either (init ++ last ∷ []) does M M' way.fronts_by way'.fronts_by;
  firm = λ start ts short.
      fork_reaches init start ts (p start ts) (p' start ts) (way.firm start ts short) (way'.firm start ts short) (begins_so choice ts);
}

-- none of what may come past a fork
none_reaches : (A : Type 0) (start : Point) (ts : List Token) → Reaches {A = List A} [] start ts (Got [] start ts)
none_reaches A start ts = (omega arith, le_refl (length ts))

-- the others behind one
in_front_firm : {A : Type 0} (j : ℕ) (q : Reader (List A)) (a : A) → Firm j [] q → Firm j [] (λ between late. in_front (a ∷ []) (q between late))
in_front_firm j q a firm between late short = reaches_made [] between late (λ others. (a ∷ []) ++ others) (q between late) (firm between late short)

many_goes_on : {A : Type 0} (j : ℕ) (choice : List ℕ) (init : List (List ℕ)) (p : Reader A) → Firm j init p → (room : ℕ) → Firm j [] (read_many choice p room)
many_goes_on {A = A} j choice init p firm zero start ts short = none_reaches A start ts
many_goes_on {A = A} j choice init p firm (suc room) start ts short = by (many_goes_on j choice init p firm room) (begins choice ts)
  where
    by : Firm j [] (read_many choice p room) → (b : Bool)
        → Reaches [] start ts (if b then then_read (p start ts) (λ a. λ end rest. in_front (a ∷ []) (read_many choice p room end rest)) else Got [] start ts)
    by later true =
        reaches_then j [] start ts (λ a. λ between late. in_front (a ∷ []) (read_many choice p room between late)) short
        (λ a. in_front_firm j (read_many choice p room) a later) (p start ts) (reaches_any init start ts (p start ts) (firm start ts short))
    by later false = none_reaches A start ts

many_firm : {A : Type 0} (j : ℕ) (choice kinds : List ℕ) (init : List (List ℕ)) (p : Reader A) → covers choice kinds ≡ true → Firm j (kinds ∷ init) p
    → Firm j (kinds ∷ init) (read_many choice p j)
many_firm zero choice kinds init p c firm start ts short = absurd (not-suc-le-zero short)
many_firm {A = A} (suc n) choice kinds init p c firm start ts short =
    either_first choice kinds init start ts (then_read (p start ts) λ a. λ end rest. in_front (a ∷ []) (read_many choice p n end rest)) (Got [] start ts) c
    (reaches_then (suc n) (kinds ∷ init) start ts (λ a. λ between late. in_front (a ∷ []) (read_many choice p n between late)) short
    (λ a. in_front_firm (suc n) (read_many choice p n) a (many_goes_on (suc n) choice (kinds ∷ init) p firm n)) (p start ts) (firm start ts short))
    (none_reaches A start ts) (begins choice ts) refl

fronts_many : {A B : Type 0} (sets : List (List ℕ)) (L : Lang A) (M : Lang B) → Fronts sets false L → Fronts sets false M → Fronts sets false (many L ⋅ M)
fronts_many {A = A} {B = B} sets L M first second start end ts other v l =
    ap (λ us. begins_so sets (us ++ other)) l.whole ∙ ap (begins_so sets) (append_assoc l.early l.late other)
    ∙ by v.0 l.before
  where
    by : (vs : List A) → many L start l.early vs l.between → begins_so sets (l.early ++ (l.late ++ other)) ≡ false
    by [] m = ap (λ us. begins_so sets (us ++ (l.late ++ other))) m.0 ∙ second l.between end l.late other v.1 l.behind
    by (a ∷ others) m =
        ap (λ us. begins_so sets (us ++ (l.late ++ other))) m.3 ∙ ap (begins_so sets) (append_assoc m.0 m.1 (l.late ++ other))
        ∙ first start m.2 m.0 (m.1 ++ (l.late ++ other)) a m.4

-- any number of what may begin with a token of the fork, before what does not
pub way_many : {j J : ℕ} {kinds : List ℕ} {init : List (List ℕ)} {last : List ℕ} {A B : Type 0} {L M : Lang A} {p : Reader A} {L' M' : Lang B} {p' q' : Reader B} {o' : Outline}
    (choice : List ℕ) → covers choice kinds ≡ true → apart kinds o'.first ≡ true → o'.empty ≡ false
    → Way j J (kinds ∷ init) last false L M p → Right j J L' M' p' q' o'
    → Way j J (kinds ∷ init) last false (many L ⋅ L') (many M ⋅ M') (read_both (read_many choice p j) p')
way_many {j = j} {kinds = kinds} {init = init} {last = last} {L = L} {M = M} {p = p} {L' = L'} {M' = M'} {p' = p'} {o' = o'} choice c d some way right = record {
  fronts = fronts_many (kinds ∷ (init ++ last ∷ [])) L L' way.fronts (fronts_apart kinds (init ++ last ∷ []) L' o' d some right.opened);
  fronts_by = fronts_many (kinds ∷ (init ++ last ∷ [])) M M' way.fronts_by (fronts_apart kinds (init ++ last ∷ []) M' o' d some right.opened_by);
  firm = λ start ts short.
      reaches_then j (kinds ∷ init) start ts (λ a. λ between late. then_read (p' between late) λ b. λ end rest. Got (a, b) end rest) short
      (λ a. firm_then j p' a (firm_right right)) (read_many choice p j start ts) (many_firm j choice kinds init p c way.firm start ts short);
}
