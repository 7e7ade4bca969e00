-- How far a list begins as some sets of kinds say, and how far a reader comes.
use Rattle.std.proofs.Common.{◌≡◌, ◌∙◌, refl, sym, ap, ℕ, suc, ◌+◌, ◌<◌, ◌≤◌, arith, le_refl, not-suc-le-zero, Bool, true, false, ◌&&◌, if◌then◌else◌, List, [], ◌∷◌, ◌++◌, length, length-append}
use Rattle.std.proofs.lemmas.Option.{none-some, same_Some}
use Rattle.gc_lex.specs.declared.token.Token.{Token}
use Rattle.gc_grammar.specs.Words.{Point, Lang}
use Rattle.gc_parse_readers.specs.Kinds.{kind, among, begins, begins_so}
use Rattle.gc_parse_readers.specs.Readers.{Reader, Reading, Got, Stuck, then_read}
use Rattle.gc_parse_readers.specs.Right.{Alike, Sound}
use Rattle.gc_parse_readers.proofs.KindLaws.{alike_behind}

-- how many tokens of a list are of some kinds, one after another, from its front on
abbrev pub matched : List (List ℕ) → List Token → ℕ
matched [] ts = 0
matched (kinds ∷ others) [] = 0
matched (kinds ∷ others) (token ∷ ts) = if among kinds (kind token) then suc (matched others ts) else 0

-- whether a list begins with one token of some kinds
begins_one : (last : List ℕ) (ts us : List Token) → Alike ts us → begins_so (last ∷ []) ts ≡ begins_so (last ∷ []) us
begins_one last [] [] same = refl
begins_one last [] (token ∷ us) same = absurd (none-some token same)
begins_one last (token ∷ ts) [] same = absurd (none-some token (sym same))
begins_one last (token ∷ ts) (other ∷ us) same = ap (λ t. among last (kind t) && true) (same_Some token other same)

-- a list that stops matching tells it with the next token
stops_matching : (kinds : List ℕ) (others : List (List ℕ)) (ts us : List Token) → Alike ts us → matched (kinds ∷ others) ts ≤ 0
    → (sets : List (List ℕ)) → begins_so (kinds ∷ sets) us ≡ begins_so (kinds ∷ sets) ts
stops_matching kinds others [] [] same none sets = refl
stops_matching kinds others [] (token ∷ us) same none sets = absurd (none-some token same)
stops_matching kinds others (token ∷ ts) [] same none sets = absurd (none-some token (sym same))
stops_matching kinds others (token ∷ ts) (other ∷ us) same none sets = here (among kinds (kind token)) refl none
  where
    here : (b : Bool) → among kinds (kind token) ≡ b → (if b then suc (matched others ts) else 0) ≤ 0
        → begins_so (kinds ∷ sets) (other ∷ us) ≡ begins_so (kinds ∷ sets) (token ∷ ts)
    here true is none = absurd (not-suc-le-zero none)
    here false is none = rw (← same_Some token other same) (rw is refl)

-- where all that matches was used, the token after it tells the rest
pub begins_so_alike : (init : List (List ℕ)) (last : List ℕ) (used rest other : List Token) → Alike rest other → matched init (used ++ rest) ≤ length used
    → begins_so (init ++ last ∷ []) (used ++ other) ≡ begins_so (init ++ last ∷ []) (used ++ rest)
begins_so_alike [] last used rest other same most = begins_one last (used ++ other) (used ++ rest) (alike_behind used other rest (sym same))
begins_so_alike (kinds ∷ init) last [] rest other same most = stops_matching kinds init rest other same most (init ++ last ∷ [])
begins_so_alike (kinds ∷ init) last (token ∷ used) rest other same most =
    here (begins_so_alike init last used rest other same) (among kinds (kind token)) most
  where
    here : (matched init (used ++ rest) ≤ length used → begins_so (init ++ last ∷ []) (used ++ other) ≡ begins_so (init ++ last ∷ []) (used ++ rest))
        → (b : Bool) → (if b then suc (matched init (used ++ rest)) else 0) ≤ suc (length used)
        → (b && begins_so (init ++ last ∷ []) (used ++ other)) ≡ (b && begins_so (init ++ last ∷ []) (used ++ rest))
    here later true most = later (omega arith)
    here later false most = refl

-- what does not begin so matches nothing
pub matched_none : (kinds : List ℕ) (others : List (List ℕ)) (ts : List Token) → begins kinds ts ≡ false → matched (kinds ∷ others) ts ≡ 0
matched_none kinds others [] h = refl
matched_none kinds others (token ∷ ts) h = rw h refl

-- one token matches one set at most
pub matched_one : (kinds : List ℕ) (others : List (List ℕ)) (token : Token) (ts : List Token) → matched (kinds ∷ others) (token ∷ ts) ≤ suc (matched others ts)
matched_one kinds others token ts = here (among kinds (kind token))
  where
    here : (b : Bool) → (if b then suc (matched others ts) else 0) ≤ suc (matched others ts)
    here true = le_refl _
    here false = omega arith

-- a reading came past the tokens that match, and left no more than there were
abbrev pub Reaches : {A : Type 0} → List (List ℕ) → Point → List Token → Reading A → Type 0
Reaches init start ts (Got a end rest) = (start.token + matched init ts ≤ end.token) × (length rest ≤ length ts)
Reaches init start ts (Stuck place) = start.token + matched init ts ≤ place

-- a reader comes past the tokens that match
abbrev pub Firm : {A : Type 0} → ℕ → List (List ℕ) → Reader A → Type 0
Firm j init p = (start : Point) (ts : List Token) → length ts < j → Reaches init start ts (p start ts)

-- no reading goes back
pub sound_reaches : {A : Type 0} (room : ℕ) (L : Lang A) (q : Reader A) (start : Point) (ts : List Token) (reading : Reading A)
    → Sound room L q start ts reading → Reaches [] start ts reading
sound_reaches room L q start ts (Got a end rest) found =
    let place = found.place in
    let whole = ap length found.whole ∙ length-append found.used rest in
    (omega (arith, place), omega (arith, whole))
sound_reaches room L q start ts (Stuck place) refused = let at = refused.at in omega (arith, at)

-- where nothing matches, no more is asked
pub reaches_none : {A : Type 0} (init : List (List ℕ)) (start : Point) (ts : List Token) (reading : Reading A)
    → matched init ts ≡ 0 → Reaches [] start ts reading → Reaches init start ts reading
reaches_none init start ts (Got a end rest) none reaches =
    let before = reaches.0 in (omega (arith, none, before), reaches.1)
reaches_none init start ts (Stuck place) none reaches = omega (arith, none, reaches)

-- nor where less is asked
pub reaches_any : {A : Type 0} (init : List (List ℕ)) (start : Point) (ts : List Token) (reading : Reading A)
    → Reaches init start ts reading → Reaches [] start ts reading
reaches_any init start ts (Got a end rest) reaches = let before = reaches.0 in (omega (arith, before), reaches.1)
reaches_any init start ts (Stuck place) reaches = omega (arith, reaches)

-- a value that is made of a reading's value
pub reaches_made : {A B : Type 0} (init : List (List ℕ)) (start : Point) (ts : List Token) (make : A → B) (reading : Reading A)
    → Reaches init start ts reading → Reaches init start ts (then_read reading λ a. λ end rest. Got (make a) end rest)
reaches_made init start ts make (Got a end rest) reaches = reaches
reaches_made init start ts make (Stuck place) reaches = reaches

-- a reading from a later point on
pub reaches_later : {A : Type 0} (init later : List (List ℕ)) (start between : Point) (ts late : List Token) (reading : Reading A)
    → start.token + matched init ts ≤ between.token + matched later late → length late ≤ length ts
    → Reaches later between late reading → Reaches init start ts reading
reaches_later init later start between ts late (Got a end rest) most shorter reaches =
    let before = reaches.0 in
    let behind = reaches.1 in
    (omega (arith, most, before), omega (arith, shorter, behind))
reaches_later init later start between ts late (Stuck place) most shorter reaches = omega (arith, most, reaches)

-- a reading, and another behind it
pub reaches_then : {A B : Type 0} (j : ℕ) (init : List (List ℕ)) (start : Point) (ts : List Token) (later : A → Reader B) → length ts < j
    → ((a : A) → Firm j [] (later a)) → (reading : Reading A) → Reaches init start ts reading → Reaches init start ts (then_read reading later)
reaches_then j init start ts later short firm (Got a between late) reaches =
    let before = reaches.0 in
    let behind = reaches.1 in
    reaches_later init [] start between ts late (later a between late) (omega (arith, before)) reaches.1
    (firm a between late (omega (arith, short, behind)))
reaches_then j init start ts later short firm (Stuck place) reaches = reaches
