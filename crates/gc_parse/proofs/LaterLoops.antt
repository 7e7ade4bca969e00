-- How the loop over the statements of a file goes on.
use Rattle.std.proofs.Common.{◌≡◌, refl, ap, sym, ◌∙◌, ℕ, zero, suc, ◌+◌, ◌<◌, ◌-◌, List, [], ◌∷◌, ◌++◌, length, map, subst, drop, Option, Some, None, Result, Err}
use Rattle.std.specs.Option.{option_map}
use Rattle.std.proofs.Math.Dec.{leb, leb-suc-suc}
use Rattle.std.proofs.lemmas.Bool.{le-leb, lt-leb}
use Rattle.std.proofs.lemmas.List.{append-nil, map-append}
use Rattle.gc_lex.specs.declared.token.Token.{Token}
use Rattle.gc_lex.specs.declared.token.Mark.TheVariants as mark
use Rattle.gc_grammar.specs.Words.{Point}
use Rattle.gc_parse_readers.specs.Readers.{Reader, Reading, Got, Stuck, then_read, in_front, read_mark, read_both, read_made}
use Rattle.gc_parse_readers.specs.LaterReaders.{ended, read_next, read_unless_ended}
use Rattle.gc_parse_readers.specs.QueryReaders.{read_later, read_unless_end}
use Rattle.gc_parse_source.specs.declared.refusal.Refusal.{Refusal}
use Rattle.gc_parse_source.specs.declared.refusal.Refusal.TheVariants as refusal
use Rattle.gc_parse_source.specs.Results.{Gives}
use Rattle.gc_parse_source.proofs.Loops.{front_of_front}
use native.Mathlib.Omega.{arith}

-- a place is at the end where it is no less than the number of tokens
pub ended_by_length : (ts : List Token) (at : ℕ) → leb (length ts) at ≡ ended (drop at ts)
ended_by_length [] zero = le-leb 0 0 (omega arith)
ended_by_length [] (suc at) = le-leb 0 (suc at) (omega arith)
ended_by_length (token ∷ ts) zero = lt-leb (length (token ∷ ts)) 0 (omega arith)
ended_by_length (token ∷ ts) (suc at) = leb-suc-suc (length ts) at ∙ ended_by_length ts at

-- what comes after the next statement, or after its absence
abbrev after_next : {A : Type 0} → Reader A → ℕ → Option A → Reader (List A)
after_next statement turns None end rest = Got [] end rest
after_next statement turns (Some a) end rest = in_front (a ∷ []) (read_later statement turns end rest)

-- a statement in front of what was read behind it
consed : {A : Type 0} (a : A) (r : Reading (List A))
    → then_read {A = A × List A} (then_read r (λ others. λ end rest. Got (a, others) end rest)) (λ v. λ end rest. Got (v.0 ∷ v.1) end rest) ≡ in_front (a ∷ []) r
consed a (Got others end rest) = refl
consed a (Stuck k) = refl

-- what follows a `;` that is not the last one
behind_one : {A : Type 0} (statement : Reader A) (turns : ℕ) (r : Reading A)
    → then_read {A = A × List A} (then_read r (λ a. λ end rest. then_read (read_later statement turns end rest) (λ others. λ e more. Got (a, others) e more))) (λ v. λ end rest. Got (v.0 ∷ v.1) end rest)
    ≡ then_read (then_read r (λ a. λ end rest. Got (Some a) end rest)) (after_next statement turns)
behind_one statement turns (Got a end rest) = consed a (read_later statement turns end rest)
behind_one statement turns (Stuck k) = refl

-- what follows a `;`
behind_semicolon : {A : Type 0} (statement : Reader A) (turns : ℕ) (between : Point) (late : List Token)
    → read_unless_end (read_made (read_both statement (read_later statement turns)) (λ n v. v.0 ∷ v.1)) between late
    ≡ then_read (read_unless_ended statement between late) (after_next statement turns)
unfolding read_unless_end
behind_semicolon statement turns between [] = refl
behind_semicolon statement turns between (token ∷ late) = behind_one statement turns (statement between (token ∷ late))

-- the value behind a token that was read
abbrev second : {A : Type 0} → Unit {0} → Reading A → Reading A
second {A} v r = then_read {A = Unit {0} × A} (then_read r (λ a. λ end rest. Got (v, a) end rest)) (λ pair. λ end rest. Got pair.1 end rest)

second_is : {A : Type 0} (v : Unit {0}) (r : Reading A) → second v r ≡ r
second_is v (Got a end rest) = refl
second_is v (Stuck k) = refl

behind_mark : {A : Type 0} (statement : Reader A) (turns : ℕ) (r : Reading (Unit {0}))
    → then_read {A = Unit {0} × List A}
    (then_read r (λ v. λ between late. then_read (read_unless_end (read_made (read_both statement (read_later statement turns)) (λ n v. v.0 ∷ v.1)) between late) (λ a. λ end rest. Got (v, a) end rest)))
    (λ pair. λ end rest. Got pair.1 end rest)
    ≡ then_read
    (then_read {A = Unit {0} × Option A} (then_read r (λ v. λ between late. then_read (read_unless_ended statement between late) (λ a. λ end rest. Got (v, a) end rest))) (λ pair. λ end rest. Got pair.1 end rest))
    (after_next statement turns)
behind_mark statement turns (Got v between late) =
    second_is v (read_unless_end (read_made (read_both statement (read_later statement turns)) (λ n v. v.0 ∷ v.1)) between late)
    ∙ behind_semicolon statement turns between late
    ∙ ap (λ r. then_read r (after_next statement turns)) (sym (second_is v (read_unless_ended statement between late)))
behind_mark statement turns (Stuck k) = refl

-- with a turn left, the next statement is read and what comes after it
later_is : {A : Type 0} (statement : Reader A) (turns : ℕ) (start : Point) (ts : List Token)
    → read_later statement (suc turns) start ts ≡ then_read (read_next statement start ts) (after_next statement turns)
unfolding read_later read_unless_end
later_is statement turns start [] = refl
later_is statement turns start (token ∷ ts) = behind_mark statement turns (read_mark mark.Semicolon start (token ∷ ts))

-- the same in a loop
later_in : {A : Type 0} (statement : Reader A) (room : ℕ) (start : Point) (ts : List Token) → 0 < room
    → read_later statement room start ts ≡ then_read (read_next statement start ts) (after_next statement (room - 1))
later_in statement zero start ts h = absurd (omega (arith, h))
later_in statement (suc turns) start ts h =
    later_is statement turns start ts
    ∙ ap (λ n. then_read (read_next statement start ts) (after_next statement n)) {x = turns} {y = suc turns - 1} (omega arith)

-- where no statement comes next, the statements are those of the whole reading
pub later_stops : {T A : Type 0} (view : T → A) (statement : Reader A) (room counter : ℕ) (items : List T) (found : Option T) (start end : Point) (ts rest : List Token) (whole : Reading (List A))
    → in_front (map view items) (read_later statement (room - counter) start ts) ≡ whole → counter < room
    → read_next statement start ts ≡ Got (option_map view found) end rest → found ≡ None
    → whole ≡ Got (map view items) end rest
later_stops view statement room counter items found start end ts rest whole so_far some got none =
    sym so_far
    ∙ ap (λ r. in_front (map view items) r)
    (later_in statement (room - counter) start ts (omega (arith, some))
    ∙ ap (λ r. then_read r (after_next statement (room - counter - 1))) (got ∙ ap (λ o. Got (option_map view o) end rest) none))
    ∙ ap (λ all. Got all end rest) (append-nil (map view items))

-- a turn with a statement keeps the whole reading
pub later_goes_on : {T A : Type 0} (view : T → A) (statement : Reader A) (room counter : ℕ) (items pushed : List T) (found : Option T) (item : T) (start end : Point) (ts rest : List Token) (whole : Reading (List A))
    → in_front (map view items) (read_later statement (room - counter) start ts) ≡ whole → counter < room
    → read_next statement start ts ≡ Got (option_map view found) end rest → found ≡ Some item → pushed ≡ items ++ item ∷ []
    → in_front (map view pushed) (read_later statement (room - (counter + 1)) end rest) ≡ whole
later_goes_on view statement room counter items pushed found item start end ts rest whole so_far some got is push =
    ap (λ front. in_front front (read_later statement (room - (counter + 1)) end rest)) (ap (map view) push ∙ map-append view items (item ∷ []))
    ∙ sym (front_of_front (map view items) (view item ∷ []) (read_later statement (room - (counter + 1)) end rest))
    ∙ ap (λ n. in_front (map view items) (in_front (view item ∷ []) (read_later statement n end rest))) {x = room - (counter + 1)} {y = room - counter - 1} (omega (arith, some))
    ∙ sym
    (ap (λ r. in_front (map view items) r)
    (later_in statement (room - counter) start ts (omega (arith, some))
    ∙ ap (λ r. then_read r (after_next statement (room - counter - 1))) (got ∙ ap (λ o. Got (option_map view o) end rest) is)))
    ∙ so_far

-- a turn that is refused is refused as the whole reading is
later_is_stuck : {T U A : Type 0} (view : T → List A) (other : U → Option A) (tokens : List Token) (statement : Reader A) (room counter : ℕ) (front : List A) (start : Point) (ts : List Token) (whole : Reading (List A)) (refused : Refusal)
    → in_front front (read_later statement (room - counter) start ts) ≡ whole → counter < room
    → Gives other tokens (Err refused) (read_next statement start ts) → Gives view tokens (Err refused) whole
later_is_stuck view other tokens statement room counter front start ts whole (refusal.Syntax k) so_far some stuck =
    sym so_far
    ∙ ap (λ r. in_front front r)
    (later_in statement (room - counter) start ts (omega (arith, some))
    ∙ ap (λ r. then_read r (after_next statement (room - counter - 1))) stuck)
later_is_stuck view other tokens statement room counter front start ts whole refusal.Memory so_far some stuck = tt

-- the same of a loop that ends with the refusal of a call
pub later_exits : {T U A : Type 0} (view : T → List A) (other : U → Option A) (tokens : List Token) (statement : Reader A) (room counter : ℕ) (front : List A) (start : Point) (ts : List Token) (whole : Reading (List A)) (refused : Refusal) (result : Result (T × ℕ) Refusal)
    → (x : Refusal) × (result ≡ Err x) × (x ≡ refused)
    → in_front front (read_later statement (room - counter) start ts) ≡ whole → counter < room
    → Gives other tokens (Err refused) (read_next statement start ts) → Gives view tokens result whole
later_exits view other tokens statement room counter front start ts whole refused result exit so_far some stuck =
    subst (λ r. Gives view tokens r whole) (sym (exit.1 ∙ ap (Err) exit.2))
    (later_is_stuck view other tokens statement room counter front start ts whole refused so_far some stuck)

-- where the room is used up, the loop is stuck as the whole reading is
pub later_ends : {A : Type 0} (statement : Reader A) (room : ℕ) (front : List A) (start : Point) (ts : List Token) (whole : Reading (List A))
    → in_front front (read_later statement room start ts) ≡ whole → room ≡ 0 → whole ≡ Stuck start.token
unfolding read_later
later_ends statement zero front start ts whole so_far h = sym so_far
later_ends statement (suc room) front start ts whole so_far h = absurd (omega (arith, h))
