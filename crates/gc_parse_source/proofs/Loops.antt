-- How the reader of any number of values goes on, turn by turn.
use Rattle.std.proofs.Common.{◌≡◌, refl, ap, sym, ◌∙◌, ℕ, zero, suc, ◌+◌, ◌<◌, ◌-◌, true, false, if◌then◌else◌, List, [], ◌∷◌, ◌++◌, map, subst, drop, Result, Ok, Err}
use Rattle.std.proofs.lemmas.List.{append_assoc, append-nil}
use Rattle.gc_lex.specs.declared.token.Token.{Token}
use Rattle.gc_ast.specs.Trees.{Tree, AQuery}
use Rattle.gc_grammar.specs.Words.{Point}
use Rattle.gc_parse_readers.specs.Kinds.{begins}
use Rattle.gc_parse_readers.specs.Readers.{Reader, Reading, Got, Stuck, then_read, in_front, read_many}
use Rattle.gc_parse_source.specs.declared.refusal.Refusal.{Refusal}
use Rattle.gc_parse_source.specs.declared.refusal.Refusal.TheVariants as refusal
use Rattle.gc_parse_source.specs.Results.{Gives, GivesWith}
use Rattle.gc_parse_readers.specs.Points.{bare}
use native.Mathlib.Omega.{arith}

-- values before values before a reading
pub front_of_front : {A : Type 0} (xs ys : List A) (r : Reading (List A)) → in_front xs (in_front ys r) ≡ in_front (xs ++ ys) r
front_of_front xs ys (Got others end rest) = ap (λ all. Got all end rest) (sym (append_assoc xs ys others))
front_of_front xs ys (Stuck k) = refl

-- where no further value begins, the values are read
pub many_stops : {A : Type 0} (kinds : List ℕ) (p : Reader A) (room : ℕ) (front : List A) (start : Point) (ts : List Token)
    → begins kinds ts ≡ false → in_front front (read_many kinds p room start ts) ≡ Got front start ts
many_stops kinds p zero front start ts h = ap (λ all. Got all start ts) (append-nil front)
many_stops kinds p (suc room) front start ts h =
    ap
    (λ b. in_front front (if b then then_read (p start ts) (λ a. λ end rest. in_front (a ∷ []) (read_many kinds p room end rest)) else Got [] start ts))
    h
    ∙ ap (λ all. Got all start ts) (append-nil front)

-- where the room is used up, they are read too
pub many_ends : {A : Type 0} (kinds : List ℕ) (p : Reader A) (room : ℕ) (front : List A) (start : Point) (ts : List Token)
    → room ≡ 0 → in_front front (read_many kinds p room start ts) ≡ Got front start ts
many_ends kinds p zero front start ts h = ap (λ all. Got all start ts) (append-nil front)
many_ends kinds p (suc room) front start ts h = absurd (omega (arith, h))

-- a further value goes behind those before it
pub many_goes_on : {A : Type 0} (kinds : List ℕ) (p : Reader A) (room less : ℕ) (front : List A) (start end : Point) (ts rest : List Token) (a : A)
    → room ≡ less + 1 → begins kinds ts ≡ true → p start ts ≡ Got a end rest
    → in_front front (read_many kinds p room start ts) ≡ in_front (front ++ a ∷ []) (read_many kinds p less end rest)
many_goes_on kinds p zero less front start end ts rest a room_is h got = absurd (omega (arith, room_is))
many_goes_on kinds p (suc room) less front start end ts rest a room_is h got =
    ap
    (λ b. in_front front (if b then then_read (p start ts) (λ a. λ end rest. in_front (a ∷ []) (read_many kinds p room end rest)) else Got [] start ts))
    h
    ∙ ap (λ r. in_front front (then_read r (λ a. λ end rest. in_front (a ∷ []) (read_many kinds p room end rest)))) got
    ∙ front_of_front front (a ∷ []) (read_many kinds p room end rest)
    ∙ ap (λ n. in_front (front ++ a ∷ []) (read_many kinds p n end rest)) {x = room} {y = less} (omega (arith, room_is))

-- where a further value is not read, none is
pub many_is_stuck : {A : Type 0} (kinds : List ℕ) (p : Reader A) (room : ℕ) (front : List A) (start : Point) (ts : List Token) (k : ℕ)
    → 0 < room → begins kinds ts ≡ true → p start ts ≡ Stuck k → in_front front (read_many kinds p room start ts) ≡ Stuck k
many_is_stuck kinds p zero front start ts k some h stuck = absurd (omega (arith, some))
many_is_stuck kinds p (suc room) front start ts k some h stuck =
    ap
    (λ b. in_front front (if b then then_read (p start ts) (λ a. λ end rest. in_front (a ∷ []) (read_many kinds p room end rest)) else Got [] start ts))
    h
    ∙ ap (λ r. in_front front (then_read r (λ a. λ end rest. in_front (a ∷ []) (read_many kinds p room end rest)))) stuck

map_snoc : {T A : Type 0} (view : T → A) (items : List T) (item : T) → map view (items ++ item ∷ []) ≡ map view items ++ view item ∷ []
map_snoc view [] item = refl
map_snoc view (x ∷ items) item = ap (λ rest. view x ∷ rest) (map_snoc view items item)

-- a loop that pushes a value each turn: where it stops its values are those of the whole reading
pub loop_stops : {T A : Type 0} (view : T → A) (kinds : List ℕ) (p : Reader A) (room : ℕ) (items : List T) (start : Point) (ts : List Token) (whole : Reading (List A))
    → in_front (map view items) (read_many kinds p room start ts) ≡ whole → begins kinds ts ≡ false
    → whole ≡ Got (map view items) start ts
loop_stops view kinds p room items start ts whole so_far h = sym so_far ∙ many_stops kinds p room (map view items) start ts h

-- a turn with a value keeps the whole reading
pub loop_goes_on : {T A : Type 0} (view : T → A) (kinds : List ℕ) (p : Reader A) (room counter : ℕ) (items pushed : List T) (item : T) (start end : Point) (ts rest : List Token) (whole : Reading (List A))
    → in_front (map view items) (read_many kinds p (room - counter) start ts) ≡ whole → counter < room → begins kinds ts ≡ true
    → p start ts ≡ Got (view item) end rest → pushed ≡ items ++ item ∷ []
    → in_front (map view pushed) (read_many kinds p (room - (counter + 1)) end rest) ≡ whole
loop_goes_on view kinds p room counter items pushed item start end ts rest whole so_far some h got push =
    ap (λ front. in_front front (read_many kinds p (room - (counter + 1)) end rest)) (ap (map view) push ∙ map_snoc view items item)
    ∙ sym (many_goes_on kinds p (room - counter) (room - (counter + 1)) (map view items) start end ts rest (view item) (omega (arith, some)) h got)
    ∙ so_far

-- a turn that is refused is refused as the whole reading is
pub loop_is_stuck : {T U A : Type 0} (view : T → List A) (other : U → A) (tokens : List Token) (kinds : List ℕ) (p : Reader A) (room counter : ℕ) (front : List A) (start : Point) (ts : List Token) (whole : Reading (List A)) (refused : Refusal)
    → in_front front (read_many kinds p (room - counter) start ts) ≡ whole → counter < room → begins kinds ts ≡ true
    → Gives other tokens (Err refused) (p start ts) → Gives view tokens (Err refused) whole
loop_is_stuck view other tokens kinds p room counter front start ts whole (refusal.Syntax k) so_far some h stuck =
    sym so_far ∙ many_is_stuck kinds p (room - counter) front start ts k (omega (arith, some)) h stuck
loop_is_stuck view other tokens kinds p room counter front start ts whole refusal.Memory so_far some h stuck = tt

-- the same of a loop that ends with the refusal of a call
pub loop_exits : {T U A : Type 0} (view : T → List A) (other : U → A) (tokens : List Token) (kinds : List ℕ) (p : Reader A) (room counter : ℕ) (front : List A) (start : Point) (ts : List Token) (whole : Reading (List A)) (refused : Refusal) (result : Result (T × ℕ) Refusal)
    → (x : Refusal) × (result ≡ Err x) × (x ≡ refused)
    → in_front front (read_many kinds p (room - counter) start ts) ≡ whole → counter < room → begins kinds ts ≡ true
    → Gives other tokens (Err refused) (p start ts) → Gives view tokens result whole
loop_exits view other tokens kinds p room counter front start ts whole refused result exit so_far some h stuck =
    subst (λ r. Gives view tokens r whole) (sym (exit.1 ∙ ap (Err) exit.2))
    (loop_is_stuck view other tokens kinds p room counter front start ts whole refused so_far some h stuck)

-- no values before a reading leave it
pub in_front_nothing : {A : Type 0} (r : Reading (List A)) → in_front [] r ≡ r
in_front_nothing (Got others end rest) = refl
in_front_nothing (Stuck k) = refl

-- a turn in an expression that is refused is refused as the whole reading is
pub loop_with_is_stuck : {T U A : Type 0} (view : T → List A) (other : U → A) (queries mine : List (Tree AQuery)) (tokens : List Token) (kinds : List ℕ) (p : Reader A) (room counter : ℕ) (front : List A) (start : Point) (ts : List Token) (whole : Reading (List A)) (refused : Refusal)
    → in_front front (read_many kinds p (room - counter) start ts) ≡ whole → counter < room → begins kinds ts ≡ true
    → GivesWith other mine tokens (Err refused) (p start ts) → GivesWith view queries tokens (Err refused) whole
loop_with_is_stuck view other queries mine tokens kinds p room counter front start ts whole (refusal.Syntax k) so_far some h stuck =
    sym so_far ∙ many_is_stuck kinds p (room - counter) front start ts k (omega (arith, some)) h stuck
loop_with_is_stuck view other queries mine tokens kinds p room counter front start ts whole refusal.Memory so_far some h stuck = tt

-- the same of a loop that ends with the refusal of a call
pub loop_with_exits : {T U A : Type 0} (view : T → List A) (other : U → A) (queries mine : List (Tree AQuery)) (tokens : List Token) (kinds : List ℕ) (p : Reader A) (room counter : ℕ) (front : List A) (start : Point) (ts : List Token) (whole : Reading (List A)) (refused : Refusal) (result : Result (T × ℕ) Refusal)
    → (x : Refusal) × (result ≡ Err x) × (x ≡ refused)
    → in_front front (read_many kinds p (room - counter) start ts) ≡ whole → counter < room → begins kinds ts ≡ true
    → GivesWith other mine tokens (Err refused) (p start ts) → GivesWith view queries tokens result whole
loop_with_exits view other queries mine tokens kinds p room counter front start ts whole refused result exit so_far some h stuck =
    subst (λ r. GivesWith view queries tokens r whole) (sym (exit.1 ∙ ap (Err) exit.2))
    (loop_with_is_stuck view other queries mine tokens kinds p room counter front start ts whole refused so_far some h stuck)

-- values that stand for themselves
pub map_is_itself : {A : Type 0} (xs : List A) → map (λ x. x) xs ≡ xs
map_is_itself [] = refl
map_is_itself (x ∷ xs) = ap (λ rest. x ∷ rest) (map_is_itself xs)

-- a loop that begins without values, and whose values stand for themselves
pub list_given : {A : Type 0} (tokens : List Token) (result : Result (List A × ℕ) Refusal) (reading : Reading (List A))
    → Gives (λ xs. map (λ x. x) xs) tokens result (in_front [] reading) → Gives (λ xs. xs) tokens result reading
list_given tokens (Ok given) reading gives =
    sym (in_front_nothing reading) ∙ gives ∙ ap (λ xs. Got xs (bare given.1) (drop given.1 tokens)) (map_is_itself given.0)
list_given tokens (Err (refusal.Syntax k)) reading gives = sym (in_front_nothing reading) ∙ gives
list_given tokens (Err refusal.Memory) reading gives = tt

-- a loop that begins without values
pub loop_begins : {T A : Type 0} (view : T → A) (kinds : List ℕ) (p : Reader A) (room : ℕ) (items : List T) (start : Point) (ts : List Token)
    → items ≡ [] → in_front (map view items) (read_many kinds p (room - 0) start ts) ≡ read_many kinds p room start ts
loop_begins view kinds p room items start ts none =
    ap (λ xs. in_front (map view xs) (read_many kinds p (room - 0) start ts)) none
    ∙ ap (λ n. in_front [] (read_many kinds p n start ts)) {x = room - 0} {y = room} (omega arith)
    ∙ in_front_nothing (read_many kinds p room start ts)
