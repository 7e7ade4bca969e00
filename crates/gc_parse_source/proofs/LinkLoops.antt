-- How the reader of any number of pairs goes on turn by turn, where the parts of each stand in turn.
use Rattle.std.proofs.Common.{◌≡◌, refl, ap, sym, ◌∙◌, ℕ, ◌+◌, ◌<◌, ◌-◌, true, false, List, [], ◌∷◌, ◌++◌, map, subst, Result, Err}
use Rattle.std.proofs.lemmas.List.{append-nil}
use Rattle.gc_lex.specs.declared.token.Token.{Token}
use Rattle.gc_grammar.specs.Words.{Point}
use Rattle.gc_parse_readers.specs.Kinds.{begins}
use Rattle.gc_grammar.specs.Patterns.{in_turn}
use Rattle.gc_parse_readers.specs.Readers.{Reader, Reading, Got, Stuck, in_front, read_many}
use Rattle.gc_parse_source.specs.declared.refusal.Refusal.{Refusal}
use Rattle.gc_parse_source.specs.declared.refusal.Refusal.TheVariants as refusal
use Rattle.gc_parse_source.specs.Turns.{in_front_in_turn}
use Rattle.gc_parse_source.specs.Results.{Gives}
use Rattle.gc_parse_source.proofs.Loops.{many_stops, many_goes_on, many_is_stuck, in_front_nothing}
use native.Mathlib.Omega.{arith}

append_two : {A : Type 0} (xs ys : List A) (a b : A) → (xs ++ a ∷ b ∷ []) ++ ys ≡ xs ++ (a ∷ b ∷ ys)
append_two [] ys a b = refl
append_two (x ∷ xs) ys a b = ap (λ rest. x ∷ rest) (append_two xs ys a b)

map_two : {T A : Type 0} (view : T → A) (items : List T) (a b : T) → map view ((items ++ a ∷ []) ++ b ∷ []) ≡ map view items ++ view a ∷ view b ∷ []
map_two view [] a b = refl
map_two view (x ∷ items) a b = ap (λ rest. view x ∷ rest) (map_two view items a b)

-- a pair before those of a reading
pair_in_turn : {A : Type 0} (front : List A) (a b : A) (r : Reading (List (A × A)))
    → in_front_in_turn front (in_front ((a, b) ∷ []) r) ≡ in_front_in_turn (front ++ a ∷ b ∷ []) r
pair_in_turn front a b (Got pairs end rest) = ap (λ all. Got all end rest) (sym (append_two front (in_turn pairs) a b))
pair_in_turn front a b (Stuck k) = refl

-- a loop that pushes the parts of a pair each turn: where it stops its values are those of the reading
pub links_stop : {T A : Type 0} (view : T → A) (kinds : List ℕ) (p : Reader (A × A)) (room : ℕ) (items : List T) (start : Point) (ts : List Token) (whole : Reading (List A))
    → in_front_in_turn (map view items) (read_many kinds p room start ts) ≡ whole → begins kinds ts ≡ false
    → whole ≡ Got (map view items) start ts
links_stop view kinds p room items start ts whole so_far h =
    sym so_far
    ∙ ap (λ r. in_front_in_turn (map view items) r) (sym (in_front_nothing (read_many kinds p room start ts)) ∙ many_stops kinds p room [] start ts h)
    ∙ ap (λ all. Got all start ts) (append-nil (map view items))

-- a turn with a pair keeps the whole reading
pub links_go_on : {T A : Type 0} (view : T → A) (kinds : List ℕ) (p : Reader (A × A)) (room counter : ℕ) (items once pushed : List T) (link node : T) (start end : Point) (ts rest : List Token) (whole : Reading (List A))
    → in_front_in_turn (map view items) (read_many kinds p (room - counter) start ts) ≡ whole → counter < room → begins kinds ts ≡ true
    → p start ts ≡ Got (view link, view node) end rest → once ≡ items ++ link ∷ [] → pushed ≡ once ++ node ∷ []
    → in_front_in_turn (map view pushed) (read_many kinds p (room - (counter + 1)) end rest) ≡ whole
links_go_on view kinds p room counter items once pushed link node start end ts rest whole so_far some h got first second =
    let later = read_many kinds p (room - (counter + 1)) end rest in
    let turn =
    sym (in_front_nothing (read_many kinds p (room - counter) start ts))
    ∙ many_goes_on kinds p (room - counter) (room - (counter + 1)) [] start end ts rest (view link, view node) (omega (arith, some)) h got in
    ap (λ front. in_front_in_turn front later) (ap (map view) (second ∙ ap (λ xs. xs ++ node ∷ []) first) ∙ map_two view items link node)
    ∙ sym (pair_in_turn (map view items) (view link) (view node) later)
    ∙ sym (ap (λ r. in_front_in_turn (map view items) r) turn)
    ∙ so_far

-- a turn that is refused is refused as the whole reading is
links_are_stuck : {T U A : Type 0} (view : T → List A) (other : U → A × A) (tokens : List Token) (kinds : List ℕ) (p : Reader (A × A)) (room counter : ℕ) (front : List A) (start : Point) (ts : List Token) (whole : Reading (List A)) (refused : Refusal)
    → in_front_in_turn front (read_many kinds p (room - counter) start ts) ≡ whole → counter < room → begins kinds ts ≡ true
    → Gives other tokens (Err refused) (p start ts) → Gives view tokens (Err refused) whole
links_are_stuck view other tokens kinds p room counter front start ts whole (refusal.Syntax k) so_far some h stuck =
    sym so_far
    ∙ ap (λ r. in_front_in_turn front r)
    (sym (in_front_nothing (read_many kinds p (room - counter) start ts)) ∙ many_is_stuck kinds p (room - counter) [] start ts k (omega (arith, some)) h stuck)
links_are_stuck view other tokens kinds p room counter front start ts whole refusal.Memory so_far some h stuck = tt

-- the same of a loop that ends with the refusal of a call
pub links_exit : {T U A : Type 0} (view : T → List A) (other : U → A × A) (tokens : List Token) (kinds : List ℕ) (p : Reader (A × A)) (room counter : ℕ) (front : List A) (start : Point) (ts : List Token) (whole : Reading (List A)) (refused : Refusal) (result : Result (T × ℕ) Refusal)
    → (x : Refusal) × (result ≡ Err x) × (x ≡ refused)
    → in_front_in_turn front (read_many kinds p (room - counter) start ts) ≡ whole → counter < room → begins kinds ts ≡ true
    → Gives other tokens (Err refused) (p start ts) → Gives view tokens result whole
links_exit view other tokens kinds p room counter front start ts whole refused result exit so_far some h stuck =
    subst (λ r. Gives view tokens r whole) (sym (exit.1 ∙ ap (Err) exit.2))
    (links_are_stuck view other tokens kinds p room counter front start ts whole refused so_far some h stuck)
