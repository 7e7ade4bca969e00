-- The frame of a file, a member at a time.
use Rattle.std.proofs.Common.{◌≡◌, ℕ, suc, ◌+◌, ◌&&◌, List, [], ◌∷◌, ◌++◌, codes, Option, Some, None, Bool, true, false, bytes_eq, if◌then◌else◌, ◌==◌, ◌-◌, ◌<◌, option_map, refl, subst, sym, ap, ap₂, ◌∙◌, append_assoc, append-nil, arith}
use Rattle.std.specs.Prelude.{⊤}
use Rattle.std.specs.Option.{option_or}
use Rattle.json.specs.Token.{Token}
use Rattle.json.specs.Json.{parse_map}
use Rattle.serde_json.specs.Data.{Num, number, Data, Items, no_items, item, array, Members, no_members, object}
use Rattle.serde_json.specs.Events.{items_len}
use Rattle.serde_json.specs.Find.{as_array}
use Rattle.serde_json.specs.Read.{number_of}
use Rattle.gc_json.specs.Entries.{Entries, count_of, last_at}
use Rattle.gc_json.specs.Frames.{len_of, len_at, all_known, place_of, frame_of, place_after, frame_after, is_version_1, has_version_1}
use Rattle.gc_json.specs.GraphFiles.{file_keys}
use Rattle.gc_json.specs.JsonValues.{is_key_among}
use Rattle.gc_json.specs.Tokens.{value_data, items_data, members_data, rest_of, opens_array}
use Rattle.gc_json.specs.declared.frame.Frame.{Frame}
use Rattle.gc_json.specs.declared.frame.ListPlace.{ListPlace}
use Rattle.gc_json.proofs.ByToken.{data_by_token}
use Rattle.gc_json.proofs.TokenTurns as turns
use Rattle.gc_json.proofs.TokenTurns.{value_is}

abbrev pub one : List ℕ → Data → Entries
one k d = (k, d) ∷ []

after_last : (b : Bool) (d : Data) (o p : Option Data) → option_or (if b then Some d else o) p ≡ (if b then Some d else option_or o p)
after_last true d o p = refl
after_last false d o p = refl

pub last_at-append : (key : List ℕ) (es : Entries) (k : List ℕ) (d : Data) → last_at key (es ++ one k d) ≡ (if bytes_eq k key then Some d else last_at key es)
last_at-append key [] k d = refl
last_at-append key (e ∷ es) k d =
    let here : Option Data = if bytes_eq e.0 key then Some e.1 else None in
    ap (λ o. option_or o here) (last_at-append key es k d) ∙ after_last (bytes_eq k key) d (last_at key es) here

counted : (b c : Bool) (n m : ℕ) → n ≡ (if c then m + 1 else m) → (if b then suc n else n) ≡ (if c then (if b then suc m else m) + 1 else (if b then suc m else m))
counted true true n m h = grind arith
counted true false n m h = grind arith
counted false true n m h = h
counted false false n m h = h

count_of-append : (key : List ℕ) (es : Entries) (k : List ℕ) (d : Data) → count_of key (es ++ one k d) ≡ (if bytes_eq k key then count_of key es + 1 else count_of key es)
count_of-append key [] k d = refl
count_of-append key (e ∷ es) k d = counted (bytes_eq e.0 key) (bytes_eq k key) (count_of key (es ++ one k d)) (count_of key es) (count_of-append key es k d)

and_assoc : (a b c : Bool) → (a && (b && c)) ≡ ((a && b) && c)
and_assoc true b c = refl
and_assoc false b c = refl

pub and_true : (a : Bool) → (a && true) ≡ a
and_true true = refl
and_true false = refl

all_known-append : (es : Entries) (k : List ℕ) (d : Data) → all_known (es ++ one k d) ≡ (all_known es && is_key_among file_keys k)
all_known-append [] k d = and_true (is_key_among file_keys k)
all_known-append (e ∷ es) k d = ap (λ b. is_key_among file_keys e.0 && b) (all_known-append es k d) ∙ and_assoc (is_key_among file_keys e.0) (all_known es) (is_key_among file_keys k)

place_by : (key : List ℕ) (es : Entries) (d : Data) (b : Bool) (n : ℕ) (o : Option Data) → n ≡ (if b then count_of key es + 1 else count_of key es) → o ≡ (if b then Some d else last_at key es)
    → ◌≡◌ {A = ListPlace} record { times = n; len = len_at o } (if b then record { times = count_of key es + 1; len = len_at (Some d) } else place_of key es)
place_by key es d true n o is at = ap₂ (λ m p. record { times = m; len = len_at p }) is at
place_by key es d false n o is at = ap₂ (λ m p. record { times = m; len = len_at p }) is at

place_of-append : (key : List ℕ) (es : Entries) (k : List ℕ) (d : Data) → place_of key (es ++ one k d) ≡ place_after key (place_of key es) k d
place_of-append key es k d = place_by key es d (bytes_eq k key) _ _ (count_of-append key es k d) (last_at-append key es k d)

version_by : (o p : Option Data) (d : Data) (b : Bool) → o ≡ (if b then Some d else p) → has_version_1 o ≡ (if b then is_version_1 d else has_version_1 p)
version_by o p d true is = ap (λ x. has_version_1 x) is
version_by o p d false is = ap (λ x. has_version_1 x) is

made_of : (a b c : ListPlace) (v w : Bool) → Frame
made_of a b c v w = record { nodes = a; edges = b; paths = c; is_version_1 = v; is_known = w }

same_frame : (a b c p q r : ListPlace) (v w x y : Bool) → a ≡ p → b ≡ q → c ≡ r → v ≡ x → w ≡ y → made_of a b c v w ≡ made_of p q r x y
same_frame a b c p q r v w x y e f g h i = cc

pub frame_of-append : (es : Entries) (k : List ℕ) (d : Data) → frame_of (es ++ one k d) ≡ frame_after (frame_of es) k d
unfolding made_of
frame_of-append es k d =
    same_frame _ _ _ _ _ _ _ _ _ _ (place_of-append (codes "nodes") es k d) (place_of-append (codes "edges") es k d) (place_of-append (codes "paths") es k d)
    (version_by _ (last_at (codes "gcore") es) d (bytes_eq k (codes "gcore")) (last_at-append (codes "gcore") es k d)) (all_known-append es k d)

-- ---- a turn of the loop

pub added : (before : Entries) (k : List ℕ) (d : Data) (o : Option (Entries × List Token)) → parse_map (λ es. before ++ es) (parse_map (λ es. (k, d) ∷ es) o) ≡ parse_map (λ es. (before ++ one k d) ++ es) o
added before k d None = refl
added before k d (Some p) = ap (λ es. Some (es, p.1)) (sym (append_assoc before (one k d) p.0))

pub next_member : (all o p : Option (Entries × List Token)) (before : Entries) (k : List ℕ) (d : Data) (f g : Frame) → all ≡ parse_map (λ es. before ++ es) o → o ≡ parse_map (λ es. (k, d) ∷ es) p → f ≡ frame_of before → frame_after f k d ≡ g
    → (now : Entries) × (all ≡ parse_map (λ es. now ++ es) p) × (g ≡ frame_of now)
next_member all o p before k d f g so_far turn is next = (before ++ one k d, so_far ∙ ap (parse_map (λ es. before ++ es)) turn ∙ added before k d p, sym next ∙ ap (λ x. frame_after x k d) is ∙ sym (frame_of-append before k d))

pub last_member : (all o : Option (Entries × List Token)) (before : Entries) (rest : List Token) (f : Frame) → all ≡ parse_map (λ es. before ++ es) o → o ≡ Some ([], rest) → f ≡ frame_of before → parse_map frame_of all ≡ Some (f, rest)
last_member all o before rest f so_far end is =
    ap (parse_map frame_of) (so_far ∙ ap (parse_map (λ es. before ++ es)) end) ∙ ap (λ es. Some (frame_of es, rest)) (append-nil before) ∙ ap (λ x. Some (x, rest)) (sym is)

-- ---- a turn of the count

pub next_item : (n : ℕ) (d : Data) (o : Option (Items × List Token)) → parse_map (λ ds. n + items_len ds) (parse_map (item d) o) ≡ parse_map (λ ds. (n + 1) + items_len ds) o
next_item n d None = refl
next_item n d (Some p) = ap (λ m. Some (m, p.1)) (omega arith)

pub all_items : (n : ℕ) (rest : List Token) → parse_map (λ ds. n + items_len ds) (Some (no_items, rest)) ≡ Some (n, rest)
all_items n rest = ap (λ m. Some (m, rest)) (omega arith)

-- ---- the length of a value

array_len : (o : Option (Items × List Token)) → parse_map len_of (parse_map array o) ≡ parse_map (λ n. Some n) (parse_map items_len o)
array_len None = refl
array_len (Some p) = refl

pub len_of_array : (depth : ℕ) (all ts : List Token) → 0 < depth → all ≡ Token.begin_array ∷ ts → parse_map len_of (value_data depth all) ≡ parse_map (λ n. Some n) (parse_map items_len (items_data (depth - 1) ts))
len_of_array depth all ts some is = ap (parse_map len_of) (ap (value_data depth) is ∙ turns.opens_array depth ts some) ∙ array_len (items_data (depth - 1) ts)

-- what was read is no array
abbrev pub NoArray : Option (Data × List Token) → Type 0
NoArray None = ⊤
NoArray (Some p) = as_array p.0 ≡ None

an_object : (b : Bool) (o : Option (Members × List Token)) → NoArray (if b then None else parse_map object o)
an_object true o = tt
an_object false None = tt
an_object false (Some p) = refl

a_number : (ts : List Token) (o : Option Num) → NoArray (option_map {U = Data × List Token} (λ n. (number n, ts)) o)
a_number ts None = tt
a_number ts (Some n) = refl

other : {P : Type 0} → true ≡ false → P
other e = absurd (cc)

pub no_array : (depth : ℕ) (t : Token) (ts : List Token) → opens_array t ≡ false → NoArray (data_by_token depth (t ∷ ts))
no_array depth Token.begin_object ts e = an_object (depth == 0) (members_data (depth - 1) no_members ts)
no_array depth Token.end_object ts e = tt
no_array depth Token.begin_array ts e = other e
no_array depth Token.end_array ts e = tt
no_array depth (Token.key s) ts e = tt
no_array depth (Token.string s) ts e = refl
no_array depth (Token.number s) ts e = a_number ts (number_of s)
no_array depth (Token.boolean b) ts e = refl
no_array depth Token.null ts e = refl
no_array depth Token.bad ts e = tt

no_len : (o : Option (Data × List Token)) (r : List Token) → NoArray o → rest_of o ≡ Some r → parse_map len_of o ≡ Some (None, r)
no_len None r h e = absurd (cc)
no_len (Some (d, s)) r h e = let same : s ≡ r = grind arith in ap₂ (λ x y. Some (option_map items_len x, y)) h same

pub len_of_other : (depth : ℕ) (all : List Token) (t : Token) (ts r : List Token) → all ≡ t ∷ ts → opens_array t ≡ false → rest_of (value_data depth (t ∷ ts)) ≡ Some r → parse_map len_of (value_data depth all) ≡ Some (None, r)
len_of_other depth all t ts r is e h =
    ap (λ x. parse_map len_of (value_data depth x)) is ∙ no_len (value_data depth (t ∷ ts)) r (subst NoArray (sym (value_is depth (t ∷ ts))) (no_array depth t ts e)) h

pub an_array_opens : (t : Token) → opens_array t ≡ true → t ≡ Token.begin_array
an_array_opens Token.begin_object e = absurd (cc)
an_array_opens Token.end_object e = absurd (cc)
an_array_opens Token.begin_array e = refl
an_array_opens Token.end_array e = absurd (cc)
an_array_opens (Token.key s) e = absurd (cc)
an_array_opens (Token.string s) e = absurd (cc)
an_array_opens (Token.number s) e = absurd (cc)
an_array_opens (Token.boolean b) e = absurd (cc)
an_array_opens Token.null e = absurd (cc)
an_array_opens Token.bad e = absurd (cc)
