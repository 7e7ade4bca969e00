-- Readers that may find nothing, one after another.
use Rattle.std.specs.Prelude.{ℕ, List, [], ◌∷◌, Bool, Option, Some, None, option_and_then, Result, Ok, Err, if◌then◌else◌}
use Rattle.serde_json.specs.Data.{Data, Items, no_items, item}
use Rattle.serde_json.specs.Find.{get, as_array}

infixl 10 ◌>>=◌
-- a reader goes on with what the one before it found
abbrev pub ◌>>=◌ : {A B : Type 0} → Option A → (A → Option B) → Option B
o >>= f = option_and_then f o

-- what is not refused
abbrev pub found : {A F : Type 0} → Result A F → Option A
found (Ok x) = Some x
found (Err e) = None

-- what passes a test
abbrev pub if_so : {A : Type 0} → (A → Bool) → A → Option A
if_so test x = if test x then Some x else None

-- what each item of an array tells, where each tells something
abbrev pub each_of : {A : Type 0} → (Data → Option A) → Items → Option (List A)
each_of read no_items = Some []
each_of read (item d ds) = read d >>= λ x. each_of read ds >>= λ xs. Some (x ∷ xs)

-- the items of the array at a key
abbrev pub array_at : List ℕ → Data → Option Items
array_at key d = get key d >>= as_array

-- what they tell
abbrev pub list_at : {A : Type 0} → (Data → Option A) → List ℕ → Data → Option (List A)
list_at read key d = array_at key d >>= each_of read
