-- What the items of a list give together.
use Rattle.std.specs.Prelude.{ℕ, List, [], ◌∷◌, Result, Ok}
use Rattle.std.specs.declared.cmp.Ordering.{Ordering}
use Rattle.gc_base.specs.Ascending.{with_item}
use Rattle.serde_json.specs.Data.{Data, Items, no_items, item, Members, no_members, member}
use Rattle.gc_json.specs.Reading.{◌>>=◌}

-- what all of a list give, or the first refusal
abbrev pub all_or_first : {A F : Type 0} → List (Result A F) → Result (List A) F
all_or_first [] = Ok []
all_or_first (r ∷ rs) = r >>= λ x. all_or_first rs >>= λ xs. Ok (x ∷ xs)

-- the items of an array as a list
abbrev pub data_of : Items → List Data
data_of no_items = []
data_of (item d ds) = d ∷ data_of ds

-- the keys of an object with their values
abbrev pub pairs_of : Members → List (List ℕ × Data)
pairs_of no_members = []
pairs_of (member key d ms) = (key, d) ∷ pairs_of ms

-- the set of a list: ascending, each once
abbrev pub set_of : {X : Type 0} → (X → X → Ordering) → List X → List X
set_of cmp [] = []
set_of cmp (x ∷ xs) = with_item cmp (set_of cmp xs) x
