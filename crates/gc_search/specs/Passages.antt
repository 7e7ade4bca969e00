-- Going along passages, from place to place, with what is passed so far.
use Rattle.std.specs.Prelude.{◌≡◌, ◌⊎◌, ℕ, ◌≤◌, List, [], ◌∷◌, length}
use Rattle.gc_search.specs.Entries.{Entry, entry, Before, IsMoveCost, extend}

-- a list has an item
abbrev pub Has : {X : Type 0} → List X → X → Type 0
Has [] x = ⊥
Has (y ∷ ys) x = (y ≡ x) ⊎ Has ys x

-- a passage leads to a place at a cost, along some edges
pub record Passage (P : Type 0) : Type 0 where
  pub to : P
  pub cost : ℕ
  pub edges : List ℕ

-- a passage costs at least 1, or it costs nothing and passes no edge
abbrev pub IsOnward : {P : Type 0} → Passage P → Type 0
IsOnward m = IsMoveCost m.cost m.edges

-- it costs 1 for each edge
abbrev pub IsCounted : {P : Type 0} → Passage P → Type 0
IsCounted m = m.cost ≡ length m.edges

-- passages lead from a place with what is passed so far to a place with all that is passed
abbrev pub Goes : {P : Type 0} → (P → List (Passage P)) → P → Entry → List (Passage P) → P → Entry → Type 0
Goes passages p e [] q f = (p ≡ q) × (e ≡ f)
Goes passages p e (m ∷ run) q f = Has (passages p) m × Goes passages m.to (extend e m.cost m.edges) run q f

-- some run from the source to a place passes these edges at this cost
abbrev pub Reach : {P : Type 0} → (P → List (Passage P)) → P → P → Entry → Type 0
Reach passages source q e = (run : List (Passage _)) × Goes passages source (entry 0 []) run q e

-- reached, and at no lower cost
abbrev pub IsBest : (Entry → Type 0) → Entry → Type 0
IsBest R e = R e × ((c : ℕ) → R (entry c e.edges) → e.cost ≤ c)

abbrev pub Rises : List Entry → Type 0
Rises [] = Unit {0}
Rises (x ∷ xs) = ((y : Entry) → Has xs y → Before x y) × Rises xs

-- the list has this walk at no greater cost, or it is full and all of it comes before
pub data Covered (k : ℕ) (xs : List Entry) (e : Entry) : Type 0 where
  Listed : (x : Entry) → Has xs x → x.edges ≡ e.edges → x.cost ≤ e.cost → Covered k xs e
  Past : k ≤ length xs → ((x : Entry) → Has xs x → Before x e) → Covered k xs e

-- the first k of what is reached: in order, each at its least cost, and all else is covered
pub record IsFirstK (k : ℕ) (R : Entry → Type 0) (xs : List Entry) : Type 0 where
  pub ascending : Rises xs
  pub members : (x : Entry) → Has xs x → IsBest R x
  pub at_most : length xs ≤ k
  pub covers : (e : Entry) → R e → Covered k xs e
