-- Walks from one node, each seen by its cost and the list of its edges, and their order.
use Rattle.std.specs.Prelude.{◌≡◌, ◌⊎◌, ℕ, ◌+◌, ◌<◌, ◌≤◌, List, [], ◌∷◌, ◌++◌, length}

pub record Entry : Type 0 where
  pub cost : ℕ
  pub edges : List ℕ

abbrev pub entry : ℕ → List ℕ → Entry
entry c w = record { cost = c; edges = w }

-- of two lists of one length, the first is lower at the first place where they differ
abbrev pub LexLess : List ℕ → List ℕ → Type 0
LexLess [] ys = ⊥
LexLess (x ∷ xs) [] = ⊥
LexLess (x ∷ xs) (y ∷ ys) = (x < y) ⊎ ((x ≡ y) × LexLess xs ys)

-- an entry comes before another: it is cheaper, or has fewer edges at the same cost, or lower ones
pub data Before (a b : Entry) : Type 0 where
  Cheaper : a.cost < b.cost → Before a b
  Shorter : a.cost ≡ b.cost → length a.edges < length b.edges → Before a b
  Lower : a.cost ≡ b.cost → length a.edges ≡ length b.edges → LexLess a.edges b.edges → Before a b

-- or it is the same
pub data AtMost (a b : Entry) : Type 0 where
  Strictly : Before a b → AtMost a b
  Same : a ≡ b → AtMost a b

-- a move's cost and edges, put at the end
abbrev pub extend : Entry → ℕ → List ℕ → Entry
extend e c w = entry (e.cost + c) (e.edges ++ w)

-- a move costs at least 1, or it costs nothing and passes no edge
abbrev pub IsMoveCost : ℕ → List ℕ → Type 0
IsMoveCost c w = (1 ≤ c) ⊎ ((c ≡ 0) × (w ≡ []))
