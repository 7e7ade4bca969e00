-- The numbers of the blocks that stand in no WHERE, by token.
use Rattle.std.specs.Prelude.{ℕ, ◌+◌, List, [], ◌∷◌, Option, Some, None, if◌then◌else◌}
use Rattle.gc_sorts.specs.Blocks.{Placed, is_outermost, token_of}
use Rattle.gc_sorts.specs.Collected.{with_number}

-- the token of a block that stands in no WHERE
abbrev pub outermost_token : Placed → Option ℕ
outermost_token placed = if is_outermost placed.around then Some (token_of placed.block) else None

abbrev pub outermost_if : Option Placed → Option ℕ
outermost_if None = None
outermost_if (Some placed) = outermost_token placed

-- pairs with the number of a token, where there is one and it has none yet
abbrev pub with_token : List (ℕ × ℕ) → (number : ℕ) → Option ℕ → List (ℕ × ℕ)
with_token pairs number None = pairs
with_token pairs number (Some token) = with_number pairs token (Some number)

-- those of blocks that are numbered on from this number
abbrev pub with_tokens : List (ℕ × ℕ) → (number : ℕ) → List Placed → List (ℕ × ℕ)
with_tokens pairs number [] = pairs
with_tokens pairs number (placed ∷ later) = with_tokens (with_token pairs number (outermost_token placed)) (number + 1) later
