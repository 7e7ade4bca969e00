-- What a read costs.
use Rattle.std.specs.Prelude.{ℕ, Option, Some, None}

-- one step for an element that is handed out, and none for `None`
abbrev pub handed_out : {X : Type 0} → Option X → ℕ
handed_out (Some x) = 1
handed_out None = 0
