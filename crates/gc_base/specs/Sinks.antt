-- What a sink took, and what room it has left, where it tells them.
use Rattle.std.specs.Prelude.{◌≡◌, ℕ, ◌-◌, ◌<◌, ◌≤◌, List, length, take}
use Rattle.std.specs.declared.option.Option.{Option}
use Rattle.std.specs.Option.{option_map, ForSome}
use Rattle.std.specs.Io.KnownBytes.{append_known}

-- a told room after n bytes more
abbrev pub room_after : Option ℕ → ℕ → Option ℕ
room_after room n = option_map (λ r. r - n) room

-- a told room holds n bytes
abbrev pub HasRoom : Option ℕ → ℕ → Type 0
HasRoom room n = ForSome room (λ r. n ≤ r)

-- a sink took the first n bytes, and not all
pub record TookFirst (n : ℕ) (taken_before taken_after : Option (List ℕ)) (room_before room_later : Option ℕ) (bytes : List ℕ) : Type 0 where
  pub short : n < length bytes
  pub taken : taken_after ≡ append_known taken_before (take n bytes)
  pub room : room_later ≡ room_after room_before n

-- a sink took a prefix of the bytes, and not all
abbrev pub TookPrefix : Option (List ℕ) → Option (List ℕ) → Option ℕ → Option ℕ → List ℕ → Type 0
TookPrefix taken_before taken_after room_before room_later bytes =
    (n : ℕ) × TookFirst n taken_before taken_after room_before room_later bytes
