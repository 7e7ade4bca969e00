-- Known bytes and told rooms over several writes.
use Rattle.std.proofs.Common.{◌≡◌, ℕ, ◌+◌, ◌-◌, ◌≤◌, List, [], ◌++◌, ap, refl, arith, append_assoc}
use Rattle.std.proofs.lemmas.List.{append-nil}
use Rattle.std.specs.Prelude.{Option, None, Some}
use Rattle.std.specs.Io.KnownBytes.{append_known}
use Rattle.gc_base.specs.Sinks.{HasRoom, room_after}

-- no bytes more
pub append_known-nil : (known : Option (List ℕ)) → append_known known [] ≡ known
append_known-nil None = refl
append_known-nil (Some xs) = ap (λ ys. Some ys) (append-nil xs)

-- some bytes, and then others
pub append_known-append : (known : Option (List ℕ)) (xs ys : List ℕ)
    → append_known (append_known known xs) ys ≡ append_known known (xs ++ ys)
append_known-append None xs ys = refl
append_known-append (Some known) xs ys = ap (λ zs. Some zs) (append_assoc known xs ys)

-- the room after no bytes
pub room_after-zero : (room : Option ℕ) → room_after room 0 ≡ room
room_after-zero None = refl
room_after-zero (Some r) = let e : r - 0 ≡ r = omega arith in ap (λ n. Some n) e

-- the room after some bytes, and then others
pub room_after-add : (room : Option ℕ) (m n : ℕ) → room_after (room_after room m) n ≡ room_after room (m + n)
room_after-add None m n = refl
room_after-add (Some r) m n = let e : r - m - n ≡ r - (m + n) = omega arith in ap (λ k. Some k) e

-- what is left of a room holds what is left of the bytes
pub HasRoom-after : (room : Option ℕ) (m n : ℕ) → HasRoom room (m + n) → HasRoom (room_after room m) n
HasRoom-after None m n holds = λ x is_x. cc is_x
HasRoom-after (Some r) m n holds = λ x is_x.
    let enough : m + n ≤ r = holds r refl in
    let left : r - m ≡ x = cc is_x in
    omega arith

-- less fits where more does
pub HasRoom-less : (room : Option ℕ) (m n : ℕ) → n ≤ m → HasRoom room m → HasRoom room n
HasRoom-less room m n less holds = λ x is_x. let enough : m ≤ x = holds x is_x in omega arith
