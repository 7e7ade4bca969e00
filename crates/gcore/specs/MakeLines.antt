-- What a made graph is made from: its kind, its size and a start.
use Rattle.std.specs.Prelude.{ℕ, ◌&&◌, Bool, List, length, codes, nat_eq, nat_le, nat_lt, if◌then◌else◌, Some, None, Option}
use Rattle.std.specs.Option.{option_and_then}
use Rattle.std.specs.Str.{all_ascii_digits}
use Rattle.std.specs.Str.Parse.{digits_value}
use Rattle.std.specs.Cmp.Lexicographic.{pointwise}
use Rattle.gc_base.specs.declared.place.MakeKind.{MakeKind}
use Rattle.gc_base.specs.declared.place.MakeKind.TheVariants.{Ring, Random}

abbrev pub kind_of : List ℕ → Option MakeKind
kind_of word = if pointwise nat_eq word (codes "ring") then Some Ring else (if pointwise nat_eq word (codes "random") then Some Random else None)

-- one to ten decimal digits
abbrev pub is_number : List ℕ → Bool
is_number word = (nat_lt 0 (length word) && nat_le (length word) 10) && all_ascii_digits word

-- the number that a word writes
abbrev pub number_of : List ℕ → Option ℕ
number_of word = if is_number word then Some (digits_value 10 word) else None

-- a number from the least to the most
abbrev pub within : ℕ → ℕ → ℕ → Option ℕ
within least most n = if nat_le least n && nat_le n most then Some n else None

abbrev pub number_within : ℕ → ℕ → List ℕ → Option ℕ
number_within least most word = option_and_then (within least most) (number_of word)
