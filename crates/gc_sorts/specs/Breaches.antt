-- Breaches of the sort rules: which rule is broken at which token, and which breach is the first.
use Rattle.std.specs.Prelude.{◌≡◌, ℕ, Bool, false, ◌⊎◌, ◌&&◌, ◌||◌, Option, Some, None, nat_lt, nat_eq, if◌then◌else◌}
use Rattle.gc_sorts.specs.declared.breach.Breach.{Breach}
use Rattle.gc_sorts.specs.declared.breach.SortRule.{SortRule}
use Rattle.gc_sorts.specs.declared.breach.SortRule.TheVariants.{UnknownGraph, UnknownView, UnknownName, SortClash, TwiceBound, SharedOptional, AllNotProjected, LooseEdge, TwiceGrouped, ViewNeedsEdge, KOutOfRange, AggregateHere, ExistsForm, NameTaken, TooLarge}

-- the number of a rule
abbrev pub rule_number : SortRule → ℕ
rule_number UnknownGraph = 1
rule_number UnknownView = 2
rule_number UnknownName = 3
rule_number SortClash = 4
rule_number TwiceBound = 5
rule_number SharedOptional = 6
rule_number AllNotProjected = 7
rule_number LooseEdge = 8
rule_number TwiceGrouped = 9
rule_number ViewNeedsEdge = 10
rule_number KOutOfRange = 11
rule_number AggregateHere = 12
rule_number ExistsForm = 13
rule_number NameTaken = 14
rule_number TooLarge = 15

-- breaches: none, one, or those of two parts
pub data Breaches : Type 0 where
  none : Breaches
  one : Breach → Breaches
  both : Breaches → Breaches → Breaches

-- a breach is one of these
abbrev pub IsAmong : Breach → Breaches → Type 0
IsAmong b none = ⊥
IsAmong b (one c) = b ≡ c
IsAmong b (both left right) = IsAmong b left ⊎ IsAmong b right

-- a rule that is broken at a token
abbrev pub broken : SortRule → ℕ → Breaches
broken rule token = one (record { rule = rule; token = token })

-- a rule that is broken at a token where a test says so
abbrev pub broken_if : Bool → SortRule → ℕ → Breaches
broken_if is_broken rule token = if is_broken then broken rule token else none

-- whether a breach comes before another: at an earlier token, or at the same one by a lower rule
abbrev pub is_before : Breach → Breach → Bool
is_before a b = nat_lt a.token b.token || (nat_eq a.token b.token && nat_lt (rule_number a.rule) (rule_number b.rule))

-- the first of these: one of them that none of them comes before, or nothing where there are none
abbrev pub IsFirst : Option Breach → Breaches → Type 0
IsFirst None bs = (c : Breach) → IsAmong c bs → ⊥
IsFirst (Some b) bs = IsAmong b bs × ((c : Breach) → IsAmong c bs → is_before c b ≡ false)

-- the first of the breaches so far and one more
abbrev pub earlier_of : Option Breach → Breach → Option Breach
earlier_of None b = Some b
earlier_of (Some first) b = Some (if is_before b first then b else first)

-- the first of the breaches so far and these
abbrev pub first_among : Option Breach → Breaches → Option Breach
first_among found none = found
first_among found (one b) = earlier_of found b
first_among found (both left right) = first_among (first_among found left) right
