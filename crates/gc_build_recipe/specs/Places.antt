-- Where what is of a variable stands in a list.
use Rattle.std.specs.Prelude.{◌≡◌, ℕ, ◌+◌, ◌==◌, List, [], ◌∷◌, map, Option, Some, None, if◌then◌else◌, nat_eq, Vec}
use Rattle.std.specs.Borrow.{Bor}
use Rattle.std.specs.List.{filter}
use Rattle.std.specs.Option.{option_map}
use Rattle.indexmap.specs.IndexMap.{IndexMap, get}
use Rattle.gc_base.specs.declared.place.Sym.{Sym}

-- the place of the first item of the variable of a number, if there is one
abbrev pub place_of : {X : Type 0} → (X → Sym) → List X → (number : ℕ) → Option ℕ
place_of var [] number = None
place_of var (x ∷ items) number = if (var x).0 == number then Some 0 else option_map (λ place. place + 1) (place_of var items number)

-- a map has these places
abbrev pub ArePlaces : {X S : Type 0} → (X → Sym) → List X → IndexMap ℕ ℕ S → Type 0
ArePlaces var items places = (number : ℕ) → get nat_eq places number ≡ place_of var items number

-- the items that a map has for a number
abbrev pub listed : {X A : Type 0} → Option (Vec (Bor X) A) → List X
listed None = []
listed (Some list) = map (λ item. item.now) list.items

abbrev pub gathered : {X A S : Type 0} → IndexMap ℕ (Vec (Bor X) A) S → (number : ℕ) → List X
gathered lists number = listed (get nat_eq lists number)

-- for each variable they are the items of it, in their order
abbrev pub AreGathered : {X A S : Type 0} → (X → Sym) → List X → IndexMap ℕ (Vec (Bor X) A) S → Type 0
AreGathered var items lists = (number : ℕ) → gathered lists number ≡ filter (λ x. (var x).0 == number) items
