-- Places of elements by their labels.
use Rattle.std.specs.Prelude.{◌≡◌, ℕ, ◌+◌, Bool, true, false, List, [], ◌∷◌, if◌then◌else◌, nat_eq, unwrap_or}
use Rattle.std.specs.Option.{option_map}
use Rattle.std.specs.Cmp.Lexicographic.{pointwise}
use Rattle.indexmap.specs.IndexMap.{get}
use Rattle.gc_base.specs.Ascending.{has}
use Rattle.gc_base.specs.Literals.{text_order}
use Rattle.gc_ppg.specs.declared.label_index.LabelIndex.{LabelIndex}

-- a place, where a test holds
abbrev pub place_if : Bool → ℕ → List ℕ
place_if true place = place ∷ []
place_if false place = []

-- the places that an index gives for a label
abbrev pub places_of : LabelIndex → List ℕ → List ℕ
places_of index label = unwrap_or (option_map (λ places. places.items) (get (pointwise nat_eq) index.places label)) []

module _ {X : Type 0} (labels : X → List (List ℕ)) where
  -- the places of the elements that have a label, where the first element has the place n
  abbrev pub places_from : List ℕ → ℕ → List X → List ℕ
  places_from label n [] = []
  places_from label n (x ∷ xs) = if has text_order (labels x) label then n ∷ places_from label (n + 1) xs else places_from label (n + 1) xs

  -- an index gives for each label the places of the elements that have it
  abbrev pub IsLabelIndex : List X → LabelIndex → Type 0
  IsLabelIndex elements index = (label : List ℕ) → places_of index label ≡ places_from label 0 elements
