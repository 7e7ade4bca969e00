-- How an atom may come where variables are bound, if it may.
use Rattle.std.specs.Prelude.{ℕ, List, [], ◌∷◌, Option, Some, None, if◌then◌else◌}
use Rattle.std.specs.List.{list_all, list_any}
use Rattle.gc_base.specs.declared.place.Sym.{Sym}
use Rattle.gc_rows.specs.Rows.{lists}
use Rattle.gc_alg.specs.declared.atom.AtomWhat.{AtomWhat}
use Rattle.gc_alg.specs.declared.atom.AtomWhat.TheVariants.{Node, Edge, Property, Stored, Reach, Found, All}
use Rattle.gc_explain.specs.declared.step.StepWord.{StepWord}
use Rattle.gc_explain.specs.declared.step.StepWord.TheVariants.{Check, Expand, Search, Scan, Filter}

-- an atom of these variables, of which all, some or none are bound; only where none is, the last word counts
abbrev pub by_bound : List Sym → List Sym → Option StepWord → Option StepWord
by_bound bound vars none =
    if list_all (lists bound) vars then Some Check else (if list_any (lists bound) vars then Some Expand else none)

-- an atom that begins at a variable comes only where this is bound; it is a check where another is bound too
abbrev pub from_bound : List Sym → (x other : Sym) → StepWord → Option StepWord
from_bound bound x other word = if lists bound x then Some (if lists bound other then Check else word) else None

-- walks are looked for from a variable that is bound
abbrev pub searched_from : List Sym → Sym → Option StepWord
searched_from bound x = if lists bound x then Some Search else None

abbrev pub word_of : List Sym → AtomWhat → Option StepWord
word_of bound (Node x labels) = by_bound bound (x ∷ []) (Some Scan)
word_of bound (Edge x e y way labels) = by_bound bound (x ∷ e ∷ y ∷ []) None
word_of bound (Property x kind name v) = from_bound bound x v Expand
word_of bound (Stored x p y labels) = by_bound bound (x ∷ p ∷ y ∷ []) (Some Scan)
word_of bound (Reach x y regex views) = from_bound bound x y Search
word_of bound (Found x p y k cost regex views) = searched_from bound x
word_of bound (All x p y regex views) = searched_from bound x

-- words in their order: what is checked comes before all else
abbrev pub class_of : StepWord → ℕ
class_of Check = 0
class_of Expand = 1
class_of Search = 2
class_of Scan = 3
class_of Filter = 4
