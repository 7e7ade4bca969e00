-- Elements that are made for each row: as the rows of a table ascend, each is a group by itself, in their order.
use Rattle.std.specs.Prelude.{ℕ, ◌+◌, List, [], ◌∷◌, ◌++◌, length, Option, Some}
use Rattle.gc_base.specs.declared.place.Sym.{Sym}
use Rattle.gc_rows.specs.Rows.{cells}
use Rattle.gc_rows.specs.declared.row.Binding.{Binding}
use Rattle.gc_group.specs.declared.key.Key.{Key}
use Rattle.gc_build_numbers.specs.declared.numbered.Element.{Element}
use Rattle.gc_build_numbers.specs.declared.numbered.Numbering.{Numbering}

-- the key that is a whole row
abbrev pub row_key : (schema : List Sym) → List Binding → Key
row_key schema row = record { parts = cells schema row }

-- an element of a key and of the row at a place alone
abbrev pub element_alone : (number place : ℕ) → Key → Element
element_alone number place key = record { number = number; group = record { key = key; rows = place ∷ [] } }

-- an element for each row, of which the first has this number, and the first row this place
abbrev pub row_elements : (schema : List Sym) → (number place : ℕ) → List (List Binding) → List Element
row_elements schema number place [] = []
row_elements schema number place (row ∷ rows) = element_alone number place (row_key schema row) ∷ row_elements schema (number + 1) (place + 1) rows

-- each row makes the element at its own place
abbrev pub own_places : (place : ℕ) → List (List Binding) → List (Option ℕ)
own_places place [] = []
own_places place (row ∷ rows) = Some place ∷ own_places (place + 1) rows

-- one variable more, with an element for each row
abbrev pub with_rows : Sym → Numbering → (schema : List Sym) → List (List Binding) → Numbering
with_rows x so_far schema rows = record {
  next = so_far.next + length rows;
  variables = so_far.variables ++ record { var = x; elements = row_elements schema so_far.next 0 rows; which = own_places 0 rows } ∷ [];
}
