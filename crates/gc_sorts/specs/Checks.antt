-- What a check of a file gives.
use Rattle.std.specs.Prelude.{◌≡◌, ℕ, List, Option, Some, None, Result, Ok, Err, slice_get, ⊤}
use Rattle.std.specs.Option.{unwrap_or}
use Rattle.gc_base.specs.declared.place.Place.{Place}
use Rattle.gc_ast.specs.declared.file.File.{File}
use Rattle.gc_sorts.specs.declared.breach.Breach.{Breach}
use Rattle.gc_sorts.specs.declared.checked.Checked.{Checked}
use Rattle.gc_sorts.specs.declared.refusal.SortRefusal.{SortRefusal}
use Rattle.gc_sorts.specs.declared.refusal.SortRefusal.TheVariants.{Broken, Memory}

-- the place where the token of a number begins; that of the end of the text behind the last token
abbrev pub token_place : File → ℕ → Place
token_place file token = unwrap_or (slice_get file.places token) file.end

-- where there is no breach the file is given with the names of the graphs; where there is one its rule
-- and its place are told; want of memory is free
abbrev pub IsChecked : File → List (List ℕ) → Option Breach → Result Checked SortRefusal → Type 0
IsChecked file graphs None (Ok checked) = (checked.file ≡ file) × (checked.graphs ≡ graphs)
IsChecked file graphs None (Err (Broken rule at)) = ⊥
IsChecked file graphs None (Err Memory) = ⊤
IsChecked file graphs (Some breach) (Ok checked) = ⊥
IsChecked file graphs (Some breach) (Err (Broken rule at)) = (rule ≡ breach.rule) × (at ≡ token_place file breach.token)
IsChecked file graphs (Some breach) (Err Memory) = ⊤
