-- What the keys of rows are, row by row.
use Rattle.std.proofs.Common.{◌≡◌, ℕ, suc, ◌+◌, List, [], ◌∷◌, ◌++◌, length, Option, Some, None, refl, ap}
use Rattle.gc_build_recipe.specs.declared.variable.Variable.{Variable}
use Rattle.gc_build_numbers.specs.Keys.{keys_from}
use Rattle.gc_build_numbers.specs.Settings.{Setting}
use Rattle.gc_build_numbers.specs.declared.numbered.Numbered.{Numbered}
use Rattle.gc_group.specs.Gathered.{keyed_from}
use Rattle.gc_group.specs.declared.key.Key.{Key}
use Rattle.gc_rows.specs.declared.row.Binding.{Binding}

-- each row has a key or none
pub keys_long : (s : Setting) (before : List Numbered) (v : Variable) (place : ℕ) (rows : List (List Binding)) → length rows ≡ length (keys_from s before v place rows)
keys_long s before v place [] = refl
keys_long s before v place (row ∷ rows) = ap suc (keys_long s before v (place + 1) rows)

-- the first row, if it has a key, and then the others
pub keyed_next : (n : ℕ) (key : Option Key) (keys : List (Option Key)) → keyed_from n (key ∷ keys) ≡ keyed_from n (key ∷ []) ++ keyed_from (n + 1) keys
keyed_next n None keys = refl
keyed_next n (Some key) keys = refl
