-- What an assignment gives to an element.
use Rattle.std.specs.Prelude.{ℕ, List, [], map}
use Rattle.std.specs.Option.{unwrap_or}
use Rattle.std.specs.Prelude.{slice_get}
use Rattle.gc_expr.specs.declared.expr.Fold.TheVariants.{Collect}
use Rattle.gc_group.specs.Folds.{folded}
use Rattle.gc_build_numbers.specs.Settings.{Setting, on_row}
use Rattle.gc_build_recipe.specs.Recipes.{Assignment}
use Rattle.gc_rows.specs.declared.row.Binding.{Binding}
use Rattle.gc_values.specs.Contexts.{Context}
use Rattle.gc_values.specs.declared.val.Val.{Val}
use Rattle.gc_build_descriptions.specs.Aggregates.{values_over}

-- Take rows with a = {1}, a = {1, 2} and a = {}: `n := x.a` gives {1, 2}, and `n := COUNT(*)` gives {3}.

-- the row at a place in the table, and the rows at places
abbrev pub row_at : Setting → ℕ → List Binding
row_at s place = unwrap_or (slice_get s.rows place) []

abbrev pub contexts : Setting → List ℕ → List Context
contexts s places = map (λ place. on_row s (row_at s place)) places

-- the values of an assignment on the rows of a group
abbrev pub assigned_values : Setting → Assignment → List ℕ → List Val
assigned_values s a places = values_over (contexts s places) a.value

-- what a group is given: the union of the values on its rows, or no value where it is undefined on a row
abbrev pub assigned : Setting → Assignment → List ℕ → Val
assigned s a places = folded Collect (assigned_values s a places)
