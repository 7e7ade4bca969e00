use Rattle.std.proofs.Common.{◌≡◌, ℕ, ◌==◌, ◌++◌, drop}
use Rattle.std.specs.List.{filter}
use Rattle.gc_build_recipe.specs.Places.{gathered}
use Rattle.gc_build_recipe.proofs.grouped.Grouped.of.Given as goal

-- what is gathered so far and what is in the rest make the whole
abbrev pub invariant-loop-item : goal.invariant-loop-item
invariant-loop-item g l =
    (number : ℕ) → gathered l.lists number ++ filter (λ x. (g.T.OfVariable.var_of x).0 == number) (drop l.item-index l.items)
    ≡ filter (λ x. (g.T.OfVariable.var_of x).0 == number) l.items
