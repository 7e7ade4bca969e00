-- The variables at the ends of an edge.
use Rattle.std.specs.Prelude.{◌≡◌, ◌==◌, List, ⊤}
use Rattle.std.specs.List.{find}
use Rattle.std.specs.Option.{option_copied}
use Rattle.gc_build_recipe.specs.declared.variable.Grouping.{Grouping}
use Rattle.gc_build_recipe.specs.declared.variable.Grouping.TheVariants as by
use Rattle.gc_build_numbers.specs.declared.keys.Ends.{Ends}
use Rattle.gc_build_numbers.specs.declared.numbered.Numbered.{Numbered}

-- they are those that were numbered before, so far as they were; only edges have ends
abbrev pub AreEnds : List Numbered → Grouping → Ends → Type 0
AreEnds before (by.Link source target terms) ends =
    (option_copied ends.source ≡ find (λ v. v.var.0 == source.0) before) × (option_copied ends.target ≡ find (λ v. v.var.0 == target.0) before)
AreEnds before grouping ends = ⊤
