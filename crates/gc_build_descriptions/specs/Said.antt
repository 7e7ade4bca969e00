-- What is done to each element of a variable.
use Rattle.std.specs.Prelude.{◌≡◌, ℕ, List, fold}
use Rattle.std.specs.Option.{option_copied}
use Rattle.gc_base.specs.declared.place.Sym.{Sym}
use Rattle.gc_build_recipe.specs.Places.{listed}
use Rattle.gc_build_recipe.specs.Recipes.{Recipe}
use Rattle.gc_values.specs.Descriptions.{Description}
use Rattle.gc_build_descriptions.specs.Described.{of_variable, with_label, without_label, without_property}
use Rattle.gc_build_descriptions.specs.Givens.{Given, with_given}
use Rattle.gc_build_descriptions.specs.declared.said.Changes.{Changes}
use Rattle.gc_build_descriptions.specs.declared.said.Said.{Said}

-- what a recipe says, where its assignments give this
abbrev pub said_of : Recipe → List Given → Said
said_of r givens = record { labels = r.labels; givens = givens; lost_labels = r.lost_labels; lost_properties = r.lost_properties }

-- what is said of the variable, in the order of the text
pub record AreChanges (said : Said) (x : Sym) (c : Changes) : Type 0 where
  pub labels : listed (option_copied c.labels) ≡ of_variable (λ l. l.var) x said.labels
  pub givens : listed (option_copied c.givens) ≡ of_variable (λ g. g.var) x said.givens
  pub lost_labels : listed (option_copied c.lost_labels) ≡ of_variable (λ l. l.var) x said.lost_labels
  pub lost_properties : listed (option_copied c.lost_properties) ≡ of_variable (λ p. p.var) x said.lost_properties

-- the element at a place among those of the variable, after all that is done to what it starts with
abbrev pub changed : (place : ℕ) → Changes → Description → Description
changed place c start =
    fold without_property
    (fold without_label
    (fold (with_given place)
    (fold with_label start (listed (option_copied c.labels)))
    (listed (option_copied c.givens)))
    (listed (option_copied c.lost_labels)))
    (listed (option_copied c.lost_properties))
