-- Properties: names with their sets of values, ascending by name.
use Rattle.std.specs.Prelude.{◌≡◌, ℕ, Bool, true, false, List, [], ◌∷◌, Option, if◌then◌else◌}
use Rattle.std.specs.declared.cmp.Ordering.{Ordering}
use Rattle.std.specs.Ordering.{is_eq, on}
use Rattle.std.specs.List.{AllByRecursion, find}
use Rattle.std.specs.Option.{option_map}
use Rattle.gc_base.specs.Words.{is_word}
use Rattle.gc_base.specs.Ascending.{Ascends, with_item, without_item}
use Rattle.gc_base.specs.Literals.{literal_order, text_order, IsLiteral}
use Rattle.gc_base.specs.declared.literal.Literal.{Literal}
use Rattle.gc_base.specs.declared.properties.Property.{Property}

-- whether a list has no items
abbrev pub is_nil : {X : Type 0} → List X → Bool
is_nil [] = true
is_nil (x ∷ xs) = false

-- properties are ordered by their names
abbrev pub property_order : Property → Property → Ordering
property_order = on (λ p. p.name) text_order

-- labels: words, each once, ascending
pub record IsLabelSet (labels : List (List ℕ)) : Type 0 where
  pub ascends : Ascends text_order labels
  pub words : AllByRecursion (λ label. is_word label ≡ true) labels

-- a set of values: literals, each once, ascending
pub record IsValueSet (values : List Literal) : Type 0 where
  pub ascends : Ascends literal_order values
  pub literals : AllByRecursion IsLiteral values

-- a property has a word for a name, and a set of values that is not empty
pub record IsProperty (p : Property) : Type 0 where
  pub name : is_word p.name ≡ true
  pub values : IsValueSet p.values
  pub some : is_nil p.values ≡ false

-- properties ascend by name, so that no name comes twice
pub record AreProperties (ps : List Property) : Type 0 where
  pub ascend : Ascends property_order ps
  pub each : AllByRecursion IsProperty ps

-- the values of a name, if it is there
abbrev pub values_of : List Property → List ℕ → Option (List Literal)
values_of ps name = option_map (λ p. p.values) (find (λ p. is_eq (text_order p.name name)) ps)

-- the properties with this one in place of any of its name, or with none of its name where it has no values
abbrev pub put : List Property → Property → List Property
put ps p = if is_nil p.values then without_item property_order ps p else with_item property_order ps p
