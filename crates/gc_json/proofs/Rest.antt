-- The tokens that are still to be written, for the invariants of the printer's loops.
use Rattle.std.proofs.Common.{List, map}
use Rattle.gc_base.specs.declared.properties.Property.{Property}
use Rattle.gc_base.specs.declared.walk.Step.{Step}
use Rattle.json.specs.Token.{Token}
use Rattle.json.specs.Tree.{items_tokens, members_tokens}
use Rattle.serde_json.specs.Data.{Data}
use Rattle.serde_json.specs.View.{items_of}
use Rattle.serde_json.specs.Written.{items_outline, members_outline}
use Rattle.gc_json.specs.CanonicalText.{property_members, step_items}

-- the tokens of an array's items from here on, and the closing bracket
abbrev pub rest_of_array : {X : Type 0} → (X → Data) → List X → List Token
rest_of_array f xs = items_tokens (items_outline (items_of (map f xs)))

-- the tokens of an object's properties from here on, and the closing brace
abbrev pub rest_of_properties : List Property → List Token
rest_of_properties ps = members_tokens (members_outline (property_members ps))

-- the tokens of a walk's steps from here on, and the closing bracket
abbrev pub rest_of_walk : List Step → List Token
rest_of_walk steps = items_tokens (items_outline (step_items steps))
