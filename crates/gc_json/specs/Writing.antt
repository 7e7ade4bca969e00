-- What a writer of JSON tokens gains.
use Rattle.std.specs.Prelude.{◌≡◌, ℕ, ◌∷◌, ◌++◌, List, codes, OnOk, Result}
use Rattle.gc_base.specs.declared.properties.Property.{Property}
use Rattle.gc_json.specs.CanonicalText.{id_data, labels_data, properties_data}
use Rattle.json.specs.Token.{Token, key}
use Rattle.json.specs.Tree.{json_tokens}
use Rattle.json.specs.Written.{Written}
use Rattle.serde_json.specs.Data.{Data}
use Rattle.serde_json.specs.Written.{outline}

-- these tokens were added, and what stood before them stays
abbrev pub Adds : {E : Type 0} → Result (Unit {0}) E → Written → Written → List Token → Type 0
Adds r old new ts = OnOk r ((new.before ≡ old.before) × (new.tokens ≡ old.tokens ++ ts))

-- the tokens of a value
abbrev pub tokens_of : Data → List Token
tokens_of d = json_tokens (outline d)

-- the tokens of what each element has: its identity, labels and properties
abbrev pub common_tokens : ℕ → List (List ℕ) → List Property → List Token
common_tokens id labels properties =
    key (codes "id") ∷ tokens_of (id_data id)
    ++ (key (codes "labels") ∷ tokens_of (labels_data labels) ++ (key (codes "properties") ∷ tokens_of (properties_data properties)))
