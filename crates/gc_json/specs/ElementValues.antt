-- The values of an element of a graph file, at the keys that elements have.
use Rattle.std.specs.Prelude.{ℕ, ◌&&◌, List, [], ◌∷◌, codes, Bool, false, if◌then◌else◌, Option, Some, None}
use Rattle.std.specs.Str.{bytes_eq}
use Rattle.gc_ppg.specs.declared.shape.Kind.{Kind}
use Rattle.gc_ppg.specs.declared.shape.Kind.TheVariants as kind
use Rattle.serde_json.specs.Data.{Data, Members}
use Rattle.serde_json.specs.Find.{get_member, as_object}
use Rattle.gc_json.specs.JsonValues.{has_only, is_key_among}

pub record ElementValues : Type 0 where
  pub id : Option Data
  pub from : Option Data
  pub to : Option Data
  pub labels : Option Data
  pub properties : Option Data
  pub walk : Option Data
  -- whether it is an object with no key but those of its kind
  pub is_known : Bool

-- the keys that an element of a kind may have
abbrev pub keys_of : Kind → List (List ℕ)
keys_of kind.Node = codes "id" ∷ codes "labels" ∷ codes "properties" ∷ []
keys_of kind.Edge = codes "from" ∷ codes "id" ∷ codes "labels" ∷ codes "properties" ∷ codes "to" ∷ []
keys_of kind.Path = codes "id" ∷ codes "labels" ∷ codes "properties" ∷ codes "walk" ∷ []

-- an element without values
abbrev pub no_values : Bool → ElementValues
no_values known = record { id = None; from = None; to = None; labels = None; properties = None; walk = None; is_known = known }

-- the values of an object
abbrev pub values_at : Kind → Members → ElementValues
values_at kind ms =
    record {
      id = get_member (codes "id") ms;
      from = get_member (codes "from") ms;
      to = get_member (codes "to") ms;
      labels = get_member (codes "labels") ms;
      properties = get_member (codes "properties") ms;
      walk = get_member (codes "walk") ms;
      is_known = has_only (keys_of kind) ms;
    }

abbrev pub values_if : Kind → Option Members → ElementValues
values_if kind None = no_values false
values_if kind (Some ms) = values_at kind ms

-- the values of an element; another value than an object has none
abbrev pub element_of : Kind → Data → ElementValues
element_of kind d = values_if kind (as_object d)

-- the values after one more member
abbrev pub value_after : List ℕ → Option Data → List ℕ → Data → Option Data
value_after key old k d = if bytes_eq k key then Some d else old

abbrev pub values_after : Kind → ElementValues → List ℕ → Data → ElementValues
values_after kind e k d =
    record {
      id = value_after (codes "id") e.id k d;
      from = value_after (codes "from") e.from k d;
      to = value_after (codes "to") e.to k d;
      labels = value_after (codes "labels") e.labels k d;
      properties = value_after (codes "properties") e.properties k d;
      walk = value_after (codes "walk") e.walk k d;
      is_known = is_key_among (keys_of kind) k && e.is_known;
    }
