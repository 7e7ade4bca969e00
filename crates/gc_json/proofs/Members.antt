-- A key that no element has changes no value.
use Rattle.std.proofs.Common.{◌≡◌, ℕ, List, false, refl}
use Rattle.gc_ppg.specs.declared.shape.Kind.{Kind}
use Rattle.gc_ppg.specs.declared.shape.Kind.TheVariants as kind
use Rattle.serde_json.specs.Data.{Data}
use Rattle.gc_json.specs.Members.{IsNoMember}
use Rattle.gc_json.specs.ElementValues.{ElementValues, keys_of, values_after}
use Rattle.gc_json.specs.JsonValues.{is_key_among}
use Rattle.gc_json.specs.declared.member.Member.TheVariants as member

not_among : (kind : Kind) (k : List ℕ) → IsNoMember k → is_key_among (keys_of kind) k ≡ false
not_among kind.Node k isnt = rw (isnt member.Id, isnt member.Labels, isnt member.Properties) refl
not_among kind.Edge k isnt = rw (isnt member.From, isnt member.Id, isnt member.Labels, isnt member.Properties, isnt member.To) refl
not_among kind.Path k isnt = rw (isnt member.Id, isnt member.Labels, isnt member.Properties, isnt member.Walk) refl

pub passed_over : (kind : Kind) (e : ElementValues) (k : List ℕ) (d : Data) → IsNoMember k
    → values_after kind e k d ≡ record { id = e.id; from = e.from; to = e.to; labels = e.labels; properties = e.properties; walk = e.walk; is_known = false }
passed_over kind e k d isnt =
    rw (isnt member.Id, isnt member.From, isnt member.To, isnt member.Labels, isnt member.Properties, isnt member.Walk, not_among kind k isnt) refl
