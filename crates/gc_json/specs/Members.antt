-- The keys of the members that elements of a graph file have.
use Rattle.std.specs.Prelude.{◌≡◌, ℕ, List, codes, false}
use Rattle.std.specs.Str.{bytes_eq}
use Rattle.gc_json.specs.declared.member.Member.{Member}
use Rattle.gc_json.specs.declared.member.Member.TheVariants as member

abbrev pub member_key : Member → List ℕ
member_key member.Id = codes "id"
member_key member.From = codes "from"
member_key member.To = codes "to"
member_key member.Labels = codes "labels"
member_key member.Properties = codes "properties"
member_key member.Walk = codes "walk"

-- a key that no element has
abbrev pub IsNoMember : List ℕ → Type 0
IsNoMember key = (m : Member) → bytes_eq key (member_key m) ≡ false
