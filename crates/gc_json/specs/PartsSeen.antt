-- What readers give of an element, as the definitions see it.
use Rattle.std.specs.Prelude.{Option, Some, None, String}
use Rattle.std.specs.Borrow.{Bor}
use Rattle.std.specs.BTreeMap.{BTreeMap}
use Rattle.std.specs.declared.alloc.Global.{Global}
use Rattle.serde_json.specs.Data.{Members, no_members}
use Rattle.serde_json.specs.View.{items_view, members_view}
use Rattle.serde_json.specs.declared.value.Value.{Value}
use Rattle.gc_json.specs.ElementParts.{ElementParts}
use Rattle.gc_json.specs.declared.parts.Parts.{Parts}

-- the members of an object, if there is one
abbrev pub members_seen : Option (Bor (BTreeMap (String Global) Value)) → Members
members_seen None = no_members
members_seen (Some m) = members_view m.now.entries

-- the parts of an element
abbrev pub parts_seen : Parts → ElementParts
parts_seen p = record { id = p.id; labels = items_view p.labels.now; properties = members_seen p.properties }
