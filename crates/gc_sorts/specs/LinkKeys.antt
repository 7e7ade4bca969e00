-- How a link of the CONSTRUCT is looked up among those of the MATCH: each of these has keys, as it is read and
-- from the other side, which are made of the slots of its names.
use Rattle.std.specs.Prelude.{ℕ, Bool, true, false, not, ◌&&◌, ◌||◌, Option, Some, None, nat_eq}
use Rattle.gc_base.specs.declared.place.Direction.{Direction}
use Rattle.gc_base.specs.declared.place.Direction.TheVariants.{Forward, Backward, Either}
use Rattle.gc_base.specs.declared.place.Sym.{Sym}
use Rattle.gc_sorts.specs.declared.link.LinkAt.{LinkAt}
use Rattle.gc_sorts.specs.declared.link.LinkKey.{LinkKey}
use Rattle.gc_sorts.specs.Links.{turned}
use Rattle.gc_sorts.specs.Orders.{slot}

-- a link from the other side
abbrev pub turned_link : LinkAt → LinkAt
turned_link l = record { name = l.name; left = l.right; right = l.left; way = turned l.way }

-- the key of a link between neighbours, by their slots: it goes along the arrow
abbrev pub key_between : (name left right : ℕ) → Direction → LinkKey
key_between name left right Forward = record { name = name; from = left; to = right; has_arrow = true }
key_between name left right Backward = record { name = name; from = right; to = left; has_arrow = true }
key_between name left right Either = record { name = name; from = left; to = right; has_arrow = false }

-- the key of a link; one without two named neighbours has none
abbrev pub key_if : (count : ℕ) → Sym → Option Sym → Option Sym → Direction → Option LinkKey
key_if count name None right way = None
key_if count name (Some left) None way = None
key_if count name (Some left) (Some right) way = Some (key_between (slot count name) (slot count left) (slot count right) way)

abbrev pub key_of : (count : ℕ) → LinkAt → Option LinkKey
key_of count l = key_if count l.name l.left l.right l.way

-- whether two keys are one
abbrev pub same_truth : Bool → Bool → Bool
same_truth true b = b
same_truth false b = not b

abbrev pub same_key : LinkKey → LinkKey → Bool
same_key a b = nat_eq a.name b.name && (nat_eq a.from b.from && (nat_eq a.to b.to && same_truth a.has_arrow b.has_arrow))

abbrev pub is_key : LinkKey → Option LinkKey → Bool
is_key key None = false
is_key key (Some other) = same_key key other

-- whether a key is one of those of a link
abbrev pub has_key : (count : ℕ) → LinkAt → LinkKey → Bool
has_key count l key = is_key key (key_of count l) || is_key key (key_of count (turned_link l))

-- whether a link, which may have no key, is looked up under one of those of another link
abbrev pub is_found : (count : ℕ) → Option LinkKey → LinkAt → Bool
is_found count None other = false
is_found count (Some key) other = has_key count other key
