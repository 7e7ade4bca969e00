use Rattle.std.proofs.Common.{◌≡◌, ◌≤◌, drop, length, map}
use Rattle.serde_json.specs.Data.{items_depth}
use Rattle.serde_json.specs.View.{items_view}
use Rattle.gc_cert_text.specs.Certificates.{searches_from, told}
use Rattle.gc_cert_text.proofs.Searches.{behind}
use Rattle.gc_cert_text.proofs.reading.searches_from.Given as goal

-- the searches so far with the rest are all searches
abbrev pub invariant-loop-item : goal.invariant-loop-item
invariant-loop-item g l =
    (behind (map told l.searches) (searches_from (length l.searches) (items_view (drop l.item-index l.items))) ≡ searches_from 0 (items_view l.items))
    × (items_depth (items_view (drop l.item-index l.items)) ≤ 127)
