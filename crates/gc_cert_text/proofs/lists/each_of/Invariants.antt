use Rattle.std.proofs.Common.{◌≡◌, drop}
use Rattle.serde_json.specs.View.{items_view}
use Rattle.gc_cert_text.specs.Options.{each_of}
use Rattle.gc_cert_text.proofs.Items.{in_front}
use Rattle.gc_cert_text.proofs.lists.each_of.Given as goal

-- what was told so far, with what the rest tells, is what all tell
abbrev pub invariant-loop-item : goal.invariant-loop-item
invariant-loop-item g l =
    in_front l.list.items (each_of g.T.Told.told (items_view (drop l.item-index l.items))) ≡ each_of g.T.Told.told (items_view l.items)
