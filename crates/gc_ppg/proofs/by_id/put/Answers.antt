use Rattle.std.proofs.Common.{[], ◌==◌, ap, sym, ◌∙◌, is_some}
use Rattle.std.specs.Map.{lookup}
use Rattle.indexmap.specs.IndexMap.{insert_entry}
use Rattle.gc_ppg.specs.Collected.{in_order}
use Rattle.gc_ppg.proofs.Collecting.{grown, stays-among, goes-among, none_of}
use Rattle.gc_ppg.proofs.by_id.put.Goals as goal

pub returns-in_ok-insert-clause-keys : goal.returns-in_ok-insert-clause-keys
returns-in_ok-insert-clause-keys g c = (grown g.T.Element.id_of [] tt c.args.all.now.entries c.insert.new.self.entries c.id-id.result c.args.element c.requires c.id-id.ensures c.in_ok-insert.ensures.entries).keys

pub returns-in_ok-insert-clause-same : goal.returns-in_ok-insert-clause-same
returns-in_ok-insert-clause-same g c = λ rest up.
    let key = g.T.Element.id_of in
    let es = c.args.all.now.entries in
    let none = ap (λ i. lookup (λ k. i == k) es) (sym c.id-id.ensures) ∙ none_of (lookup (λ k. c.id-id.result == k) es) c.if-not-contains_key.ensures in
    ap (in_order key rest) (c.in_ok-insert.ensures.entries ∙ ap (λ i. insert_entry (λ a b. a == b) es i c.args.element) c.id-id.ensures)
    ∙ goes-among key c.args.element rest up es c.requires none

pub returns-else-not-contains_key-clause-same : goal.returns-else-not-contains_key-clause-same
returns-else-not-contains_key-clause-same g c = λ rest up.
    let es = c.args.all.now.entries in
    stays-among g.T.Element.id_of c.args.element rest up es c.requires
    (ap (λ i. is_some (lookup (λ k. i == k) es)) (sym c.id-id.ensures) ∙ sym c.if-not-contains_key.ensures)
