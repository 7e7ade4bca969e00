use Rattle.std.proofs.Common.{◌+◌, ap, ap₂, sym, ◌∙◌, arith, drop, length, map}
use Rattle.serde_json.specs.Data.{items_depth}
use Rattle.serde_json.specs.View.{view, items_view}
use Rattle.gc_cert_text.specs.Certificates.{searches_from, told}
use Rattle.gc_cert_text.proofs.Searches.{behind, longer, next_item, read_more}
use Rattle.gc_cert_text.proofs.reading.searches_from.Goals as goal

pub loop-item-preserved : goal.loop-item-preserved
loop-item-preserved g c =
    let l = c.loop-item in
    let v = c.item-item.result in
    let rest = items_view (drop (l.item-index + 1) c.args.items.now) in
    let next = next_item c.args.items.now l.item-index v c.loop-item-test.true c.item-item.is in
    let count = c.len.ensures.count in
    let so_far = ap₂ (λ n xs. behind (map told l.searches) (searches_from n xs)) count (sym next) ∙ l.invariant.0 in (
      read_more l.searches c.push.new.self c.len.result (length c.push.new.self) c.in_ok-search.search (view v) rest c.in_ok-push.ensures.ok
          (longer l.searches c.push.new.self c.in_ok-search.search c.len.result count c.in_ok-push.ensures.ok) c.in_ok-search.ensures
          ∙ so_far,
      omega (arith, l.invariant.1, ap items_depth next),
    )
