use Rattle.std.proofs.Common.{arith, sym, codes}
use Rattle.serde_json.specs.View.{view, items_view}
use Rattle.gc_cert_text.proofs.Depths.{items_shallower}
use Rattle.gc_cert_text.proofs.reading.certificate_of_value.Goals as goal

pub searches_from-requires : goal.searches_from-requires
searches_from-requires g c =
    omega (arith, c.requires, items_shallower (codes "searches") (view c.args.value.now) (items_view c.in-Some.items.now) (sym c.in-Some.ensures))
