use Rattle.std.proofs.Common.{◌∙◌, sym}
use Rattle.gc_ppg.proofs.Finds.{equal_is, stands_at}
use Rattle.gc_ppg.proofs.search.likely.Goals as goal

pub returns-then-eq : goal.returns-then-eq
returns-then-eq g c =
    stands_at g.T.Element.id_of c.args.elements.now c.args.id c.requires c.number_of.result c.in_ok-element.element.now c.in_ok-element.ensures.lookup.0 c.in_ok-element.ensures.lookup.1
    (sym c.id.ensures ∙ equal_is c.id.result c.args.id c.if-eq.ensures)
