use Rattle.std.proofs.Common.{rules}
use Rattle.std.specs.Ordering.{nat_cmp}
use Rattle.std.proofs.lemmas.Fn.{always_returns_same}
use Rattle.gc_ppg.proofs.Finds.{found_at, not_found}
use Rattle.gc_ppg.proofs.search.halved.Goals as goal

pub returns-in-Ok : goal.returns-in-Ok
returns-in-Ok g c =
    let key = g.T.Element.id_of in
    found_at key c.args.elements.now c.args.id c.requires c.in-Ok.place c.index-elements-place.result c.in-Ok.ensures.bound
    (c.in-Ok.ensures.position (λ x. nat_cmp (key x) c.args.id) (always_returns_same _ _ _ (λ a r f called. search rules)))
    c.index-elements-place.is

pub returns-in-Err : goal.returns-in-Err
returns-in-Err g c =
    let key = g.T.Element.id_of in
    not_found key c.args.elements.now c.args.id c.requires c.in-Err.field-0 c.in-Err.ensures.bound
    (c.in-Err.ensures.position (λ x. nat_cmp (key x) c.args.id) (always_returns_same _ _ _ (λ a r f called. search rules)))
