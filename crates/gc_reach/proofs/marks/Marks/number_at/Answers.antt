use Rattle.std.proofs.Common.{◌≡◌, ◌+◌, ◌*◌, ◌<◌, ap, subst, refl, get_or, length, arith}
use Rattle.gc_prod.proofs.PlaceLaws.{place_is}
use Rattle.gc_reach.specs.Marking.{Marking, pair_at}
use Rattle.gc_reach.specs.Numbering.{number_of}
use Rattle.gc_reach.proofs.marks.Marks.number_at.Goals as goal

pub returns : goal.returns
returns c =
    let nodes = c.self.inside.nodes.now in
    let width = c.self.inside.width in
    let spot = c.args.spot in
    let below : spot.place < length nodes = omega (arith, c.requires.0, ap (λ (m : Marking). length m.nodes) c.self.view_is) in
    subst (λ (m : Marking). spot.place * width + spot.state ≡ number_of m.nodes m.width (pair_at m.nodes spot)) c.self.view_is
    (ap (λ n. n * width + spot.state) (place_is nodes spot.place (get_or nodes spot.place 0) c.self.invariant.marks.ascend below refl))
