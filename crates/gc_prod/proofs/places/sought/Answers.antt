use Rattle.std.proofs.Common.{refl}
use Rattle.gc_prod.proofs.PlaceLaws.{place_is}
use Rattle.gc_prod.proofs.places.sought.Goals as goal

pub returns-then-stands_at : goal.returns-then-stands_at
returns-then-stands_at c =
    place_is c.args.nodes.now c.spread-guess.result c.args.node c.requires (c.if-stands_at.ensures.within refl) (c.if-stands_at.ensures.there refl)
