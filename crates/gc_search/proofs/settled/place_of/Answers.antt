use Rattle.std.proofs.Common.{refl}
use Rattle.gc_search.proofs.PlaceLaws.{place_is}
use Rattle.gc_search.proofs.settled.place_of.Goals as goal

pub returns-then-stands_at-clause-exact : goal.returns-then-stands_at-clause-exact
returns-then-stands_at-clause-exact c =
    place_is c.args.nodes.now c.guessed-guess.result c.args.node c.requires (c.if-stands_at.ensures.within refl) (c.if-stands_at.ensures.there refl)
