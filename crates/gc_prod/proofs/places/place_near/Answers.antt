use Rattle.std.proofs.Common.{◌<◌, ◌∙◌, ap, refl, sym, subst, length, get_or}
use Rattle.gc_prod.proofs.PlaceLaws.{place_is, place_there}
use Rattle.gc_prod.proofs.places.place_near.Goals as goal

pub returns-then-stands_at : goal.returns-then-stands_at
returns-then-stands_at c =
    record {
      place = place_is c.args.nodes.now _ c.args.node c.requires (c.if-stands_at.ensures.within refl) (c.if-stands_at.ensures.there refl);
      within = λ among. c.if-stands_at.ensures.within refl;
      there = λ among. c.if-stands_at.ensures.there refl;
    }

pub returns-else-stands_at : goal.returns-else-stands_at
returns-else-stands_at c =
    record {
      place = c.sought.ensures;
      within = λ among. subst (λ n. n < length c.args.nodes.now) (sym c.sought.ensures) (place_there c.args.nodes.now c.args.node among).within;
      there = λ among. ap (λ n. get_or c.args.nodes.now n 0) c.sought.ensures ∙ (place_there c.args.nodes.now c.args.node among).at;
    }
