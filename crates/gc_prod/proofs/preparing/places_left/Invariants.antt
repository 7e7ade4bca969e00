use Rattle.std.proofs.Common.{◌≡◌, ◌++◌, drop, map}
use Rattle.gc_prod.specs.Places.{place_in}
use Rattle.gc_prod.proofs.preparing.places_left.Given as goal

abbrev pub invariant-loop-hop : goal.invariant-loop-hop
invariant-loop-hop l = l.places.items ++ map (λ h. place_in l.nodes h.from) (drop l.hop-index l.hops) ≡ map (λ h. place_in l.nodes h.from) l.hops
