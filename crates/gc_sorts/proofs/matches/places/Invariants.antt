use Rattle.std.proofs.Common.{◌≡◌, drop, map}
use Rattle.gc_sorts.specs.Breaches.{first_among}
use Rattle.gc_sorts.specs.Matches.{place_breaches, each_use}
use Rattle.gc_sorts.specs.Variables.{use_by}
use Rattle.gc_sorts.proofs.matches.places.Given as goal

abbrev pub invariant-loop-use_at : goal.invariant-loop-use_at
invariant-loop-use_at l =
    first_among l.found (each_use (place_breaches l.variables.uses) (map (use_by l.variables.names) (drop l.use_at-index l.use_at-items)))
    ≡ first_among l.initial.found (each_use (place_breaches l.variables.uses) (map (use_by l.variables.names) l.use_at-items))
