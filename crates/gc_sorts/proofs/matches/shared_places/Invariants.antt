use Rattle.std.proofs.Common.{◌≡◌, drop, map}
use Rattle.gc_sorts.specs.Breaches.{first_among}
use Rattle.gc_sorts.specs.Matches.{shared_place, each_use}
use Rattle.gc_sorts.specs.Variables.{use_by}
use Rattle.gc_sorts.proofs.matches.shared_places.Given as goal

abbrev pub invariant-loop-place : goal.invariant-loop-place
invariant-loop-place l =
    first_among l.found (each_use (shared_place l.variables.uses l.mandatory l.from) (map (use_by l.variables.names) (drop l.place-index l.place-items)))
    ≡ first_among l.initial.found (each_use (shared_place l.variables.uses l.mandatory l.from) (map (use_by l.variables.names) l.place-items))
