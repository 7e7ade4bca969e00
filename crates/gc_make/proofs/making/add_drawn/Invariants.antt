use Rattle.std.proofs.Common.{◌≡◌, ◌*◌, ◌<◌}
use Rattle.gc_make.specs.Draws.{draw}
use Rattle.gc_make.specs.MadeGraphs.{made_of, random_edge}
use Rattle.gc_make.proofs.making.add_drawn.Given as goal

-- the edges so far, for each of which two numbers were drawn
abbrev pub invariant-loop-j : goal.invariant-loop-j
invariant-loop-j l = (l.builder ≡ made_of l.size (random_edge l.size l.start) l.j) × (l.drawn ≡ draw l.start (2 * l.j)) × (l.drawn < 2147483648)
