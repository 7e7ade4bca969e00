-- Potentials, each of a pair of a node and a state.
use Rattle.std.specs.Prelude.{ℕ, Bool, ◌&&◌, ◌==◌, List, Option}
use Rattle.std.specs.declared.cmp.Ordering.{Ordering}
use Rattle.std.specs.List.{find}
use Rattle.std.specs.Option.{option_map}
use Rattle.std.specs.Ordering.{nat_cmp, on, then_cmp}
use Rattle.gc_prod.specs.declared.moves.Pair.{Pair}
use Rattle.gc_cert.specs.declared.document.Potential.{Potential}

-- the pair of a potential
abbrev pub at_pair : Potential → Pair
at_pair q = record { node = q.node; state = q.state }

-- pairs are ordered by node, then by state
abbrev pub pair_order : Pair → Pair → Ordering
pair_order = then_cmp (on (λ p. p.node) nat_cmp) (on (λ p. p.state) nat_cmp)

abbrev pub potential_order : Potential → Potential → Ordering
potential_order = on at_pair pair_order

-- whether a potential is that of a pair
abbrev pub is_of_pair : Pair → Potential → Bool
is_of_pair p q = (q.node == p.node) && (q.state == p.state)

-- the potential of a pair, if it has one
abbrev pub potential_of : List Potential → Pair → Option ℕ
potential_of potentials p = option_map (λ q. q.cost) (find (is_of_pair p) potentials)
