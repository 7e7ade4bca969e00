-- The product of a graph and an automaton: pairs of a node and a state, and the moves between them.
use Rattle.std.specs.Prelude.{ℕ, List, map}
use Rattle.std.specs.List.{flat_map}
use Rattle.gc_automata.specs.Machines.{Machine}
use Rattle.gc_automata.specs.Moves.{Network}
use Rattle.gc_automata.specs.declared.transition.Transition.{Transition}
use Rattle.gc_prod.specs.declared.moves.Hop.{Hop}
use Rattle.gc_prod.specs.declared.moves.Move.{Move}
use Rattle.gc_prod.specs.Keys.{at_key}
use Rattle.gc_prod.specs.SymbolHops.{hops}

-- what walks are looked for on, and by which automaton
pub record Setting : Type 0 where
  pub network : Network
  pub machine : Machine

-- hops from a node, each of which leads to one state
pub record Bundle : Type 0 where
  pub state : ℕ
  pub hops : List Hop

-- the hops from a node along a transition
abbrev pub bundle_of : Network → ℕ → Transition → Bundle
bundle_of network node t = record { state = t.to; hops = at_key (λ h. h.from) node (hops network t.on) }

-- the transitions that leave a state
abbrev pub leaving : ℕ → List Transition → List Transition
leaving state transitions = at_key (λ t. t.from) state transitions

-- the hops of a pair, a bundle for each transition that leaves its state, in the order of these
abbrev pub bundles : Setting → ℕ → ℕ → List Bundle
bundles setting node state = map (bundle_of setting.network node) (leaving state setting.machine.transitions)

-- the moves by a bundle
abbrev pub moved : ℕ → Hop → Move
moved state h = record { node = h.to; state = state; cost = h.cost; by = h.by }

abbrev pub moves_by : Bundle → List Move
moves_by b = map (moved b.state) b.hops

-- the moves of a pair of a node and a state: by the state moved to, since transitions are ordered so,
-- and then by the number of the edge or of the segment
abbrev pub moves : Setting → ℕ → ℕ → List Move
moves setting node state = flat_map moves_by (bundles setting node state)
