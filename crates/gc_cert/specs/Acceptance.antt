-- When the document of a search is accepted: six rules. A setting is the product of the document.
use Rattle.std.specs.Prelude.{◌≡◌, ℕ, ◌+◌, ◌-◌, ◌<◌, Bool, true, false, ◌&&◌, ◌==◌, nat_le, List, is_some, Some}
use Rattle.std.specs.List.{AllByRecursion, list_all}
use Rattle.std.specs.Option.{option_map_or}
use Rattle.gc_base.specs.Ascending.{Ascends}
use Rattle.gc_base.specs.Walks.{end_of}
use Rattle.gc_automata.specs.Machines.{IsAutomatonOf}
use Rattle.gc_automata.specs.Moves.{Network, IsThere}
use Rattle.gc_regx.specs.Views.{regex_tree}
use Rattle.gc_prod.specs.declared.moves.Move.{Move}
use Rattle.gc_prod.specs.declared.moves.Pair.{Pair}
use Rattle.gc_prod.specs.Leading.{pair, target_of}
use Rattle.gc_prod.specs.Products.{Setting, moves}
use Rattle.gc_cert.specs.declared.document.Potential.{Potential}
use Rattle.gc_cert.specs.declared.document.SearchDoc.{SearchDoc}
use Rattle.gc_cert.specs.declared.document.WalkDoc.{WalkDoc}
use Rattle.gc_cert.specs.Potentials.{potential_order, potential_of}
use Rattle.gc_cert.specs.Runs.{Follows, run_cost}

-- the graph and the segments of a document
abbrev pub network_of : SearchDoc → Network
network_of d = record { graph = d.graph; segments = d.segments }

-- a setting has them, and the automaton of the document's expression
pub record IsProductOf (d : SearchDoc) (setting : Setting) : Type 0 where
  pub network : setting.network ≡ network_of d
  pub automaton : IsAutomatonOf (regex_tree d.expression) setting.machine

-- the pairs of potentials are of the product
pub record IsPotential (setting : Setting) (q : Potential) : Type 0 where
  pub there : IsThere setting.network q.node
  pub below : q.state < setting.machine.states

-- the first rule: potentials strictly ascend by node, then by state, and each is of a node and a state that there are
pub record AreListed (setting : Setting) (potentials : List Potential) : Type 0 where
  pub ascend : Ascends potential_order potentials
  pub each : AllByRecursion (IsPotential setting) potentials

-- the second: the start is a node, at which the potential of the first state is 0
pub record BeginsFree (setting : Setting) (d : SearchDoc) : Type 0 where
  pub there : IsThere setting.network d.start
  pub free : potential_of d.potentials (pair d.start 0) ≡ Some 0

-- whether each move from each pair that has a potential is so, given that potential
abbrev pub all_moves : Setting → (Potential → Move → Bool) → List Potential → Bool
all_moves setting is_so potentials = list_all (λ from. list_all (is_so from) (moves setting from.node from.state)) potentials

-- the third: such a move leads to a pair that has a potential
abbrev pub is_covered : List Potential → Potential → Move → Bool
is_covered potentials from m = is_some (potential_of potentials (target_of m))

abbrev pub AreCovered : Setting → List Potential → Type 0
AreCovered setting potentials = all_moves setting (is_covered potentials) potentials ≡ true

-- the fourth: the potential moved to is at most the potential moved from and the cost of the move
abbrev pub is_bounded : List Potential → Potential → Move → Bool
is_bounded potentials from m = option_map_or (λ to. nat_le to (from.cost + m.cost)) (potential_of potentials (target_of m)) true

abbrev pub AreBounded : Setting → List Potential → Type 0
AreBounded setting potentials = all_moves setting (is_bounded potentials) potentials ≡ true

-- where a walk has to end: at its last node, in the last state
abbrev pub end_pair : Setting → WalkDoc → Pair
end_pair setting w = pair (end_of w.walk) (setting.machine.states - 1)

-- the fifth: its run is a list of moves from the start in the first state to there, which pass exactly the walk
pub record IsPassed (setting : Setting) (start : ℕ) (w : WalkDoc) : Type 0 where
  pub begins : w.walk.start ≡ start
  pub follows : Follows setting (pair start 0) w.run (end_pair setting w) w.walk.steps

abbrev pub ArePassed : Setting → SearchDoc → Type 0
ArePassed setting d = AllByRecursion (IsPassed setting d.start) d.walks

-- the sixth: the costs of these moves add up to the stated cost, and this is the potential of the last pair
abbrev pub is_least : Setting → List Potential → WalkDoc → Bool
is_least setting potentials w =
    (run_cost setting.network.segments w.run == w.cost) && option_map_or (λ c. c == w.cost) (potential_of potentials (end_pair setting w)) false

abbrev pub AreLeast : Setting → SearchDoc → Type 0
AreLeast setting d = list_all (is_least setting d.potentials) d.walks ≡ true

-- a document is accepted
pub record Accepts (d : SearchDoc) (setting : Setting) : Type 0 where
  pub listed : AreListed setting d.potentials
  pub begins : BeginsFree setting d
  pub covered : AreCovered setting d.potentials
  pub bounded : AreBounded setting d.potentials
  pub passed : ArePassed setting d
  pub least : AreLeast setting d
