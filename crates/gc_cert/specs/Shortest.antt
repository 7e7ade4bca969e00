-- Shortest walks that conform to an expression.
use Rattle.std.specs.Prelude.{◌≡◌, ℕ, ◌≤◌}
use Rattle.gc_base.specs.Walks.{end_of}
use Rattle.gc_base.specs.declared.walk.Walk.{Walk}
use Rattle.gc_automata.specs.Conformance.{Conforms}
use Rattle.gc_automata.specs.Moves.{Network}
use Rattle.gc_regx.specs.Trees.{RegexTree, ARegex}

-- a walk goes from a node and conforms to an expression at a cost, and no conforming walk between its ends costs less
pub record IsShortest (network : Network) (tree : RegexTree ARegex) (start : ℕ) (w : Walk) (c : ℕ) : Type 0 where
  pub begins : w.start ≡ start
  pub conforms : Conforms network tree w c
  pub least : (other : Walk) (cost : ℕ) → other.start ≡ start → end_of other ≡ end_of w → Conforms network tree other cost → c ≤ cost
