-- Which nodes are reached by walks that conform.
use Rattle.std.specs.Prelude.{◌≡◌, ℕ, List}
use Rattle.std.specs.List.{AllByRecursion, Contains}
use Rattle.std.specs.Ordering.{nat_cmp}
use Rattle.gc_base.specs.Ascending.{Ascends}
use Rattle.gc_base.specs.Walks.{end_of}
use Rattle.gc_base.specs.declared.walk.Walk.{Walk}
use Rattle.gc_regx.specs.Trees.{RegexTree, ARegex}
use Rattle.gc_automata.specs.Conformance.{Conforms}
use Rattle.gc_automata.specs.Moves.{Network}

-- a walk that conforms to an expression leads from a node to a node
pub record IsReached (network : Network) (tree : RegexTree ARegex) (source target : ℕ) : Type 0 where
  pub walk : Walk
  pub cost : ℕ
  pub conforms : Conforms network tree walk cost
  pub starts : walk.start ≡ source
  pub ends : end_of walk ≡ target

-- exactly the identities that are so, ascending
pub record AreThose (IsSo : ℕ → Type 0) (ids : List ℕ) : Type 0 where
  pub ascend : Ascends nat_cmp ids
  pub sound : AllByRecursion IsSo ids
  pub complete : (id : ℕ) → IsSo id → Contains ids id
