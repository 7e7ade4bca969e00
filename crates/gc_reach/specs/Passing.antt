-- What is found of the walks between two pairs.
use Rattle.std.specs.Prelude.{◌≡◌, Bool, true, List}
use Rattle.std.specs.List.{Contains}
use Rattle.gc_base.specs.declared.walk.Step.{Step}
use Rattle.gc_prod.specs.declared.moves.Pair.{Pair}
use Rattle.gc_prod.specs.Leading.{Passed, IsTaken}
use Rattle.gc_prod.specs.Products.{Setting}

-- whether there is a walk from a pair to a pair, and exactly the steps that such walks take
pub record AreStepsBetween (setting : Setting) (start finish : Pair) (some : Bool) (steps : List Step) : Type 0 where
  pub walks : some ≡ true → Passed setting start finish
  pub walked : Passed setting start finish → some ≡ true
  pub sound : (s : Step) → Contains steps s → IsTaken setting start finish s
  pub complete : (s : Step) → IsTaken setting start finish s → Contains steps s
