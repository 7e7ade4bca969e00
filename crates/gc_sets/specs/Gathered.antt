-- Claims of one kind, gathered by their identities.
use Rattle.std.specs.Prelude.{◌≡◌, ℕ, ◌==◌, List}
use Rattle.std.specs.List.{find}
use Rattle.std.specs.Ordering.{nat_cmp, on}
use Rattle.gc_base.specs.Ascending.{Ascends}
use Rattle.gc_sets.specs.Claims.{said_of}

-- elements that ascend by identity, each of them all that the claims say of its identity
pub record IsGathered {X : Type 0} (unite : X → X → X) (id_of : X → ℕ) (claims xs : List X) : Type 0 where
  pub ascend : Ascends (on id_of nat_cmp) xs
  pub said : (id : ℕ) → find (λ x. id_of x == id) xs ≡ said_of unite id_of claims id
