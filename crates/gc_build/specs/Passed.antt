-- Lists of exactly what is meant, in any order.
use Rattle.std.specs.Prelude.{ℕ, List}
use Rattle.std.specs.List.{Contains}
use Rattle.gc_base.specs.Walks.{edges_of}
use Rattle.gc_base.specs.declared.walk.Walk.{Walk}
use Rattle.gc_reach.specs.OnWalks.{nodes_of}

-- exactly the identities of which something holds
pub record AreJust (Holds : ℕ → Type 0) (ids : List ℕ) : Type 0 where
  pub sound : (id : ℕ) → Contains ids id → Holds id
  pub complete : (id : ℕ) → Holds id → Contains ids id

-- the same of the nodes, and of the edges, that walks have
pub record ArePassed (Holds : (Walk → List ℕ) → ℕ → Type 0) (ns es : List ℕ) : Type 0 where
  pub nodes : AreJust (Holds nodes_of) ns
  pub edges : AreJust (Holds edges_of) es
