-- A graph with later terms, one of them after another.
use Rattle.std.proofs.Common.{Result, Ok, Err, List, refl}
use Rattle.gc_ast.specs.Trees.{Tree, ATerm, ANextTerm, RowOf, NextTerm, none, more}
use Rattle.gc_ast.specs.declared.query.SetOp.{SetOp}
use Rattle.gc_lower.specs.Scopes.{Scope}
use Rattle.gc_query.specs.Queries.{Combines, Denotes, DenotesTerm, Joined}
use Rattle.gc_query.specs.Standings.{Made}
use Rattle.gc_query.specs.declared.fault.Fault.{Fault}
use Rattle.gc_spec.specs.PropertyGraph.{PropertyGraph}

module _ (s : Scope) (graphs : List PropertyGraph) (left : Made) where
  -- no later term
  pub no_more : Joined s graphs left none (Ok left)
  unfolding Denotes
  no_more = refl

  module _ (op : SetOp) (term : Tree ATerm) (later : Tree (RowOf ANextTerm)) where
    -- a term that has a fault
    pub right_fails : (fault : Fault) → DenotesTerm s (record { graphs = graphs; next = left.next }) term (Err fault) → Joined s graphs left (more (NextTerm op term) later) (Err fault)
    unfolding Denotes
    right_fails fault d = (Err fault, d, refl)

    module _ (made : Made) (d : DenotesTerm s (record { graphs = graphs; next = left.next }) term (Ok made)) where
      -- a term that is combined, before those behind it
      pub one_more : (both : Made) (outcome : Result Made Fault) → Combines op left.graph made both → Joined s graphs both later outcome → Joined s graphs left (more (NextTerm op term) later) outcome
      unfolding Denotes
      one_more both outcome c j = (Ok made, d, (both, c, j))
