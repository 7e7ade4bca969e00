-- What the code of the uses of views gives, one use after another.
use Rattle.std.specs.Prelude.{◌≡◌, List, ◌++◌, Result, Ok, Err}
use Rattle.gc_lower.specs.Scopes.{Scope}
use Rattle.gc_prod.specs.Segments.{Segments}
use Rattle.gc_spec.specs.PropertyGraph.{PropertyGraph}
use Rattle.gc_query.specs.Segments.{OfUses}
use Rattle.gc_query.specs.UsedViews.{UsedView}
use Rattle.gc_query.specs.declared.fault.Fault.{Fault}

-- entries before what others come to
abbrev pub onto : List Segments → Result (List Segments) Fault → Result (List Segments) Fault
onto entries (Ok later) = Ok (entries ++ later)
onto entries (Err fault) = Err fault

-- a table gains the entries of some uses: what others behind them come to stands behind these
pub record Gains (s : Scope) (graphs : List PropertyGraph) (uses : List UsedView) (before after : List Segments) : Type 0 where
  pub entries : List Segments
  pub gained : after ≡ before ++ entries
  pub leads : (later : List UsedView) (outcome : Result (List Segments) Fault) → OfUses s graphs later outcome
      → OfUses s graphs (uses ++ later) (onto entries outcome)

-- one of some uses has a fault, whatever others stand behind them
abbrev pub Fails : Scope → List PropertyGraph → List UsedView → Fault → Type 0
Fails s graphs uses fault = (later : List UsedView) → OfUses s graphs (uses ++ later) (Err fault)
