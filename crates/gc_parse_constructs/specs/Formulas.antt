-- What the parts of a CONSTRUCT are given to read their expressions with.
use Rattle.std.specs.Prelude.{ℕ, ◌<◌, ◌-◌, ◌^◌, Result, drop}
use Rattle.gc_ast.specs.declared.query.Formula.{Formula}
use Rattle.gc_ast.specs.QueryViews.{formula_tree}
use Rattle.gc_parse_readers.specs.ExpressionReaders.{read_formula}
use Rattle.gc_parse_readers.specs.Points.{bare}
use Rattle.gc_parse_readers.specs.QueryReaders.{nested}
use Rattle.gc_parse_source.specs.declared.refusal.Refusal.{Refusal}
use Rattle.gc_parse_source.specs.Results.{Gives}
use Rattle.gc_parse_source.specs.Sources.{Tokens}

-- a call may be made at each place, and gives what the reader of expressions gives
pub record ReadsFormulas (source : Tokens) (room : ℕ) (pre : ℕ → Type 0) (post : ℕ → Result (Formula × ℕ) Refusal → Type 0) : Type 0 where
  pub callable : (at : ℕ) → at < 2 ^ 32 → pre at
  pub exact : (at : ℕ) (result : Result (Formula × ℕ) Refusal) → at < 2 ^ 32 → post at result
      → Gives (formula_tree source.names) source.tokens result (read_formula room (nested (room - 1)) (bare at) (drop at source.tokens))
