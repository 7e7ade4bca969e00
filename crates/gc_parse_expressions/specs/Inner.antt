-- What an expression is given to read the queries of its EXISTS with.
use Rattle.std.specs.Prelude.{ℕ, ◌<◌, ◌^◌, Result, drop}
use Rattle.gc_ast.specs.declared.query.Query.{Query}
use Rattle.gc_ast.specs.QueryViews.{query_tree}
use Rattle.gc_parse_readers.specs.Points.{bare}
use Rattle.gc_parse_readers.specs.QueryReaders.{nested}
use Rattle.gc_parse_source.specs.declared.refusal.Refusal.{Refusal}
use Rattle.gc_parse_source.specs.Results.{Gives}
use Rattle.gc_parse_source.specs.Sources.{Tokens}

-- a call may be made at each place and with less room, and gives what the reader of queries gives
pub record ReadsQueries (source : Tokens) (room : ℕ) (pre : ℕ → ℕ → Type 0) (post : ℕ → ℕ → Result (Query × ℕ) Refusal → Type 0) : Type 0 where
  pub callable : (within at : ℕ) → within < room → at < 2 ^ 32 → pre within at
  pub exact : (within at : ℕ) (result : Result (Query × ℕ) Refusal) → within < room → at < 2 ^ 32 → post within at result
      → Gives (query_tree source.names) source.tokens result ((nested within).query (bare at) (drop at source.tokens))
