-- What reads queries with some room reads them with less.
use Rattle.std.proofs.Common.{ℕ, ◌-◌, Result}
use Rattle.gc_ast.specs.declared.query.Query.{Query}
use Rattle.gc_parse_source.specs.declared.refusal.Refusal.{Refusal}
use Rattle.gc_parse_source.specs.Sources.{Tokens}
use Rattle.gc_parse_expressions.specs.Inner.{ReadsQueries}
use native.Mathlib.Omega.{arith}

pub with_less_room : {source : Tokens} {room : ℕ} {pre : ℕ → ℕ → Type 0} {post : ℕ → ℕ → Result (Query × ℕ) Refusal → Type 0}
    → ReadsQueries source room pre post → ReadsQueries source (room - 1) pre post
with_less_room reads = record {
  callable = λ within at less. reads.callable within at (omega (arith, less));
  exact = λ within at result less. reads.exact within at result (omega (arith, less));
}
