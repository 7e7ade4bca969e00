-- What the parser's functions give, beside what the readers of the grammar give.
use Rattle.std.specs.Prelude.{◌≡◌, ℕ, ◌+◌, List, Option, Some, None, Result, Ok, Err, drop, map}
use Rattle.gc_lex.specs.declared.token.Token.{Token}
use Rattle.gc_ast.specs.Trees.{Tree, AQuery}
use Rattle.gc_expr.specs.Views.{Names}
use Rattle.gc_ast.specs.declared.query.Query.{Query}
use Rattle.gc_ast.specs.QueryViews.{query_tree}
use Rattle.gc_parse_readers.specs.Readers.{Reader, Reading, Got, Stuck, first_means, behind}
use Rattle.gc_parse_readers.specs.Points.{bare, point}
use Rattle.gc_parse_source.specs.Sources.{Tokens}
use Rattle.gc_parse_source.specs.declared.refusal.Refusal.{Refusal}
use Rattle.gc_parse_source.specs.declared.refusal.Refusal.TheVariants as refusal

-- what a token means was taken, with the place behind it
abbrev pub Takes : {T A : Type 0} → (Token → Option A) → (T → A) → List Token → ℕ → Result (T × ℕ) Refusal → Type 0
Takes means view tokens at (Ok taken) =
    (first_means means (drop at tokens) ≡ Some (view taken.0)) × (taken.1 ≡ at + 1) × (behind (drop at tokens) ≡ drop taken.1 tokens)
Takes means view tokens at (Err (refusal.Syntax k)) = (k ≡ at) × (first_means means (drop at tokens) ≡ None)
Takes means view tokens at (Err refusal.Memory) = Unit {0}

-- the value and the place behind it are those of a reading, or so is the refusal
abbrev pub Gives : {T A : Type 0} → (T → A) → List Token → Result (T × ℕ) Refusal → Reading A → Type 0
Gives view tokens (Ok given) reading = reading ≡ Got (view given.0) (bare given.1) (drop given.1 tokens)
Gives view tokens (Err (refusal.Syntax k)) reading = reading ≡ Stuck k
Gives view tokens (Err refusal.Memory) reading = Unit {0}

-- the queries of the EXISTS before a point, as trees
abbrev pub queries_view : Names → List Query → List (Tree AQuery)
queries_view names queries = map (query_tree names) queries

-- the same as `Gives` in an expression, where these EXISTS queries stand before the place behind
abbrev pub GivesWith : {T A : Type 0} → (T → A) → List (Tree AQuery) → List Token → Result (T × ℕ) Refusal → Reading A → Type 0
GivesWith view queries tokens (Ok given) reading = reading ≡ Got (view given.0) (point given.1 queries) (drop given.1 tokens)
GivesWith view queries tokens (Err (refusal.Syntax k)) reading = reading ≡ Stuck k
GivesWith view queries tokens (Err refusal.Memory) reading = Unit {0}

-- the same of a function that puts the EXISTS queries that it meets behind those before it
abbrev pub ReadsWith : {T A : Type 0} → (T → A) → Tokens → ℕ → (before after : List Query) → Result (T × ℕ) Refusal → Reader A → Type 0
ReadsWith view source at before after result reader =
    GivesWith view (queries_view source.names after) source.tokens result (reader (point at (queries_view source.names before)) (drop at source.tokens))

-- a token that means nothing more was passed
abbrev pub Passes : (Token → Option (Unit {0})) → List Token → ℕ → Result ℕ Refusal → Type 0
Passes means tokens at (Ok next) =
    (first_means means (drop at tokens) ≡ Some tt) × (next ≡ at + 1) × (behind (drop at tokens) ≡ drop next tokens)
Passes means tokens at (Err (refusal.Syntax k)) = (k ≡ at) × (first_means means (drop at tokens) ≡ None)
Passes means tokens at (Err refusal.Memory) = ⊥
