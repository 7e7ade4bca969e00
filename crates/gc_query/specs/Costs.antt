-- Which costs of found paths are past the range.
use Rattle.std.specs.Prelude.{ℕ, ◌+◌, Bool, true, false, List, [], ◌∷◌, ◌++◌, Option, Some, None, if◌then◌else◌}
use Rattle.std.specs.Option.{option_map, option_or}
use Rattle.gc_base.specs.declared.place.Sym.{Sym}
use Rattle.gc_ast.specs.Trees as tree
use Rattle.gc_ast.specs.Trees.{Tree, RowOf, Named, ABasic, ABlock, ALocated, AnOptional, APathBody, APattern}
use Rattle.gc_lower.specs.Scopes.{Scope, variable_of}
use Rattle.gc_rows.specs.Rows.{datum_at}
use Rattle.gc_rows.specs.declared.datum.Datum.{Datum}
use Rattle.gc_rows.specs.declared.datum.Datum.TheVariants as datum
use Rattle.gc_rows.specs.declared.row.Binding.{Binding}
use Rattle.gc_query.specs.declared.costs.CostAt.{CostAt}
use Rattle.gc_query.specs.declared.costs.PastAt.{PastAt}

-- Take `MATCH (n)-/p<~w ~w> COST c/->(m)`: where c is past the greatest number in two rows, the fault is at c, in the first of them.

-- a variable behind COST, and its token
abbrev pub cost_at : Scope → Named → CostAt
cost_at s c = record { var = variable_of s c.name; token = c.token }

-- those of a MATCH with its OPTIONAL blocks, in the order of the text
abbrev pub cost_if : Scope → Option Named → List CostAt
cost_if s None = []
cost_if s (Some c) = cost_at s c ∷ []

abbrev pub body_costs : Scope → Tree APathBody → List CostAt
body_costs s (tree.Found k p regex views cost) = cost_if s cost
body_costs s (tree.Reach regex views) = []
body_costs s (tree.All p regex views) = []
body_costs s (tree.Stored p labels) = []

abbrev pub pattern_costs : Scope → Tree APattern → List CostAt
pattern_costs s (tree.Path token regex_at body) = body_costs s body
pattern_costs s (tree.Node e) = []
pattern_costs s (tree.Edge way e) = []

abbrev pub chain_costs : Scope → Tree (RowOf APattern) → List CostAt
chain_costs s tree.none = []
chain_costs s (tree.more p ps) = pattern_costs s p ++ chain_costs s ps

abbrev pub located_costs : Scope → Tree (RowOf ALocated) → List CostAt
located_costs s tree.none = []
located_costs s (tree.more (tree.Located parts on) located) = chain_costs s parts ++ located_costs s located

abbrev pub block_costs : Scope → Tree ABlock → List CostAt
block_costs s (tree.Block patterns filter) = located_costs s patterns

abbrev pub optional_costs : Scope → Tree (RowOf AnOptional) → List CostAt
optional_costs s tree.none = []
optional_costs s (tree.more (tree.Optional token block) later) = block_costs s block ++ optional_costs s later

abbrev pub costs_of : Scope → Tree ABasic → List CostAt
costs_of s (tree.Basic token items main optionals) = block_costs s main ++ optional_costs s optionals

-- the first of some rows on which a variable is past the range, by its number
abbrev pub is_past : Option Datum → Bool
is_past (Some datum.PastRange) = true
is_past d = false

abbrev pub past_from : (number : ℕ) → Sym → List (List Binding) → Option ℕ
past_from number x [] = None
past_from number x (row ∷ rows) = if is_past (datum_at row x) then Some number else past_from (number + 1) x rows

-- a cost that is past the range on a row
abbrev pub past_of : CostAt → List (List Binding) → Option PastAt
past_of c rows = option_map (λ row. record { token = c.token; row = row }) (past_from 0 c.var rows)

-- the first variable in the order of the text that is past the range on a row, on the first such row
abbrev pub first_past : List CostAt → List (List Binding) → Option PastAt
first_past [] rows = None
first_past (c ∷ costs) rows = option_or (past_of c rows) (first_past costs rows)
