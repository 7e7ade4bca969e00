-- What is told of a query file by these rules.
use Rattle.std.specs.Prelude.{◌≡◌, ℕ, false, List, Option, Some, None, Result, Ok, Err, ⊤}
use Rattle.gc_ast.specs.QueryViews.{file_trees}
use Rattle.gc_ast.specs.Trees.{Tree, RowOf, AStatement, row}
use Rattle.gc_ast.specs.declared.file.File.{File}
use Rattle.gc_sorts.specs.Breaches.{is_before}
use Rattle.gc_sorts.specs.Checks.{token_place}
use Rattle.gc_sorts.specs.declared.breach.Breach.{Breach}
use Rattle.gc_sorts.specs.declared.breach.SortRule.{SortRule}
use Rattle.gc_sorts.specs.declared.checked.Checked.{Checked}
use Rattle.gc_sorts.specs.declared.refusal.SortRefusal.{SortRefusal}
use Rattle.gc_sorts.specs.declared.refusal.SortRefusal.TheVariants.{Broken, Memory}
use Rattle.gc_sort_rules.specs.Rules.{Breaks}

-- the statements of a file over graphs of these names break no rule
abbrev pub KeepsAll : List (List ℕ) → Tree (RowOf AStatement) → Type 0
KeepsAll graphs statements = (rule : SortRule) (token : ℕ) → Breaks graphs statements rule token → ⊥

-- they break a rule at a token, and nothing that they break comes before it: neither an earlier token, nor a rule of a
-- lower number at this one
abbrev pub BreaksFirst : List (List ℕ) → Tree (RowOf AStatement) → Breach → Type 0
BreaksFirst graphs statements first =
    Breaks graphs statements first.rule first.token
    × ((b : Breach) → Breaks graphs statements b.rule b.token → is_before b first ≡ false)

-- whether there is a first breach, and which
abbrev pub IsFirstBreach : List (List ℕ) → Tree (RowOf AStatement) → Option Breach → Type 0
IsFirstBreach graphs statements None = KeepsAll graphs statements
IsFirstBreach graphs statements (Some first) = BreaksFirst graphs statements first

-- a file that keeps all rules is given back with the names of the graphs; of another one the first rule that it breaks is
-- told, with the place of a token at which it does
abbrev pub IsVerdict : File → List (List ℕ) → Result Checked SortRefusal → Type 0
IsVerdict file graphs (Ok checked) = (checked.file ≡ file) × (checked.graphs ≡ graphs) × KeepsAll graphs (row (file_trees file))
IsVerdict file graphs (Err (Broken rule at)) =
    (token : ℕ) × (at ≡ token_place file token) × BreaksFirst graphs (row (file_trees file)) (record { rule = rule; token = token })
IsVerdict file graphs (Err Memory) = ⊤
