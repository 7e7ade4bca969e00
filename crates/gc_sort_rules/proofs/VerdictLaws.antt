-- The first breach is the first of those that the fifteen rules name.
use Rattle.std.proofs.Common.{◌↔◌, ℕ, List, Option, None, Some, Result, Ok, Err, sym, subst}
use Rattle.gc_ast.specs.QueryViews.{file_trees}
use Rattle.gc_ast.specs.Trees.{Tree, RowOf, AStatement, row}
use Rattle.gc_ast.specs.declared.file.File.{File}
use Rattle.gc_sorts.specs.Breaches.{Breaches, IsAmong, IsFirst, first_among}
use Rattle.gc_sorts.specs.Checks.{IsChecked}
use Rattle.gc_sorts.specs.SortRules.{file_breaches, first_breach}
use Rattle.gc_sorts.specs.declared.breach.Breach.{Breach}
use Rattle.gc_sorts.specs.declared.checked.Checked.{Checked}
use Rattle.gc_sorts.specs.declared.refusal.SortRefusal.{SortRefusal}
use Rattle.gc_sorts.specs.declared.refusal.SortRefusal.TheVariants.{Broken, Memory}
use Rattle.gc_sort_rules.specs.Rules.{Breaks}
use Rattle.gc_sort_rules.specs.Verdicts.{IsFirstBreach, IsVerdict}

-- the two laws that these rest on
abbrev BreachesLaw : Type 0
BreachesLaw = (graphs : List (List ℕ)) (statements : Tree (RowOf AStatement)) (b : Breach)
    → IsAmong b (file_breaches graphs statements) ↔ Breaks graphs statements b.rule b.token

abbrev FirstLaw : Type 0
FirstLaw = (bs : Breaches) → IsFirst (first_among None bs) bs

pub first_is_first : BreachesLaw → (graphs : List (List ℕ)) (statements : Tree (RowOf AStatement)) (first : Option Breach)
    → IsFirst first (file_breaches graphs statements) → IsFirstBreach graphs statements first
first_is_first law graphs statements None h = λ rule token broken.
    let b : Breach = record { rule = rule; token = token } in
    h b ((law graphs statements b).1 broken)
first_is_first law graphs statements (Some first) h =
    ((law graphs statements first).0 h.0, λ b broken. h.1 b ((law graphs statements b).1 broken))

verdict_by : (file : File) (graphs : List (List ℕ)) (first : Option Breach) (outcome : Result Checked SortRefusal)
    → IsFirstBreach graphs (row (file_trees file)) first → IsChecked file graphs first outcome → IsVerdict file graphs outcome
verdict_by file graphs None (Ok checked) is_first h = (h.0, h.1, is_first)
verdict_by file graphs None (Err (Broken rule at)) is_first h = absurd h
verdict_by file graphs None (Err Memory) is_first h = h
verdict_by file graphs (Some first) (Ok checked) is_first h = absurd h
verdict_by file graphs (Some first) (Err (Broken rule at)) is_first h =
    (first.token, h.1, subst (λ r. IsFirstBreach graphs (row (file_trees file)) (Some (record { rule = r; token = first.token }))) (sym h.0) is_first)
verdict_by file graphs (Some first) (Err Memory) is_first h = h

pub verdict : BreachesLaw → FirstLaw → (file : File) (graphs : List (List ℕ)) (outcome : Result Checked SortRefusal)
    → IsChecked file graphs (first_breach graphs (row (file_trees file))) outcome → IsVerdict file graphs outcome
verdict law first_law file graphs outcome h =
    verdict_by file graphs (first_breach graphs (row (file_trees file))) outcome
    (first_is_first law graphs (row (file_trees file)) (first_breach graphs (row (file_trees file)))
    (first_law (file_breaches graphs (row (file_trees file))))) h
