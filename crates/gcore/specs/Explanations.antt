-- What `explain` writes of a session.
use Rattle.std.specs.Prelude.{◌≡◌, ℕ, List, Option}
use Rattle.std.specs.List.{flat_map}
use Rattle.gc_lower.specs.Namings.{scope_in}
use Rattle.gc_lower.specs.Scopes.{Scope}
use Rattle.gc_query.specs.Evaluations.{Evaluation}
use Rattle.gc_query.specs.Logs.{explained_after}
use Rattle.gcore.specs.EvaluatedSessions.{IsEvaluatedOver, given_names}
use Rattle.gcore.specs.Outcomes.{Request}

-- lines, one after another
abbrev pub all_lines : List (List ℕ) → List ℕ
all_lines lines = flat_map (λ line. line) lines

-- the lines that explain CONSTRUCTs, which are numbered from 1 on
abbrev pub explained_text : Scope → List Evaluation → List ℕ
explained_text s all = all_lines (explained_after s 0 all)

-- the session of a request, over graphs of these names, has no fault, and these lines explain the CONSTRUCTs that it evaluates
pub record IsExplainedOver (names : List (Option (List ℕ))) (r : Request) (text : List ℕ) : Type 0 where
  pub all : List Evaluation
  pub evaluated : IsEvaluatedOver names r all
  pub text_is : text ≡ explained_text (scope_in r.query.file 0) all

abbrev pub IsExplained : Request → List ℕ → Type 0
IsExplained r text = IsExplainedOver (given_names r) r text
