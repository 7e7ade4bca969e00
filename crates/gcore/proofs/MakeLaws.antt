-- How a call of `make` ends.
use Rattle.std.proofs.Common.{◌≡◌, ℕ, ◌≤◌, List, [], ◌∷◌, length, Option, None, Some, Result, Ok, refl, sym, ap, ◌∙◌}
use Rattle.std.specs.Prelude.{IfSome, IsSomeAnd}
use Rattle.gc_base.specs.Files.{Files}
use Rattle.gc_base.specs.declared.place.MakeKind.{MakeKind}
use Rattle.gc_make.specs.MadeGraphs.{made}
use Rattle.gc_spec.specs.PropertyGraph.{PropertyGraph}
use Rattle.gcore.specs.Endings.{Answers, Change, HoldsMade, HoldsText, MayBegin, RunsMade}
use Rattle.gcore.specs.MakeQueries.{made_name, make_query}
use Rattle.gcore.specs.Outcomes.{IsAsked, PrintsFirst, Request, Runs, Task, make_due, make_request, outcome, task_due, texts, then_due}
use Rattle.gcore.specs.QueryFiles.{PlacedFile, query_file_of}
use Rattle.gcore.specs.declared.command.Command.{Command}
use Rattle.gcore.specs.declared.command.Command.TheVariants.{Make}
use Rattle.gcore.specs.declared.stop.Stop.{Stop}
use Rattle.gcore.specs.declared.style.Style.TheVariants.{Summary}
use Rattle.gcore.proofs.MakeQueryRead.{make_query_is_read}
use Rattle.gcore.proofs.RunLaws.{ran}

module _ (kind : MakeKind) (size start : ℕ) where
  abbrev command : Option Command
  command = Some (Make kind size start)

  -- a told room of `out` holds what may be written
  pub holds_made : (told : Option Files) (room : Option ℕ) → HoldsText room told command → HoldsMade room kind size start
  holds_made told room h = λ r due x here graphs first. within told x (h x here) r due graphs first
    where
      within : (o : Option Files) (x : ℕ) → IsSomeAnd o (λ files. (task : Task) (text : List ℕ) → outcome command files ≡ Ok task → MayBegin task text → length text ≤ x)
          → (r : Request) → make_due kind size start ≡ Ok r → (graphs : List PropertyGraph) → PrintsFirst r graphs → length (texts r.style graphs) ≤ x
      within None x holds r due graphs first = absurd holds
      within (Some files) x holds r due graphs first = holds (Runs r) (texts r.style graphs) (ap (task_due Runs) due) (graphs, first, refl)

  -- what is due, by the graph that was made and the query that was read
  pub due_of : (g : PropertyGraph) (graphs : List PropertyGraph) (query : PlacedFile) (nodes edges : ℕ) → g ≡ made kind size start → graphs ≡ g ∷ [] → query_file_of (made_name ∷ []) make_query ≡ Ok query
      → nodes ≡ length g.nodes → edges ≡ length g.edges → make_due kind size start ≡ Ok (record { graphs = graphs; query = query; style = Summary nodes edges })
  due_of g graphs query nodes edges is alone read n e =
      let all : made kind size start ∷ [] ≡ graphs = ap (λ h. h ∷ []) (sym is) ∙ sym alone in
      let many : length (made kind size start).nodes ≡ nodes = ap (λ (h : PropertyGraph). length h.nodes) (sym is) ∙ sym n in
      let more : length (made kind size start).edges ≡ edges = ap (λ (h : PropertyGraph). length h.edges) (sym is) ∙ sym e in
      ap (λ d. then_due d (make_request (made kind size start))) read ∙ (λ i. Ok (record { graphs = all i; query = query; style = Summary (many i) (more i) }))

  -- there is a session that is due
  pub due_is_there : (r : Request) × (make_due kind size start ≡ Ok r)
  due_is_there =
      let g = made kind size start in
      (record { graphs = g ∷ []; query = make_query_is_read.0; style = Summary (length g.nodes) (length g.edges) }, ap (λ d. then_due d (make_request g)) make_query_is_read.1)

  module _ (told : Option Files) (before after : ℕ) (out : Change) where
    -- what is due, whatever the files
    due_is : (r : Request) → make_due kind size start ≡ Ok r → (o : Option Files) → IfSome o (λ files. IsAsked (outcome command files) r)
    due_is r e None = tt
    due_is r e (Some files) = ap (task_due Runs) e

    -- a call that ran the session
    pub answers : (result : Result (Unit {0}) Stop) → RunsMade kind size start out result → Answers (record { command = command; files = told; faults_before = before; faults_after = after; out = out }) result
    answers result w = ran command told before after out w.0 refl tt (due_is w.0 w.1 told) result w.2
