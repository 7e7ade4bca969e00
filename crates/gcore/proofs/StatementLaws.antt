-- What one statement that is run, and whose graph is written, comes to.
use Rattle.std.proofs.Common.{◌≡◌, ℕ, zero, suc, ◌-◌, ◌<◌, ◌≤◌, List, [], ◌∷◌, ◌++◌, length, append-nil, Option, Some, None, Result, Ok, Err, OnOk, refl, sym, ap, ◌∙◌, subst, arith, slice_get}
use Rattle.std.specs.Option.{ForSome}
use Rattle.gc_ast.specs.Trees.{Tree, AStatement, View, Ask}
use Rattle.gc_base.specs.Sinks.{HasRoom, room_after}
use Rattle.gc_base.specs.declared.place.Place.{Place}
use Rattle.gc_catalog.specs.NamedGraphs.{NamedGraphs}
use Rattle.gc_lower.specs.Scopes.{Scope}
use Rattle.gc_query.specs.Sessions.{Answer, Answers, AnswersAsk, behind, printed_by}
use Rattle.gc_query.specs.Sessions as says
use Rattle.gc_query.specs.Standings.{Standing, Made}
use Rattle.gc_query.specs.Steps.{IsStepAt, free_word, standing, with_named, with_next, with_view}
use Rattle.gc_query.specs.declared.fault.Fault.{Fault}
use Rattle.gc_spec.specs.PropertyGraph.{PropertyGraph}
use Rattle.gcore.specs.Endings.{Change, Gains, GainsPrefix, WritesText}
use Rattle.gcore.specs.Outcomes.{printed, texts}
use Rattle.gcore.specs.SessionSteps.{HoldsPrinted, IsPrinted, RunsStatementAt, Turn}
use Rattle.gcore.specs.declared.stop.Stop.{Stop}
use Rattle.gcore.specs.declared.stop.Stop.TheVariants.{Usage, Unread, TooLarge, Refused, Text, Sorts, Certificate, Rejected, Faulted, Unwritten, OutOfMemory}
use Rattle.gcore.specs.declared.style.Style.{Style}
use Rattle.gcore.proofs.SessionLaws.{known_nothing, same_room}

-- there is an item at a place within a list
pub item_at : {X : Type 0} (xs : List X) (i : ℕ) → i < length xs → (x : X) × (slice_get xs i ≡ Some x)
item_at [] i h = absurd (omega (arith, h))
item_at (x ∷ xs) zero h = (x, refl)
item_at (x ∷ xs) (suc i) h = item_at xs i (omega (arith, h))

module _ (s : Scope) (sts : List (Tree AStatement)) (i : ℕ) (before after : NamedGraphs) (style : Style) where
  -- a told room that holds what is printed holds the text of the graph
  pub printed_room : (room : Option ℕ) (g : PropertyGraph) → i < length sts → IsStepAt s before after sts i (Ok (Some g)) → HoldsPrinted room style s (standing before) sts i → HasRoom room (length (printed style g))
  printed_room room g within step holds = λ x here.
      let item = item_at sts i within in
      let done = step item.0 item.1 in
      subst (λ (h : PropertyGraph). length (printed style h) ≤ x) (sym done.2) (subst (λ t. length t ≤ x) (append-nil (printed style done.0.graph)) (holds x here item.0 done.0 item.1 done.1))

  module _ (places : List Place) (out : Change) (room_before room_later : Option ℕ) where
    abbrev turn : Turn
    turn = record { style = style; before = standing before; after = standing after; out = out; room_before = room_before; room_later = room_later }

    -- the text of a graph is all that its statement prints
    alone : (g h : PropertyGraph) → g ≡ h → printed style g ≡ printed style h ++ []
    alone g h e = ap (printed style) e ∙ sym (append-nil (printed style h))

    -- a statement whose graph was written
    pub prints : (g : PropertyGraph) (result : Result (Unit {0}) Stop) → IsStepAt s before after sts i (Ok (Some g)) → WritesText out (printed style g) result
        → OnOk result (room_later ≡ room_after room_before (length (printed style g))) → OnOk result (out.faults_after ≡ out.faults_before) → RunsStatementAt s places turn sts i result
    prints g (Ok done) step w room calm = λ statement there.
        let d = step statement there in
        let text = alone g d.0.graph d.2 in
        record {
          answer = says.Prints d.0;
          due = d.1;
          well = tt;
          stands = ap standing d.3;
          written = subst (Gains out) text w;
          room = room ∙ ap (λ t. room_after room_before (length t)) text;
          calm = omega (arith, calm);
        }
    prints g (Err Unwritten) step w room calm = λ statement there.
        let d = step statement there in
        record { made = d.0; due = d.1; failed = w.0; begun = subst (GainsPrefix out) (alone g d.0.graph d.2) w.1 }
    prints g (Err OutOfMemory) step w room calm = λ statement there. w
    prints g (Err Usage) step w room calm = absurd w
    prints g (Err (Unread file)) step w room calm = absurd w
    prints g (Err (TooLarge file)) step w room calm = absurd w
    prints g (Err (Refused refusal file)) step w room calm = absurd w
    prints g (Err (Text refusal)) step w room calm = absurd w
    prints g (Err (Sorts rule place)) step w room calm = absurd w
    prints g (Err (Certificate refusal)) step w room calm = absurd w
    prints g (Err (Rejected search rule)) step w room calm = absurd w
    prints g (Err (Faulted fault)) step w room calm = absurd w

  -- what stands behind a statement that names a graph; a query statement names none
  pub view_stands : (statement : Tree AStatement) (made : Made) → Answers s (standing before) statement (says.Names made) → standing (with_view before statement made) ≡ behind (standing before) (says.Names made)
  view_stands (View name query) made due = stands (free_word before.names name.name)
    where
      stands : (word : Option (List ℕ)) → standing (with_named (with_next before made.next) word made.graph) ≡ behind (standing before) (says.Names made)
      stands None = refl
      stands (Some w) = refl
  view_stands (Ask query) made due = absurd (never due.0 due.2)
    where
      never : (o : Result Made Fault) → AnswersAsk o (says.Names made) → ⊥
      never (Ok m) h = cc
      never (Err fault) h = cc

  -- a statement that names a graph writes nothing
  pub names : (places : List Place) (faults : ℕ) (taken : Option (List ℕ)) (room : Option ℕ) → IsStepAt s before after sts i (Ok None)
      → RunsStatementAt s places (record { style = style; before = standing before; after = standing after; out = record { faults_before = faults; faults_after = faults; taken_before = taken; taken_after = taken }; room_before = room; room_later = room }) sts i (Ok tt)
  names places faults taken room step = λ statement there.
      let d = step statement there in
      record {
        answer = says.Names d.0;
        due = d.1;
        well = tt;
        stands = ap standing d.2 ∙ view_stands statement d.0 d.1;
        written = sym (known_nothing taken);
        room = same_room room;
        calm = omega arith;
      }
