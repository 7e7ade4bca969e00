-- How a call of `check` ends.
use Rattle.std.proofs.Common.{◌≡◌, ℕ, ◌≤◌, List, [], ◌++◌, length, Option, None, Some, Result, Ok, Err, refl, ap, ◌∙◌, arith, inl, inr}
use Rattle.std.specs.Prelude.{IfSome, IsSomeAnd, ◌⊎◌}
use Rattle.std.specs.Option.{ForSome}
use Rattle.gc_base.specs.Faults.{Rose}
use Rattle.gc_base.specs.Files.{Files}
use Rattle.gc_base.specs.Sinks.{HasRoom}
use Rattle.gc_check_text.specs.Outcomes.{IsOutcome}
use Rattle.gc_check_text.specs.declared.refusal.CheckRefusal.{CheckRefusal}
use Rattle.gc_check_text.specs.declared.refusal.CheckRefusal.TheVariants as check
use Rattle.gcore.specs.CertificateLines.{accepted_line}
use Rattle.gcore.specs.Endings.{Answers, Change, GainsNothing, HoldsText, IsCheckedAs, MayBegin, StopsFor, WritesText}
use Rattle.gcore.specs.Outcomes.{Checks, IsToCheck, Task, document_limit, file_due, outcome, then_due}
use Rattle.gcore.specs.Steps.{StopsReading}
use Rattle.gcore.specs.declared.command.Command.{Command}
use Rattle.gcore.specs.declared.command.Command.TheVariants.{Check}
use Rattle.gcore.specs.declared.stop.Stop.{Stop}
use Rattle.gcore.specs.declared.stop.Stop.TheVariants.{Usage, Unread, TooLarge, Refused, Text, Sorts, Certificate, Rejected, Faulted, Unwritten, OutOfMemory}
use Rattle.gcore.proofs.RunLaws.{still}

module _ (document : List ℕ) where
  abbrev command : Option Command
  command = Some (Check document)

  -- what is due, once the document is read or its reading stopped
  due_of : (files : Files) (due : Result (List ℕ) Stop) → file_due files document document_limit ≡ due → outcome command files ≡ then_due due (λ bytes. Ok (Checks bytes))
  due_of files due a = ap (λ d. then_due d (λ bytes. Ok (Checks bytes))) a

  or_rose : (files : Files) (before after : ℕ) (stop : Stop) → (file_due files document document_limit ≡ Err stop) ⊎ Rose before after → (outcome command files ≡ Err stop) ⊎ Rose before after
  or_rose files before after stop (inl due) = inl (due_of files (Err stop) due)
  or_rose files before after stop (inr rose) = inr rose

  -- where the document stops the call, the call stops for that cause
  pub reading_stops : (told : Option Files) (before after faults : ℕ) (taken : Option (List ℕ)) (stop : Stop)
      → StopsReading (record { files = told; faults_before = before; faults_after = after }) document (λ files. file_due files document document_limit) stop
      → StopsFor (record { command = command; files = told; faults_before = before; faults_after = after; out = still faults taken }) stop
  reading_stops told before after faults taken Usage h = absurd h
  reading_stops None before after faults taken (Unread file) h = (h.0, h.1, refl)
  reading_stops (Some files) before after faults taken (Unread file) h = (h.0, or_rose files before after (Unread file) h.1, refl)
  reading_stops None before after faults taken (TooLarge file) h = (h.0, tt, refl)
  reading_stops (Some files) before after faults taken (TooLarge file) h = (h.0, due_of files (Err (TooLarge file)) h.1, refl)
  reading_stops told before after faults taken (Refused refusal file) h = absurd h
  reading_stops told before after faults taken (Text refusal) h = absurd h
  reading_stops told before after faults taken (Sorts rule place) h = absurd h
  reading_stops told before after faults taken (Certificate refusal) h = absurd h
  reading_stops told before after faults taken (Rejected search rule) h = absurd h
  reading_stops told before after faults taken (Faulted fault) h = absurd h
  reading_stops told before after faults taken Unwritten h = absurd h
  reading_stops None before after faults taken OutOfMemory h = tt
  reading_stops (Some files) before after faults taken OutOfMemory h = inl refl

  module _ (told : Option Files) (bytes : List ℕ) (read : IfSome told (λ files. file_due files document document_limit ≡ Ok bytes)) where
    to_check : (o : Option Files) → IfSome o (λ files. file_due files document document_limit ≡ Ok bytes) → IfSome o (λ files. IsToCheck (outcome command files) bytes)
    to_check None h = tt
    to_check (Some files) h = due_of files (Ok bytes) h

    -- a told room holds the line of a document that is accepted
    pub room_holds : (room : Option ℕ) (searches : ℕ) → HoldsText room told command → IsOutcome bytes (Ok searches) → HasRoom room (length (accepted_line searches))
    room_holds room searches h accepted = λ x here. within told x (h x here) (to_check told read)
      where
        within : (o : Option Files) (x : ℕ) → IsSomeAnd o (λ files. (task : Task) (text : List ℕ) → outcome command files ≡ Ok task → MayBegin task text → length text ≤ x)
            → IfSome o (λ files. IsToCheck (outcome command files) bytes) → length (accepted_line searches) ≤ x
        within None x holds is = absurd holds
        within (Some files) x holds is = holds (Checks bytes) (accepted_line searches) is (searches, accepted, refl)

    module _ (before after : ℕ) (out : Change) where
      -- a document that was accepted, and whose line was written
      pub accepted_answers : (searches : ℕ) → IsOutcome bytes (Ok searches) → (result : Result (Unit {0}) Stop) → WritesText out (accepted_line searches) result
          → Answers (record { command = command; files = told; faults_before = before; faults_after = after; out = out }) result
      accepted_answers searches accepted result w = by told (to_check told read) result w
        where
          by : (o : Option Files) → IfSome o (λ files. IsToCheck (outcome command files) bytes) → (result : Result (Unit {0}) Stop) → WritesText out (accepted_line searches) result
              → Answers (record { command = command; files = o; faults_before = before; faults_after = after; out = out }) result
          by None is (Ok done) w = (refl, tt)
          by (Some files) is (Ok done) w = (refl, (Checks bytes, accepted_line searches, is, (searches, accepted, refl), w))
          by None is (Err Unwritten) w = (refl, w.0, tt)
          by (Some files) is (Err Unwritten) w = (refl, w.0, inr (Checks bytes, accepted_line searches, is, (searches, accepted, refl), w.1))
          by None is (Err OutOfMemory) w = tt
          by (Some files) is (Err OutOfMemory) w = inl w
          by o is (Err Usage) w = absurd w
          by o is (Err (Unread file)) w = absurd w
          by o is (Err (TooLarge file)) w = absurd w
          by o is (Err (Refused refusal file)) w = absurd w
          by o is (Err (Text refusal)) w = absurd w
          by o is (Err (Sorts rule place)) w = absurd w
          by o is (Err (Certificate refusal)) w = absurd w
          by o is (Err (Rejected search rule)) w = absurd w
          by o is (Err (Faulted fault)) w = absurd w

    -- a document that was not accepted
    pub checked_as : (answer : Result ℕ CheckRefusal) (before after : ℕ) (out : Change) → IsOutcome bytes answer → IsCheckedAs (record { command = command; files = told; faults_before = before; faults_after = after; out = out }) answer
    checked_as answer before after out is = by told (to_check told read)
      where
        by : (o : Option Files) → IfSome o (λ files. IsToCheck (outcome command files) bytes) → IsCheckedAs (record { command = command; files = o; faults_before = before; faults_after = after; out = out }) answer
        by None asked = tt
        by (Some files) asked = (bytes, asked, is)
