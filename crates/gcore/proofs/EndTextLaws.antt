-- How a session of which a log is kept comes to a text that is written at its end.
use Rattle.std.proofs.Common.{◌≡◌, ℕ, List, [], map, Option, Result, Ok, Err, sym, ap, subst}
use Rattle.std.specs.Result.{IsErr, IsErrAnd}
use Rattle.gc_cert_text.specs.Certificates.{told}
use Rattle.gc_cert_text.specs.CertificateTexts.{certificate_text}
use Rattle.gc_query.specs.Logs.{Log}
use Rattle.gc_query.specs.declared.log.Wants.{Wants}
use Rattle.gc_query.specs.declared.log.Wants.TheVariants.{Plans, Searches}
use Rattle.gcore.specs.Certifications.{IsCertifiedOver}
use Rattle.gcore.specs.EndTexts.{WritesAtEnd}
use Rattle.gcore.specs.Endings.{Change, GainsNothing, WritesText}
use Rattle.gcore.specs.Explanations.{IsExplainedOver, all_lines}
use Rattle.gcore.specs.LoggedSessions.{HasLog, LogsSession}
use Rattle.gcore.specs.Outcomes.{Request}
use Rattle.gcore.specs.declared.stop.Stop.{Stop}
use Rattle.gcore.specs.declared.stop.Stop.TheVariants.{Usage, Unread, TooLarge, Refused, Text, Sorts, Certificate, Rejected, Faulted, Unwritten, OutOfMemory}

module _ (r : Request) (names : List (Option (List ℕ))) where
  -- the lines of the log explain the session
  pub explained : (log : Log) → HasLog names r Plans log → IsExplainedOver names r (all_lines log.lines)
  explained log h = record { all = h.all; evaluated = h.evaluated; text_is = ap (λ (l : Log). all_lines l.lines) h.gained }

  -- its documents are the certificate of the session
  pub certified : (log : Log) → HasLog names r Searches log → IsCertifiedOver names r (certificate_text (map told log.searches))
  certified log h =
      record {
        all = h.all;
        evaluated = h.evaluated;
        searches = h.gained.0;
        searched = h.gained.1;
        text_is = ap (λ (l : Log). certificate_text (map told l.searches)) h.gained.2;
      }

  module _ (wants : Wants) (IsText : List ℕ → Type 0) where
    -- a session that stops, before anything is written
    pub stopped : (out : Change) → GainsNothing out → (stop : Stop) → LogsSession names r wants (Err stop) → WritesAtEnd IsText r out (Err stop)
    stopped out nothing OutOfMemory h = nothing
    stopped out nothing (Faulted fault) h = (h.0, h.1, h.2, h.3, nothing)
    stopped out nothing Usage h = absurd h
    stopped out nothing (Unread file) h = absurd h
    stopped out nothing (TooLarge file) h = absurd h
    stopped out nothing (Refused refusal file) h = absurd h
    stopped out nothing (Text refusal) h = absurd h
    stopped out nothing (Sorts rule place) h = absurd h
    stopped out nothing (Certificate refusal) h = absurd h
    stopped out nothing (Rejected search rule) h = absurd h
    stopped out nothing Unwritten h = absurd h

module _ (r : Request) (IsText : List ℕ → Type 0) where
  -- what a session that stops answers
  pub session_stops : (out : Change) (result : Result (Unit {0}) Stop) (stop : Stop) → IsErr result → IsErrAnd result (λ refusal. refusal ≡ stop) → WritesAtEnd IsText r out (Err stop) → WritesAtEnd IsText r out result
  session_stops out (Ok done) stop err same h = absurd same
  session_stops out (Err refusal) stop err same h = subst (λ s. WritesAtEnd IsText r out (Err s)) (sym same) h

  -- the text was written
  pub text_written : (text : List ℕ) → IsText text → (out : Change) (result : Result (Unit {0}) Stop) → WritesText out text result → WritesAtEnd IsText r out result
  text_written text e out (Ok done) w = (text, e, w)
  text_written text e out (Err Unwritten) w = (text, e, w.0, w.1)
  text_written text e out (Err OutOfMemory) w = w
  text_written text e out (Err Usage) w = absurd w
  text_written text e out (Err (Unread file)) w = absurd w
  text_written text e out (Err (TooLarge file)) w = absurd w
  text_written text e out (Err (Refused refusal file)) w = absurd w
  text_written text e out (Err (Text refusal)) w = absurd w
  text_written text e out (Err (Sorts rule place)) w = absurd w
  text_written text e out (Err (Certificate refusal)) w = absurd w
  text_written text e out (Err (Rejected search rule)) w = absurd w
  text_written text e out (Err (Faulted fault)) w = absurd w
