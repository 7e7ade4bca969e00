use Rattle.std.proofs.Common.{◌≡◌, ℕ, List, ◌++◌, sym, subst, ◌∙◌}
use Rattle.std.specs.Prelude.{codes}
use Rattle.gcore.specs.Lines.{line, line_of}
use Rattle.gcore.specs.Endings.{Change, Tells}
use Rattle.gcore.specs.declared.stop.Stop.{Stop}
use Rattle.gcore.specs.declared.stop.Stop.TheVariants.{Unread, TooLarge, Text, Sorts, Certificate, Rejected, Faulted, Unwritten, OutOfMemory}
use Rattle.gcore.proofs.report.tell.Goals as goal

-- the line of a stop
told : (change : Change) (stop s : Stop) → stop ≡ s → Tells change (line_of s) → Tells change (line_of stop)
told change stop s e h = subst (λ t. Tells change (line_of t)) (sym e) h

-- a line about a file
of_file : (change : Change) (message text file : List ℕ) → text ≡ file → Tells change (line (message ++ text)) → Tells change (line (message ++ file))
of_file change message text file e h = subst (λ xs. Tells change (line (message ++ xs))) e h

pub returns-in-Unread : goal.returns-in-Unread
returns-in-Unread g c =
    told _ c.args.stop.now (Unread c.in-Unread.file) c.in-Unread.is (of_file _ (codes "cannot read ") _ c.in-Unread.file (c.as_bytes.ensures.value ∙ c.text.ensures) c.tell_line-in-Unread.ensures)

pub returns-in-TooLarge : goal.returns-in-TooLarge
returns-in-TooLarge g c =
    told _ c.args.stop.now (TooLarge c.in-TooLarge.file) c.in-TooLarge.is
    (of_file _ (codes "too large ") _ c.in-TooLarge.file (c.as_bytes-in-TooLarge.ensures.value ∙ c.text-in-TooLarge.ensures) c.tell_line-in-TooLarge.ensures)

pub returns-in-Text : goal.returns-in-Text
returns-in-Text g c = told _ c.args.stop.now (Text c.in-Text.refusal) c.in-Text.is c.tell_text.ensures

pub returns-in-Sorts : goal.returns-in-Sorts
returns-in-Sorts g c = told _ c.args.stop.now (Sorts c.in-Sorts.rule c.in-Sorts.place) c.in-Sorts.is c.tell_sorts.ensures

pub returns-in-Certificate : goal.returns-in-Certificate
returns-in-Certificate g c = told _ c.args.stop.now (Certificate c.in-Certificate.refusal) c.in-Certificate.is c.tell_certificate.ensures

pub returns-in-Rejected : goal.returns-in-Rejected
returns-in-Rejected g c = told _ c.args.stop.now (Rejected c.in-Rejected.search c.in-Rejected.rule) c.in-Rejected.is c.tell_rejected.ensures

pub returns-in-Unwritten : goal.returns-in-Unwritten
returns-in-Unwritten g c = told _ c.args.stop.now Unwritten c.in-Unwritten.is c.tell_line-in-Unwritten.ensures

pub returns-in-OutOfMemory : goal.returns-in-OutOfMemory
returns-in-OutOfMemory g c = told _ c.args.stop.now OutOfMemory c.in-OutOfMemory.is c.tell_line-in-OutOfMemory.ensures

pub returns-in-Faulted : goal.returns-in-Faulted
returns-in-Faulted g c = told _ c.args.stop.now (Faulted c.in-Faulted.fault) c.in-Faulted.is c.tell_fault.ensures
