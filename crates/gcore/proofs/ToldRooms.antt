-- The rooms that suffice for a call which asks for nothing.
use Rattle.std.proofs.Common.{◌≡◌, ◌≤◌, ◌∙◌, ℕ, length, Option, Some, None, Ok, ap, arith, subst, sym}
use Rattle.gc_base.specs.Files.{Files}
use Rattle.gcore.specs.Endings.{HoldsLines, HoldsText, MayStop}
use Rattle.gcore.specs.Lines.{line_of}
use Rattle.gcore.specs.Outcomes.{Task, outcome}
use Rattle.gcore.specs.declared.command.Command.{Command}
use Rattle.gcore.specs.declared.stop.Stop.{Stop}
use Rattle.gcore.specs.declared.stop.Stop.TheVariants.{Usage, Unread, TooLarge, Refused, Text, Sorts, Certificate, Rejected, Faulted, Unwritten, OutOfMemory}

no_task : (files : Files) (task : Task) → outcome None files ≡ Ok task → ⊥
no_task files task h = cc

-- no text is due
pub no_text : (room : Option ℕ) (files : Files) (command : Option Command) → command ≡ None → HoldsText room (Some files) command
no_text room files command none = λ most is task text due may. absurd (no_task files task (sym (ap (λ c. outcome c files) none) ∙ due))

short : (told : Option Files) (stop : Stop) → MayStop told None stop → length (line_of stop) ≤ 21
short told Usage h = omega arith
short told (Unread file) h = absurd (omega (arith, h.1))
short told (TooLarge file) h = absurd (omega (arith, h.1))
short told (Refused refusal file) h = absurd (omega (arith, h.0.1))
short told (Text refusal) h = absurd h.0
short told (Sorts rule place) h = absurd h.0
short told (Certificate refusal) h = absurd h.0
short told (Rejected search rule) h = absurd h.0
short told (Faulted fault) h = absurd h.0
short told Unwritten h = omega arith
short told OutOfMemory h = omega arith

-- a line of 21 bytes may be due, and none that is longer
pub short_lines : (room : ℕ) (told : Option Files) (command : Option Command) → room ≡ 21 → command ≡ None → HoldsLines (Some room) told command
short_lines room told command long none = λ most is stop may.
    let fits = short told stop (subst (λ c. MayStop told c stop) none may) in
    let same : room ≡ most = cc (is) in
    omega (arith, same, long, fits)
