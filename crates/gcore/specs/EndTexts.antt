-- A text that is written at the end of a session: the lines that explain it, or its certificate.
use Rattle.std.specs.Prelude.{ℕ, ◌≤◌, List, length, Option, Result, Ok, Err}
use Rattle.std.specs.Option.{ForSome}
use Rattle.gcore.specs.Endings.{Change, EndsSilently, Failed, Gains, GainsNothing, GainsPrefix}
use Rattle.gcore.specs.Outcomes.{Request}
use Rattle.gcore.specs.declared.stop.Stop.{Stop}
use Rattle.gcore.specs.declared.stop.Stop.TheVariants.{Faulted, OutOfMemory, Unwritten}

-- a text of the session of a request was written at its end; or the session ended at a fault, and nothing was; or the output failed behind
-- the beginning of such a text, or memory was wanting before
abbrev pub WritesAtEnd : (IsText : List ℕ → Type 0) → Request → Change → Result (Unit {0}) Stop → Type 0
WritesAtEnd IsText r out (Ok done) = (text : List ℕ) × IsText text × Gains out text
WritesAtEnd IsText r out (Err (Faulted fault)) = EndsSilently r out (Faulted fault)
WritesAtEnd IsText r out (Err Unwritten) = (text : List ℕ) × IsText text × Failed out × GainsPrefix out text
WritesAtEnd IsText r out (Err OutOfMemory) = GainsNothing out
WritesAtEnd IsText r out (Err stop) = ⊥

-- a told room holds each such text
abbrev pub HoldsAtEnd : Option ℕ → (IsText : List ℕ → Type 0) → Type 0
HoldsAtEnd room IsText = ForSome room (λ most. (text : List ℕ) → IsText text → length text ≤ most)
