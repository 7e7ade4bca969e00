-- What the bytes after an opening quote say, a run of plain bytes at a time.
use Rattle.std.specs.Prelude.{ℕ, ◌+◌, ◌<◌, List, [], ◌∷◌, ◌++◌, length, take, drop, slice_index}
use Rattle.gc_lex.specs.declared.texts.Stop.{Stop}
use Rattle.gc_lex.specs.declared.texts.Stop.TheVariants as stop
use Rattle.gc_lex.specs.Contents.{Body, Closed, BadEscape, Unclosed, body_of}

-- contents that so many bytes spell, before the rest
abbrev pub run_before : List ℕ → ℕ → Body → Body
run_before run n (Closed contents m) = Closed (run ++ contents) (n + m)
run_before run n (BadEscape m) = BadEscape (n + m)
run_before run n Unclosed = Unclosed

-- what the bytes say whose first run of plain bytes ends at this stop
abbrev pub body_from : ℕ → List ℕ → Stop → Body
body_from quote rest (stop.Quote n) = Closed (take n rest) (n + 1)
body_from quote rest (stop.Escape n c) = run_before (take n rest ++ c ∷ []) (n + 2) (body_of quote (drop (n + 2) rest))
body_from quote rest (stop.BadEscape n) = BadEscape n
body_from quote rest stop.End = Unclosed

-- a stop is within the bytes, and ASCII
abbrev pub IsStopIn : List ℕ → Stop → Type 0
IsStopIn rest (stop.Quote n) = (n < length rest) × (slice_index rest n < 128)
IsStopIn rest (stop.Escape n c) = (n + 1 < length rest) × (slice_index rest n < 128) × (slice_index rest (n + 1) < 128) × (c < 128)
IsStopIn rest (stop.BadEscape n) = n < length rest
IsStopIn rest stop.End = Unit {0}
