-- One outcome after another.
use Rattle.std.specs.Prelude.{◌≡◌, Result, Ok, Err}
use Rattle.gc_query.specs.declared.fault.Fault.{Fault}

-- a fault is the outcome of all that it stands in; after anything else comes what is next
abbrev pub Then : {A B : Type 0} → Result A Fault → (A → Result B Fault → Type 0) → Result B Fault → Type 0
Then (Err fault) next outcome = outcome ≡ Err fault
Then (Ok x) next outcome = next x outcome
