-- Readers that may refuse, one after another, and what a function answers of them.
use Rattle.std.specs.Prelude.{◌≡◌, Option, Some, None, Result, Ok, Err, ⊤}
use Rattle.gc_json.specs.declared.fault.Failure.{Failure}
use Rattle.gc_json.specs.declared.fault.Failure.TheVariants.{Refused, Memory}

infixl 10 ◌>>=◌
-- a reader goes on with what the one before it read; the first refusal ends it
abbrev pub ◌>>=◌ : {A B F : Type 0} → Result A F → (A → Result B F) → Result B F
(Ok x) >>= f = f x
(Err e) >>= f = Err e

-- what is there, or else a refusal
abbrev pub or_refused : {A F : Type 0} → F → Option A → Result A F
or_refused f None = Err f
or_refused f (Some x) = Ok x

-- the value that is due, as it is seen, or the refusal that is due; want of memory is free
abbrev pub Gives : {X Y F : Type 0} → (Y → X) → Result X F → Result Y (Failure F) → Type 0
Gives seen due (Ok y) = due ≡ Ok (seen y)
Gives seen due (Err (Refused f)) = due ≡ Err f
Gives seen due (Err Memory) = ⊤
