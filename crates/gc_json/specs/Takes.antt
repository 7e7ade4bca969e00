-- What a function answers that takes tokens from a reader.
use Rattle.std.specs.Prelude.{◌≡◌, List, Option, Some, None, Result, Ok, Err, ⊤}
use Rattle.json.specs.Token.{Token}
use Rattle.gc_json.specs.declared.unread.Unread.{Unread}
use Rattle.gc_json.specs.declared.unread.Unread.TheVariants.{NotJson, Memory}

-- what is due, as it is seen, and the tokens after it; want of memory is free
abbrev pub Takes : {X Y : Type 0} → (Y → X) → Option (X × List Token) → Result Y Unread → List Token → Type 0
Takes seen due (Ok y) new = due ≡ Some (seen y, new)
Takes seen due (Err NotJson) new = due ≡ None
Takes seen due (Err Memory) new = ⊤
