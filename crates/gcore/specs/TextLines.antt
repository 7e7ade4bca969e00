-- What is told of a query file that is refused.
use Rattle.std.specs.Prelude.{ℕ, ◌<◌, ◌^◌, List, ◌++◌, codes}
use Rattle.std.specs.Fmt.{decimal}
use Rattle.gc_base.specs.declared.place.Place.{Place}
use Rattle.gcore.specs.declared.text_refusal.TextRefusal.{TextRefusal}
use Rattle.gcore.specs.declared.text_refusal.TextRefusal.TheVariants.{NotUtf8, BadCharacter, OpenText, NumberTooLarge, TooDeep, Syntax}

-- a rule with its code, and the line and the column where a text breaks it
abbrev pub place_text : List ℕ → Place → List ℕ
place_text rule place = rule ++ (codes " " ++ (decimal place.line ++ (codes ":" ++ decimal place.column)))

abbrev pub text_refusal_text : TextRefusal → List ℕ
text_refusal_text (NotUtf8 place) = place_text (codes "L1 NotUtf8") place
text_refusal_text (BadCharacter place) = place_text (codes "L2 BadCharacter") place
text_refusal_text (OpenText place) = place_text (codes "L3 OpenText") place
text_refusal_text (NumberTooLarge place) = place_text (codes "L4 NumberTooLarge") place
text_refusal_text (TooDeep place) = place_text (codes "P1 TooDeep") place
text_refusal_text (Syntax place) = place_text (codes "P2 Syntax") place

-- a place as the machine holds it
abbrev pub IsHeldPlace : Place → Type 0
IsHeldPlace place = (place.line < 2 ^ 64) × (place.column < 2 ^ 64)

-- a refusal as the machine holds it
abbrev pub IsHeldText : TextRefusal → Type 0
IsHeldText (NotUtf8 place) = IsHeldPlace place
IsHeldText (BadCharacter place) = IsHeldPlace place
IsHeldText (OpenText place) = IsHeldPlace place
IsHeldText (NumberTooLarge place) = IsHeldPlace place
IsHeldText (TooDeep place) = IsHeldPlace place
IsHeldText (Syntax place) = IsHeldPlace place
