-- What a function answers that looks for a value.
use Rattle.std.specs.Prelude.{◌≡◌, Bool, true, false, Option, Some, None, Result, Ok, Err, ⊤}
use Rattle.json.specs.declared.reader.Invalid.{Invalid}
use Rattle.serde_json.specs.Data.{Data}

-- the value that is due is here, or none is due; where the text is no JSON, nothing is said
abbrev pub Finds : Option (Option Data) → Result Bool Invalid → Option Data → Type 0
Finds None r here = ⊤
Finds (Some due) (Ok true) None = ⊥
Finds (Some due) (Ok true) (Some d) = due ≡ Some d
Finds (Some due) (Ok false) here = due ≡ None
Finds (Some due) (Err e) here = ⊥
