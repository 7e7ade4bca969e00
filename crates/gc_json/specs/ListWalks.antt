-- What a walk over a list answers, whose text was checked before.
use Rattle.std.specs.Prelude.{◌≡◌, List, ℕ, codes, Option, Some, None, IfSome, Result, Ok, Err, ⊤}
use Rattle.gc_ppg.specs.declared.shape.Kind.{Kind}
use Rattle.gc_ppg.specs.declared.shape.Kind.TheVariants as kind
use Rattle.gc_spec.specs.PropertyGraph.{PropertyGraph}
use Rattle.json.specs.Token.{Token}
use Rattle.gc_json.specs.Entries.{Entries, object_entries}
use Rattle.gc_json.specs.Reading.{Gives}
use Rattle.gc_json.specs.declared.fault.Failure.{Failure}
use Rattle.gc_json.specs.declared.fault.Failure.TheVariants.{Refused, Memory}
use Rattle.gc_json.specs.declared.refusal.GraphRefusal.{GraphRefusal}

-- the key of the list of a kind
abbrev pub list_key : Kind → List ℕ
list_key kind.Node = codes "nodes"
list_key kind.Edge = codes "edges"
list_key kind.Path = codes "paths"

-- where the text is an object, something holds of its entries
abbrev pub OfObject : List Token → (Entries → Type 0) → Type 0
OfObject ts p = (es : Entries) → object_entries ts ≡ Some (Some es) → p es

-- what is due, if anything is; where the text is no JSON, nothing is
abbrev pub GivesDue : {X Y F : Type 0} → (Y → X) → Option (Result X F) → Result Y (Failure F) → Type 0
GivesDue seen None r = ⊤
GivesDue seen (Some due) r = Gives seen due r

-- the graph with the next element and the tokens after it, or the refusal that is due
abbrev pub AddsNext : Option (Result PropertyGraph GraphRefusal × List Token) → Result (Unit {0}) (Failure GraphRefusal) → PropertyGraph → List Token → Type 0
AddsNext due (Ok u) g rest = due ≡ Some (Ok g, rest)
AddsNext due (Err (Refused e)) g rest = IfSome due (λ p. p.0 ≡ Err e)
AddsNext due (Err Memory) g rest = ⊤
