-- What is told of a graph file that breaks a rule.
use Rattle.std.specs.Prelude.{ℕ, ◌<◌, ◌^◌, List, ◌∷◌, ◌++◌, codes, ⊤}
use Rattle.std.specs.Fmt.{decimal}
use Rattle.gc_spec.specs.PropertyGraph.{IsId}
use Rattle.gc_json.specs.declared.refusal.GraphRefusal.{GraphRefusal}
use Rattle.gc_json.specs.declared.refusal.GraphRefusal.TheVariants.{NotJson, WrongShape, IdTooLarge, IdTwice, NoEnd, BadWalk, BadLabel, BadName, NotLiteral, Incoherent, TooMany, Memory}
use Rattle.gc_json.specs.declared.refusal.Part.{Part}
use Rattle.gc_json.specs.declared.refusal.Part.TheVariants.{Whole, Nodes, Edges, Paths}
use Rattle.gc_json.specs.declared.refusal.Spot.{Spot}

-- an item of a list, by its index
abbrev pub item_text : List ℕ → ℕ → List ℕ
item_text list index = list ++ (decimal index ++ codes "]")

-- a spot: the file as a whole, or an item of one of its lists
abbrev pub part_text : Part → ℕ → List ℕ
part_text Whole index = codes " file"
part_text Nodes index = item_text (codes " nodes[") index
part_text Edges index = item_text (codes " edges[") index
part_text Paths index = item_text (codes " paths[") index

abbrev pub spot_text : Spot → List ℕ
spot_text spot = part_text spot.part spot.index

-- a rule with its code, and where the file breaks it
abbrev pub refusal_text : GraphRefusal → List ℕ
refusal_text NotJson = codes "G1 NotJson"
refusal_text (WrongShape spot) = codes "G2 WrongShape" ++ spot_text spot
refusal_text (IdTooLarge spot) = codes "G3 IdTooLarge" ++ spot_text spot
refusal_text (IdTwice spot) = codes "G4 IdTwice" ++ spot_text spot
refusal_text (NoEnd spot) = codes "G5 NoEnd" ++ spot_text spot
refusal_text (BadWalk spot) = codes "G6 BadWalk" ++ spot_text spot
refusal_text (BadLabel spot) = codes "G7 BadLabel" ++ spot_text spot
refusal_text (BadName spot) = codes "G8 BadName" ++ spot_text spot
refusal_text (NotLiteral spot) = codes "G9 NotLiteral" ++ spot_text spot
refusal_text (Incoherent spot id) = codes "G10 Incoherent" ++ (spot_text spot ++ 32 ∷ decimal id)
refusal_text TooMany = codes "G11 TooMany"
refusal_text Memory = codes "out of memory"

-- a spot as the machine holds it
abbrev pub IsHeldSpot : Spot → Type 0
IsHeldSpot spot = spot.index < 2 ^ 64

-- a refusal as the machine holds it
abbrev pub IsHeld : GraphRefusal → Type 0
IsHeld NotJson = ⊤
IsHeld (WrongShape spot) = IsHeldSpot spot
IsHeld (IdTooLarge spot) = IsHeldSpot spot
IsHeld (IdTwice spot) = IsHeldSpot spot
IsHeld (NoEnd spot) = IsHeldSpot spot
IsHeld (BadWalk spot) = IsHeldSpot spot
IsHeld (BadLabel spot) = IsHeldSpot spot
IsHeld (BadName spot) = IsHeldSpot spot
IsHeld (NotLiteral spot) = IsHeldSpot spot
IsHeld (Incoherent spot id) = IsHeldSpot spot × IsId id
IsHeld TooMany = ⊤
IsHeld Memory = ⊤
