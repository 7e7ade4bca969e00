-- The numbers of a certificate: costs are texts, and all others are whole numbers.
use Rattle.std.specs.Prelude.{ℕ, ◌^◌, ◌&&◌, ◌==◌, Bool, true, false, not, if◌then◌else◌, nat_lt, nat_le, List, [], ◌∷◌, codes, Option, Some, None}
use Rattle.std.specs.Option.{is_some}
use Rattle.std.specs.Str.{all_ascii_digits}
use Rattle.std.specs.Str.Parse.{digits_value}
use Rattle.gc_base.specs.declared.walk.Step.{Step}
use Rattle.gc_base.specs.declared.walk.Walk.{Walk}
use Rattle.gc_cert.specs.declared.document.Potential.{Potential}
use Rattle.gc_cert.specs.declared.document.WalkDoc.{WalkDoc}
use Rattle.gc_prod.specs.declared.moves.By.{By}
use Rattle.gc_prod.specs.declared.moves.By.TheVariants as by
use Rattle.gc_prod.specs.declared.moves.RunMove.{RunMove}
use Rattle.serde_json.specs.Data.{Data}
use Rattle.serde_json.specs.Find.{get, at, as_str}
use Rattle.gc_json.specs.JsonValues.{id_of}
use Rattle.gc_json.specs.WalkItems.{number_of, walk_of}
use Rattle.gc_cert_text.specs.Options.{◌>>=◌, array_at, found, list_at}
use Rattle.gc_cert_text.specs.Shapes.{each_is, has_array}

-- whether digits have no zero before others
abbrev pub is_unpadded : List ℕ → Bool
is_unpadded [] = false
is_unpadded (c ∷ []) = true
is_unpadded (c ∷ e ∷ cs) = not (c == 48)

-- a cost is below 2^127
abbrev pub cost_below : ℕ → Option ℕ
cost_below c = if nat_lt c (2 ^ 127) then Some c else None

-- the cost of a text: decimal digits without a zero before others
abbrev pub cost_of_text : List ℕ → Option ℕ
cost_of_text text = if is_unpadded text && all_ascii_digits text then cost_below (digits_value 10 text) else None

abbrev pub cost_in : Data → Option ℕ
cost_in d = as_str d >>= cost_of_text

-- an identity
abbrev pub id_in : Data → Option ℕ
id_in d = number_of d >>= id_of

-- a state, or the number of a segment
abbrev pub small_of : ℕ → Option ℕ
small_of n = if nat_le n 4294967295 then Some n else None

abbrev pub small_in : Data → Option ℕ
small_in d = number_of d >>= small_of

-- a potential: a node, a state and a cost
abbrev pub potential_in : Data → Option Potential
potential_in d =
    at 0 d >>= id_in >>= λ node. at 1 d >>= small_in >>= λ state. at 2 d >>= cost_in
    >>= λ cost. Some (record { node = node; state = state; cost = cost })

-- a walk from a node by steps
abbrev pub from_node : ℕ → List Step → Walk
from_node start steps = record { start = start; steps = steps }

-- the walk at a key: its nodes and edges in turn
abbrev pub walk_at : List ℕ → Data → Option Walk
walk_at key d = array_at key d >>= λ ds. found (walk_of ds)

-- what a move goes by: an edge, a segment, or nothing
abbrev pub by_of : Option Data → Option Data → Option By
by_of (Some edge) segment = id_in edge >>= λ e. Some (by.Edge e)
by_of None (Some segment) = small_in segment >>= λ i. Some (by.Segment i)
by_of None None = Some by.Nothing

abbrev pub by_in : Data → Option By
by_in d = by_of (get (codes "edge") d) (get (codes "segment") d)

-- a move, with the state that it goes to
abbrev pub move_in : Data → Option RunMove
move_in d = by_in d >>= λ gone. get (codes "to") d >>= small_in >>= λ to. Some (record { by = gone; to = to })

-- a walk with its cost and its run
abbrev pub walk_doc_in : Data → Option WalkDoc
walk_doc_in d =
    get (codes "cost") d >>= cost_in >>= λ cost. list_at move_in (codes "run") d >>= λ run. walk_at (codes "walk") d
    >>= λ walk. Some (record { cost = cost; run = run; walk = walk })

-- whether the numbers of a segment are written as they should: its cost, and the identities of its walk
abbrev pub is_id : Data → Bool
is_id d = is_some (id_in d)

abbrev pub has_segment_numbers : Data → Bool
has_segment_numbers d = is_some (get (codes "cost") d >>= cost_in) && has_array (codes "walk") (each_is is_id) d
