-- Walks from the source that are found, each with the run by which it is.
use Rattle.std.specs.Prelude.{length, suc, slice_get, ◌≡◌, ◌⊎◌, ℕ, ◌+◌, ◌-◌, ◌<◌, ◌≤◌, ◌^◌, nat_lt, Bool, true, false, ◌&&◌, ◌==◌, List, [], ◌∷◌, ◌++◌, map, Option, Some, None}
use Rattle.std.specs.List.{filter}
use Rattle.gc_base.specs.declared.walk.Step.{Step}
use Rattle.gc_prod.specs.declared.moves.Move.{Move}
use Rattle.gc_prod.specs.declared.moves.Pair.{Pair}
use Rattle.gc_prod.specs.declared.moves.RunMove.{RunMove}
use Rattle.gc_prod.specs.Leading.{pair, target_of, steps_of}
use Rattle.gc_prod.specs.Products.{Setting, moves}
use Rattle.gc_search.specs.Entries.{Entry, entry, AtMost}
use Rattle.gc_search.specs.Passages.{Has, Passage}

-- a walk from the source: the pair at which it arrives, its cost and its steps, and the moves of its run
pub record FoundWalk : Type 0 where
  pub at : Pair
  pub cost : ℕ
  pub steps : List Step
  pub run : List RunMove

-- the edges along some steps
abbrev pub edges_along : List Step → List ℕ
edges_along steps = map (λ step. step.edge) steps

abbrev pub entry_of : FoundWalk → Entry
entry_of a = entry a.cost (edges_along a.steps)

abbrev pub same_pair : Pair → Pair → Bool
same_pair p q = (p.node == q.node) && (p.state == q.state)

-- those of some walks that arrive at a pair
abbrev pub arrivals_at : List FoundWalk → Pair → List FoundWalk
arrivals_at found q = filter (λ a. same_pair a.at q) found

abbrev pub settled_at : List FoundWalk → Pair → List Entry
settled_at found q = map entry_of (arrivals_at found q)

-- a move as a passage, and the passages from a pair
abbrev pub passage : Setting → Move → Passage Pair
passage setting m = record { to = target_of m; cost = m.cost; edges = edges_along (steps_of setting m) }

abbrev pub passages : Setting → Pair → List (Passage Pair)
passages setting p = map (passage setting) (moves setting p.node p.state)

-- the walk that stays at the source
abbrev pub stays_at : ℕ → FoundWalk
stays_at source = record { at = pair source 0; cost = 0; steps = []; run = [] }

-- a walk, and a move behind it; and all that are so by the moves of its pair
abbrev pub extended : Setting → FoundWalk → Move → FoundWalk
extended setting a m = record {
  at = target_of m;
  cost = a.cost + m.cost;
  steps = a.steps ++ steps_of setting m;
  run = a.run ++ record { by = m.by; to = m.state } ∷ [];
}

abbrev pub extensions : Setting → FoundWalk → List Move → List FoundWalk
extensions setting a ms = map (extended setting a) ms

-- those of some moves that lead to pairs at which fewer than k walks are settled
abbrev pub open_moves : List FoundWalk → ℕ → List Move → List Move
open_moves settled k ms = filter (λ m. nat_lt (length (arrivals_at settled (target_of m))) k) ms

-- a test tells the first, or the second
abbrev pub Told : Bool → Type 0 → Type 0 → Type 0
Told true A B = A
Told false A B = B

-- one comes no later than another
abbrev pub NoLater : FoundWalk → FoundWalk → Type 0
NoLater a b = AtMost (entry_of a) (entry_of b)

-- a least one is taken out
pub record TakesLeast (before : List FoundWalk) (taken : FoundWalk) (after : List FoundWalk) : Type 0 where
  pub there : Has before taken
  pub least : (x : FoundWalk) → Has before x → NoLater taken x
  pub kept : (x : FoundWalk) → Has before x → Has after x ⊎ (taken ≡ x)
  pub from : (x : FoundWalk) → Has after x → Has before x
  pub shorter : length before ≡ suc (length after)

-- its edges are those of a walk that is settled at its pair
abbrev pub IsSeen : List FoundWalk → FoundWalk → Type 0
IsSeen settled a = (x : Entry) × Has (settled_at settled a.at) x × (x.edges ≡ edges_along a.steps)

-- there are fewer than k at its pair, and none with its edges; or else there are k, or one with its edges
abbrev pub IsNew : List FoundWalk → ℕ → FoundWalk → Type 0
IsNew settled k a = (length (settled_at settled a.at) < k) × (IsSeen settled a → ⊥)

abbrev pub IsOld : List FoundWalk → ℕ → FoundWalk → Type 0
IsOld settled k a = (k ≤ length (settled_at settled a.at)) ⊎ IsSeen settled a

-- the last walk at its pair has other edges
abbrev pub IsNotLast : List FoundWalk → FoundWalk → Type 0
IsNotLast settled a = (xs : List FoundWalk) (y : FoundWalk) → arrivals_at settled a.at ≡ xs ++ y ∷ [] → edges_along y.steps ≡ edges_along a.steps → ⊥

-- the last of some walks has the cost and the edges of one
abbrev pub IsRepeated : List FoundWalk → FoundWalk → Type 0
IsRepeated walks a = (y : FoundWalk) × (slice_get walks (length walks - 1) ≡ Some y) × (entry_of y ≡ entry_of a)

-- where the edges tell the cost, the last walk of all is looked at, and then the last at the pair; and else all at the pair are
abbrev pub IsUnknown : Bool → List FoundWalk → FoundWalk → Type 0
IsUnknown true settled a = (IsRepeated settled a → ⊥) ⊎ IsNotLast settled a
IsUnknown false settled a = IsSeen settled a → ⊥

abbrev pub IsFree : Bool → List FoundWalk → ℕ → FoundWalk → Type 0
IsFree plain settled k a = (length (settled_at settled a.at) < k) × IsUnknown plain settled a

-- a pair is asked for: the one that is, if one is, and else each
abbrev pub IsAsked : Option Pair → Pair → Type 0
IsAsked None q = Unit {0}
IsAsked (Some target) q = target ≡ q

-- k walks are settled at the pair that is asked for
abbrev pub IsDone : Option Pair → List FoundWalk → ℕ → Type 0
IsDone None settled k = ⊥
IsDone (Some target) settled k = k ≤ length (settled_at settled target)

-- the walk at a place costs so little that it can be extended
abbrev pub IsLowAt : List FoundWalk → ℕ → Type 0
IsLowAt walks place = (a : FoundWalk) → slice_get walks place ≡ Some a → a.cost + 2 ^ 64 ≤ 2 ^ 128
