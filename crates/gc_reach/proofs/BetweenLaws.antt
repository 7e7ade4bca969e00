-- What is found by going forward along moves, and back along those that are kept.
use Rattle.std.proofs.Common.{◌≡◌, ℕ, ◌*◌, ◌<◌, length, true, List}
use Rattle.std.specs.List.{AllByRecursion, Contains}
use Rattle.gc_automata.specs.Moves.{IsNetwork, IsThere}
use Rattle.gc_prod.specs.declared.moves.Pair.{Pair}
use Rattle.gc_prod.specs.declared.moves.Move.{Move}
use Rattle.gc_prod.specs.Groups.{Grouped, row_of}
use Rattle.gc_prod.specs.Keys.{at_key}
use Rattle.gc_prod.specs.Leading.{pair, target_of, Leads}
use Rattle.gc_prod.specs.Products.{Setting, moves}
use Rattle.gc_prod.proofs.Members.{in_map}
use Rattle.gc_prod.proofs.Networks.{among_all}
use Rattle.gc_reach.specs.declared.turning.Turn.{Turn}
use Rattle.gc_reach.specs.Exploring.{targets, IsLed, IsClosed, AreAll}
use Rattle.gc_reach.specs.Marking.{has_pair}
use Rattle.gc_reach.specs.Numbering.{IsNumbered}
use Rattle.gc_reach.specs.Passing.{AreStepsBetween}
use Rattle.gc_reach.specs.Turning.{turns, before, steps_into}
use Rattle.gc_reach.proofs.FoundLaws.{led_leads}
use Rattle.gc_reach.proofs.ReachedLaws.{passed, marked}
use Rattle.gc_reach.proofs.TurnLaws.{AreKept, found_taken, taken_found, turns_within}
use Rattle.gc_reach.proofs.VisitLaws.{has_contains}

module _ (setting : Setting) (nodes : List ℕ) (width source : ℕ) (pairs : List Pair) (all : AreAll (targets setting) nodes (pair source 0) pairs) where
  -- moves lead from pairs that are reached to such pairs
  reached_all : (p : Pair) → Contains pairs p → (m : Move) → Contains (moves setting p.node p.state) m → Contains pairs (target_of m)
  reached_all p among m by =
      let closed = among_all (IsClosed (targets setting) pairs) pairs p all.closed among in
      has_contains pairs (target_of m) (among_all (λ (q : Pair). has_pair pairs q ≡ true) (targets setting p) (target_of m) closed (in_map target_of (moves setting p.node p.state) m by))

  pub turns_below : AllByRecursion (IsNumbered nodes width) pairs → AllByRecursion (λ t. t.number < length nodes * width) (turns setting nodes width pairs)
  turns_below numbered = turns_within setting nodes width pairs numbered reached_all

module _ (setting : Setting) (nodes : List ℕ) (width source : ℕ) (pairs : List Pair) (kept : Grouped Turn) (all : AreAll (targets setting) nodes (pair source 0) pairs) where
  -- the moves of all pairs that are reached lead to such pairs
  pub kept_are : AllByRecursion (IsNumbered nodes width) pairs → ((key : ℕ) → row_of kept key ≡ at_key (λ t. t.number) key (turns setting nodes width pairs))
      → AreKept setting nodes width pairs kept
  kept_are numbered exact = record {
    exact = exact;
    numbered = numbered;
    reached = reached_all setting nodes width source pairs all;
  }

  module _ (law : IsNetwork setting.network) (begins : IsThere setting.network source) (target state : ℕ) (back : List Pair) where
    pub steps_between : AreKept setting nodes width pairs kept → IsNumbered nodes width (pair target state) → AreAll (before nodes width kept) nodes (pair target state) back
        → AllByRecursion (IsNumbered nodes width) back
        → AreStepsBetween setting (pair source 0) (pair target state) (has_pair pairs (pair target state)) (steps_into setting nodes width kept back)
    steps_between are there behind those =
        let start = pair source 0 in
        let finish = pair target state in
        let first = has_contains pairs start all.found.start in
        let led : (q : Pair) → Contains pairs q → (n : ℕ) × Leads setting n start q =
        λ q h. let l = among_all (IsLed (targets setting) start) pairs q all.found.sound h in (l.0, led_leads setting l.0 start q l.1) in
        record {
          walks = passed setting law nodes source pairs all state target begins;
          walked = marked setting law nodes source pairs all state target;
          sound = found_taken setting nodes width pairs kept are start finish back first there led behind those;
          complete = taken_found setting nodes width pairs kept are start finish back first there led behind those;
        }
