-- Which pairs runs reach, and what a move behind a run costs.
use Rattle.std.proofs.Common.{◌≡◌, ℕ, zero, suc, ◌+◌, ◌<◌, refl, sym, ap, subst, ◌∙◌, arith}
use Rattle.std.specs.List.{Contains}
use Rattle.gc_base.specs.Walks.{end_of}
use Rattle.gc_base.specs.declared.walk.Walk.{Walk}
use Rattle.gc_automata.specs.Machines.{IsAutomatonOf}
use Rattle.gc_automata.specs.Moves.{IsNetwork, IsThere, joined, stay}
use Rattle.gc_automata.specs.Runs.{RunsIn}
use Rattle.gc_automata.proofs.Entering.{then_runs}
use Rattle.gc_automata.proofs.WalkLaws.{end_joined}
use Rattle.gc_regx.specs.Expressions.{HasParts}
use Rattle.gc_regx.specs.Trees.{RegexTree, ARegex}
use Rattle.gc_prod.specs.declared.moves.Move.{Move}
use Rattle.gc_prod.specs.declared.moves.Pair.{Pair}
use Rattle.gc_prod.specs.Leading.{Leads, Passed, pair, target_of}
use Rattle.gc_prod.specs.Products.{Setting, moves}
use Rattle.gc_prod.proofs.GoesLaws.{hop_goes}
use Rattle.gc_prod.proofs.LeadLaws.{by_move, move_there, run_leads}
use Rattle.gc_search.specs.Finding.{IsLeastCost}
use Rattle.gc_cert_searches.proofs.StateRange.{some_state, state_below}

-- a pair is of a node and a state that there are
pub record IsInside (setting : Setting) (q : Pair) : Type 0 where
  pub there : IsThere setting.network q.node
  pub below : q.state < setting.machine.states

module _ (setting : Setting) (law : IsNetwork setting.network) (tree : RegexTree ARegex) (parts : HasParts tree) (is : IsAutomatonOf tree setting.machine) where
  leads_inside : (n : ℕ) (p q : Pair) → IsInside setting p → Leads setting n p q → IsInside setting q
  leads_inside zero p q inside h = subst (IsInside setting) h inside
  leads_inside (suc n) p q inside h =
      let m = h.0 in
      let by = by_move setting p.node p.state m h.1 in
      let to : m.state ≡ by.transition.to = ap (λ (k : Move). k.state) (sym by.is) in
      let below = state_below tree parts setting.machine is by.transition by.among in
      leads_inside n (target_of m) q (record { there = move_there setting law p.node p.state m h.1; below = omega (arith, to, below) }) h.2

  -- what a run reaches is inside
  pub reached_inside : (source : ℕ) → IsThere setting.network source → (q : Pair) → Passed setting (pair source 0) q → IsInside setting q
  reached_inside source begins q passed =
      let begin : IsInside setting (pair passed.walk.start 0) = record { there = subst (IsThere setting.network) (sym passed.starts) begins; below = some_state tree parts setting.machine is } in
      let inside = leads_inside passed.runs.0 (pair passed.walk.start 0) (pair (end_of passed.walk) q.state) begin
      (run_leads setting passed.runs.0 0 q.state passed.walk passed.cost passed.runs.1) in
      record { there = subst (IsThere setting.network) passed.ends inside.there; below = inside.below }

  -- a run with a move behind it
  pub record IsLonger (source : ℕ) (q : Pair) (m : Move) (cost : ℕ) : Type 0 where
    pub passed : Passed setting (pair source 0) (target_of m)
    pub costs : passed.cost ≡ cost + m.cost

  pub move_behind : (source : ℕ) (q : Pair) (m : Move) → (passed : Passed setting (pair source 0) q) → Contains (moves setting q.node q.state) m → IsLonger source q m passed.cost
  move_behind source q m passed among =
      let by = by_move setting q.node q.state m among in
      let first = hop_goes setting.network by.transition.on by.hop by.along in
      let there = move_there setting law q.node q.state m among in
      let state : by.transition.to ≡ m.state = ap (λ (k : Move). k.state) by.is in
      let cost : by.hop.cost ≡ m.cost = ap (λ (k : Move). k.cost) by.is in
      let meets : end_of first.walk ≡ m.node = first.ends ∙ ap (λ (k : Move). k.node) by.is in
      let begins : end_of passed.walk ≡ first.walk.start = passed.ends ∙ sym (first.starts ∙ by.starts) in
      let one : Walk = joined first.walk (stay m.node) in
      let moves_on : RunsIn setting.network setting.machine.transitions (suc zero) q.state m.state one (by.hop.cost + 0) = record {
        transition = by.transition;
        among = by.among;
        leaves = by.leaves;
        first = first.walk;
        second = stay m.node;
        first_cost = by.hop.cost;
        second_cost = 0;
        early = first.goes;
        late = (state, record { there = there; still = refl; free = refl });
        meets = meets;
        whole = refl;
        cost = refl;
      } in
      let whole = then_runs setting.network setting.machine.transitions passed.runs.0 (suc zero) 0 q.state m.state passed.walk one passed.cost (by.hop.cost + 0) passed.runs.1 moves_on begins in
      let ends : end_of (joined passed.walk one) ≡ m.node = end_joined passed.walk one begins ∙ end_joined first.walk (stay m.node) meets in
      record {
        passed = record {
          walk = joined passed.walk one;
          cost = passed.cost + (by.hop.cost + 0);
          runs = (passed.runs.0 + suc zero, whole);
          starts = passed.starts;
          ends = ends;
        };
        costs = omega (arith, cost);
      }

  -- the run that stays
  pub stays : (source : ℕ) → IsThere setting.network source → IsLeastCost setting source (pair source 0) 0
  stays source begins = record {
    some = record { walk = stay source; cost = 0; runs = (zero, (refl, record { there = begins; still = refl; free = refl })); starts = refl; ends = refl };
    reached = refl;
    least = λ other. omega arith;
  }

-- a pair has one least cost
pub one_least : (setting : Setting) (source : ℕ) (q : Pair) (a b : ℕ) → IsLeastCost setting source q a → IsLeastCost setting source q b → a ≡ b
one_least setting source q a b h k = omega (arith, h.reached, k.reached, h.least k.some, k.least h.some)
