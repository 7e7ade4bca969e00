-- The walks of a document that is accepted are the shortest.
use Rattle.std.proofs.Common.{◌≡◌, ℕ, suc, ◌+◌, ◌-◌, true, false, ◌==◌, List, [], ◌∷◌, ◌++◌, Option, Some, None, refl, sym, ap, subst, ◌∙◌, arith}
use Rattle.std.specs.List.{AllByRecursion, Contains, list_all}
use Rattle.std.specs.Option.{option_map_or}
use Rattle.std.proofs.lemmas.List.Sums.{sum_by-cons}
use Rattle.gc_base.specs.declared.walk.Step.{Step}
use Rattle.gc_base.specs.declared.walk.Walk.{Walk}
use Rattle.gc_automata.specs.Machines.{IsAutomatonOf}
use Rattle.gc_automata.specs.Moves.{IsNetwork, IsThere, joined}
use Rattle.gc_automata.specs.Runs.{RunsIn}
use Rattle.gc_regx.specs.Expressions.{HasParts}
use Rattle.gc_regx.specs.Trees.{RegexTree, ARegex}
use Rattle.gc_regx.specs.Views.{regex_tree}
use Rattle.gc_prod.specs.declared.moves.Move.{Move}
use Rattle.gc_prod.specs.declared.moves.Pair.{Pair}
use Rattle.gc_prod.specs.declared.moves.RunMove.{RunMove}
use Rattle.gc_prod.specs.Leading.{pair, target_of, steps_of}
use Rattle.gc_prod.specs.Products.{Setting, moves}
use Rattle.gc_prod.proofs.GoesLaws.{hop_goes}
use Rattle.gc_prod.proofs.LeadLaws.{by_move, move_there}
use Rattle.gc_cert.specs.declared.document.Potential.{Potential}
use Rattle.gc_cert.specs.declared.document.SearchDoc.{SearchDoc}
use Rattle.gc_cert.specs.declared.document.WalkDoc.{WalkDoc}
use Rattle.gc_cert.specs.Acceptance.{Accepts, IsPassed, IsProductOf, network_of, end_pair, AreCovered, AreBounded, is_least}
use Rattle.gc_cert.specs.Potentials.{potential_of}
use Rattle.gc_cert.specs.Runs.{Follows, cost_by, run_cost}
use Rattle.gc_cert.specs.Shortest.{IsShortest}
use Rattle.gc_check.proofs.Bounds.{run_bounded}
use Rattle.gc_check.proofs.Conforming.{run_conforms, conforms_run}
use Rattle.gc_check.proofs.Following.{walk_is}
use Rattle.gc_check.proofs.HopPrices.{move_priced}
use Rattle.gc_check.proofs.Tested.{both, eqb_same}

module _ (setting : Setting) (law : IsNetwork setting.network) where
  -- a run of the automaton, by some steps and at a cost
  record Ran (p q : Pair) (steps : List Step) (cost : ℕ) : Type 0 where
    pub count : ℕ
    pub runs : RunsIn setting.network setting.machine.transitions count p.state q.state (record { start = p.node; steps = steps }) cost

  -- a move before a run
  ran_more : (p q : Pair) (m : Move) (steps : List Step) (cost : ℕ) → Contains (moves setting p.node p.state) m → Ran (target_of m) q steps cost
      → Ran p q (steps_of setting m ++ steps) (m.cost + cost)
  ran_more p q m steps cost among rest =
      let by = by_move setting p.node p.state m among in
      let first = hop_goes setting.network by.transition.on by.hop by.along in
      let one : first.walk ≡ record { start = p.node; steps = steps_of setting m } =
      walk_is first.walk p.node (steps_of setting m) (first.starts ∙ by.starts) (first.steps ∙ ap (steps_of setting) by.is) in
      let second : Walk = record { start = m.node; steps = steps } in
      let cost_is : by.hop.cost ≡ m.cost = ap (λ (k : Move). k.cost) by.is in
      record {
        count = suc rest.count;
        runs = record {
          transition = by.transition;
          among = by.among;
          leaves = by.leaves;
          first = first.walk;
          second = second;
          first_cost = by.hop.cost;
          second_cost = cost;
          early = first.goes;
          late = subst (λ s. RunsIn setting.network setting.machine.transitions rest.count s q.state second cost)
              (sym (ap (λ (k : Move). k.state) by.is)) rest.runs;
          meets = first.ends ∙ ap (λ (k : Move). k.node) by.is;
          whole = ap (λ (u : Walk). joined u second) (sym one);
          cost = ap (λ n. n + cost) (sym cost_is);
        };
      }

  -- moves that follow one another are a run, at what they cost
  follows_ran : (run : List RunMove) (p q : Pair) (steps : List Step) → IsThere setting.network p.node → Follows setting p run q steps
      → Ran p q steps (run_cost setting.network.segments run)
  follows_ran [] p q steps begins h = record {
    count = 0;
    runs = (ap (λ (r : Pair). r.state) h.0, record { there = begins; still = h.1; free = refl });
  }
  follows_ran (r ∷ run) p q steps begins h =
      let m = h.0 in
      let rest = follows_ran run (target_of m) q h.3 (move_there setting law p.node p.state m h.1) h.5 in
      let more = ran_more p q m h.3 (run_cost setting.network.segments run) h.1 rest in
      let first : run_cost setting.network.segments (r ∷ run) ≡ cost_by setting.network.segments r.by + run_cost setting.network.segments run =
      sum_by-cons (λ (x : RunMove). cost_by setting.network.segments x.by) r run in
      let price = first ∙ ap (λ c. c + run_cost setting.network.segments run)
      (ap (λ (x : RunMove). cost_by setting.network.segments x.by) h.2 ∙ move_priced setting p.node p.state m h.1) in
      subst (λ c. Ran p q steps c) (sym price) (subst (λ (l : List Step). Ran p q l (m.cost + run_cost setting.network.segments run)) (sym h.4) more)

  module _ (potentials : List Potential) (covered : AreCovered setting potentials)
      (bounded : AreBounded setting potentials) (start : ℕ) (there : IsThere setting.network start)
      (free : potential_of potentials (pair start 0) ≡ Some 0) (tree : RegexTree ARegex) (parts : HasParts tree) (is : IsAutomatonOf tree setting.machine) where
    some_same : (a b : ℕ) → Some a ≡ Some b → a ≡ b
    some_same a b h = cc

    known : (o : Option ℕ) (n c : ℕ) → o ≡ Some n → option_map_or (λ k. k == c) o false ≡ true → c ≡ n
    known None n c has test = cc
    known (Some k) n c has test = sym (eqb_same k c test) ∙ some_same k n has

    -- one walk
    shortest : (w : WalkDoc) → IsPassed setting start w → is_least setting potentials w ≡ true → IsShortest setting.network tree start w.walk w.cost
    shortest w passed least =
        let told = both (run_cost setting.network.segments w.run == w.cost)
        (option_map_or (λ c. c == w.cost) (potential_of potentials (end_pair setting w)) false) least in
        let ran = follows_ran w.run (pair start 0) (end_pair setting w) w.walk.steps there passed.follows in
        let walk : record { start = start; steps = w.walk.steps } ≡ w.walk = sym (walk_is w.walk start w.walk.steps passed.begins refl) in
        let last = setting.machine.states - 1 in
        let cost = run_cost setting.network.segments w.run in
        let runs = subst (λ c. RunsIn setting.network setting.machine.transitions ran.count 0 last w.walk c) (eqb_same cost w.cost told.0)
        (subst (λ (v : Walk). RunsIn setting.network setting.machine.transitions ran.count 0 last v cost) walk ran.runs) in
        record {
          begins = passed.begins;
          conforms = run_conforms setting.network law setting.machine tree is parts w.walk w.cost (ran.count, runs);
          least = λ other cost begins ends conforms.
              let run = conforms_run setting.network law setting.machine tree is other cost conforms in
              let most = run_bounded setting potentials covered bounded run.0 0 (setting.machine.states - 1) other cost 0 run.1
              (ap (λ n. potential_of potentials (pair n 0)) begins ∙ free) in
              let at : potential_of potentials (end_pair setting w) ≡ Some most.potential =
              ap (λ n. potential_of potentials (pair n (setting.machine.states - 1))) (sym ends) ∙ most.is in
              let same : w.cost ≡ most.potential = known (potential_of potentials (end_pair setting w)) most.potential w.cost at told.1 in
              omega (arith, same, most.small);
        }

    -- all of some walks
    all_shortest : (walks : List WalkDoc) → AllByRecursion (IsPassed setting start) walks → list_all (is_least setting potentials) walks ≡ true
        → AllByRecursion (λ w. IsShortest setting.network tree start w.walk w.cost) walks
    all_shortest [] passed least = tt
    all_shortest (w ∷ walks) passed least =
        let parts = both (is_least setting potentials w) (list_all (is_least setting potentials) walks) least in
        (shortest w passed.0 parts.0, all_shortest walks passed.1 parts.1)

pub accepted_shortest : (d : SearchDoc) (setting : Setting) → IsProductOf d setting → IsNetwork (network_of d) → HasParts (regex_tree d.expression)
    → Accepts d setting
    → AllByRecursion (λ w. IsShortest (network_of d) (regex_tree d.expression) d.start w.walk w.cost) d.walks
accepted_shortest d setting product law parts accepts =
    let own : IsNetwork setting.network = subst IsNetwork (sym product.network) law in
    subst (λ network. AllByRecursion (λ (w : WalkDoc). IsShortest network (regex_tree d.expression) d.start w.walk w.cost) d.walks) product.network
    (all_shortest setting own d.potentials accepts.covered accepts.bounded d.start accepts.begins.there accepts.begins.free
    (regex_tree d.expression) parts product.automaton d.walks accepts.passed accepts.least)
