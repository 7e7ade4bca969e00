-- Moves that follow one another are the runs of the automaton, each seen by its ends.
use Rattle.std.proofs.Common.{◌≡◌, ℕ, zero, suc, ◌+◌, true, ◌==◌, List, ◌++◌, ◌⊎◌, inl, inr, refl, sym, ap, subst, ◌∙◌, arith}
use Rattle.std.specs.List.{Contains}
use Rattle.std.proofs.lemmas.Bool.{eq-eqb}
use Rattle.std.proofs.lemmas.Bool.Decides.{nat_tests}
use Rattle.gc_base.specs.Walks.{end_of}
use Rattle.gc_base.specs.declared.walk.Step.{Step}
use Rattle.gc_base.specs.declared.walk.Walk.{Walk}
use Rattle.gc_automata.specs.Moves.{IsNetwork, IsThere, joined, stay}
use Rattle.gc_automata.specs.Runs.{RunsIn}
use Rattle.gc_automata.specs.declared.transition.Transition.{Transition}
use Rattle.std.proofs.lemmas.List.Elements.{Contains-append_left, Contains-append_right, Contains-append_cases}
use Rattle.gc_automata.proofs.Inclusion.{among_none}
use Rattle.gc_automata.proofs.Lawful.{goes_lawful}
use Rattle.gc_automata.proofs.WalkLaws.{end_joined, still_end}
use Rattle.gc_prod.specs.declared.moves.Hop.{Hop}
use Rattle.gc_prod.specs.declared.moves.Move.{Move}
use Rattle.gc_prod.specs.declared.moves.Pair.{Pair}
use Rattle.gc_prod.specs.Keys.{at_key}
use Rattle.gc_prod.specs.Leading.{Leads, IsTaken, pair, target_of, steps_of}
use Rattle.gc_prod.specs.Products.{Setting, Bundle, bundle_of, bundles, leaving, moved, moves, moves_by}
use Rattle.gc_prod.specs.SymbolHops.{hops}
use Rattle.gc_prod.proofs.GoesLaws.{hop_goes, goes_hop}
use Rattle.gc_prod.proofs.Members.{in_filter, from_filter, in_map, from_map, in_flat_map, from_flat_map}

eqb_same : (a b : ℕ) → (a == b) ≡ true → a ≡ b
eqb_same a b h = grind (arith, nat_tests)

-- a move of a pair goes by a hop along a transition
pub record MovesBy (setting : Setting) (node state : ℕ) (m : Move) : Type 0 where
  pub transition : Transition
  pub among : Contains setting.machine.transitions transition
  pub leaves : transition.from ≡ state
  pub hop : Hop
  pub along : Contains (hops setting.network transition.on) hop
  pub starts : hop.from ≡ node
  pub is : moved transition.to hop ≡ m

pub by_move : (setting : Setting) (node state : ℕ) (m : Move) → Contains (moves setting node state) m → MovesBy setting node state m
by_move setting node state m h =
    let part = from_flat_map moves_by (bundles setting node state) m h in
    let image = from_map (bundle_of setting.network node) (leaving state setting.machine.transitions) part.origin part.among in
    let t = from_filter (λ (u : Transition). u.from == state) setting.machine.transitions image.origin image.among in
    let hop = from_map (moved part.origin.state) part.origin.hops m part.part in
    let there : Contains (at_key (λ h. h.from) node (hops setting.network image.origin.on)) hop.origin =
    subst (λ (b : Bundle). Contains b.hops hop.origin) (sym image.is) hop.among in
    let from = from_filter (λ (g : Hop). g.from == node) (hops setting.network image.origin.on) hop.origin there in
    record {
      transition = image.origin;
      among = t.among;
      leaves = eqb_same image.origin.from state t.passes;
      hop = hop.origin;
      along = from.among;
      starts = eqb_same hop.origin.from node from.passes;
      is = ap (λ (b : Bundle). moved b.state hop.origin) image.is ∙ hop.is;
    }

pub move_by : (setting : Setting) (t : Transition) (h : Hop) → Contains setting.machine.transitions t → Contains (hops setting.network t.on) h → Contains (moves setting h.from t.from) (moved t.to h)
move_by setting t h among along =
    in_flat_map moves_by (bundles setting h.from t.from) (moved t.to h) (record {
      origin = bundle_of setting.network h.from t;
      among = in_map (bundle_of setting.network h.from) (leaving t.from setting.machine.transitions) t
          (in_filter (λ (u : Transition). u.from == t.from) setting.machine.transitions t (record { among = among; passes = eq-eqb t.from t.from refl }));
      part = in_map (moved t.to) (at_key (λ g. g.from) h.from (hops setting.network t.on)) h
          (in_filter (λ (g : Hop). g.from == h.from) (hops setting.network t.on) h (record { among = along; passes = eq-eqb h.from h.from refl }));
    })

-- a move leads to a node
pub move_there : (setting : Setting) → IsNetwork setting.network → (node state : ℕ) (m : Move) → Contains (moves setting node state) m → IsThere setting.network m.node
move_there setting law node state m h =
    let by = by_move setting node state m h in
    let w = hop_goes setting.network by.transition.on by.hop by.along in
    subst (IsThere setting.network) (w.ends ∙ ap (λ (k : Move). k.node) by.is) ((goes_lawful setting.network law by.transition.on).ends w.walk by.hop.cost w.goes)

module _ (setting : Setting) where
  -- the first move of a run, and where it leads
  record First (n from to : ℕ) (w : Walk) (first second : Walk) (state : ℕ) : Type 0 where
    pub move : Move
    pub among : Contains (moves setting w.start from) move
    pub steps : steps_of setting move ≡ first.steps
    pub behind : pair second.start state ≡ target_of move
    pub ends : pair (end_of second) to ≡ pair (end_of w) to
    pub rest : Leads setting n (target_of move) (pair (end_of w) to)

  opened : (n from to : ℕ) (w : Walk) (c : ℕ) → (run : RunsIn setting.network setting.machine.transitions (suc n) from to w c)
      → Leads setting n (pair run.second.start run.transition.to) (pair (end_of run.second) to) → First n from to w run.first run.second run.transition.to
  opened n from to w c run rest =
      let hop = goes_hop setting.network run.transition.on run.first run.first_cost run.early in
      let t = run.transition in
      let start : hop.hop.from ≡ w.start = hop.starts ∙ ap (λ (v : Walk). v.start) (sym run.whole) in
      let here : run.second.start ≡ hop.hop.to = sym run.meets ∙ sym hop.ends in
      let ends : end_of run.second ≡ end_of w = sym (end_joined run.first run.second run.meets) ∙ ap (λ (v : Walk). end_of v) (sym run.whole) in
      record {
        move = moved t.to hop.hop;
        among = subst (λ s. Contains (moves setting w.start s) (moved t.to hop.hop)) run.leaves
            (subst (λ v. Contains (moves setting v t.from) (moved t.to hop.hop)) start (move_by setting t hop.hop run.among hop.along));
        steps = hop.steps;
        behind = ap (λ v. pair v t.to) here;
        ends = ap (λ v. pair v to) ends;
        rest = subst (λ v. Leads setting n (pair hop.hop.to t.to) (pair v to)) ends (subst (λ v. Leads setting n (pair v t.to) (pair (end_of run.second) to)) here rest);
      }

  -- a run is so many moves
  pub run_leads : (n from to : ℕ) (w : Walk) (c : ℕ) → RunsIn setting.network setting.machine.transitions n from to w c → Leads setting n (pair w.start from) (pair (end_of w) to)
  run_leads zero from to w c run = λ j. pair (sym (still_end w run.1.still) j) (run.0 j)
  run_leads (suc n) from to w c run =
      let lead = opened n from to w c run (run_leads n run.transition.to to run.second run.second_cost run.late) in
      (lead.move, lead.among, lead.rest)

  first_move : (n from to : ℕ) (w : Walk) (c : ℕ) → (run : RunsIn setting.network setting.machine.transitions (suc n) from to w c) → First n from to w run.first run.second run.transition.to
  first_move n from to w c run = opened n from to w c run (run_leads n run.transition.to to run.second run.second_cost run.late)

  -- some moves, by which a walk goes
  pub record PassedIn (n : ℕ) (p q : Pair) : Type 0 where
    pub walk : Walk
    pub cost : ℕ
    pub runs : RunsIn setting.network setting.machine.transitions n p.state q.state walk cost
    pub starts : walk.start ≡ p.node
    pub ends : end_of walk ≡ q.node

  -- a move before some moves
  record Before (n : ℕ) (p q : Pair) (m : Move) (rest : PassedIn n (target_of m) q) : Type 0 where
    pub passed : PassedIn (suc n) p q
    pub steps : passed.walk.steps ≡ steps_of setting m ++ rest.walk.steps

  before_run : IsNetwork setting.network → (n : ℕ) (p q : Pair) (m : Move) → Contains (moves setting p.node p.state) m → (rest : PassedIn n (target_of m) q) → Before n p q m rest
  before_run law n p q m among rest =
      let by = by_move setting p.node p.state m among in
      let first = hop_goes setting.network by.transition.on by.hop by.along in
      let meets : end_of first.walk ≡ rest.walk.start = first.ends ∙ ap (λ (m : Move). m.node) by.is ∙ sym rest.starts in
      record {
        passed = record {
          walk = joined first.walk rest.walk;
          cost = by.hop.cost + rest.cost;
          runs = record {
            transition = by.transition;
            among = by.among;
            leaves = by.leaves;
            first = first.walk;
            second = rest.walk;
            first_cost = by.hop.cost;
            second_cost = rest.cost;
            early = first.goes;
            late = subst (λ s. RunsIn setting.network setting.machine.transitions n s q.state rest.walk rest.cost) (sym (ap (λ (m : Move). m.state) by.is)) rest.runs;
            meets = meets;
            whole = refl;
            cost = refl;
          };
          starts = first.starts ∙ by.starts;
          ends = end_joined first.walk rest.walk meets ∙ rest.ends;
        };
        steps = ap (λ l. l ++ rest.walk.steps) (first.steps ∙ ap (steps_of setting) by.is);
      }

  pub leads_run : IsNetwork setting.network → (n : ℕ) (p q : Pair) → IsThere setting.network p.node → Leads setting n p q → PassedIn n p q
  leads_run law zero p q there same = record {
    walk = stay p.node;
    cost = 0;
    runs = (ap (λ (r : Pair). r.state) same, record { there = there; still = refl; free = refl });
    starts = refl;
    ends = ap (λ (r : Pair). r.node) same;
  }
  leads_run law (suc n) p q there h =
      (before_run law n p q h.0 h.1 (leads_run law n (target_of h.0) q (move_there setting law p.node p.state h.0 h.1) h.2)).passed

  -- each step of a walk that a run passes is taken on the way of its moves
  pub run_takes : (n from to : ℕ) (w : Walk) (c : ℕ) (s : Step) → RunsIn setting.network setting.machine.transitions n from to w c → Contains w.steps s
      → IsTaken setting (pair w.start from) (pair (end_of w) to) s
  run_takes zero from to w c s run h = absurd (among_none s (subst (λ (l : List Step). Contains l s) run.1.still h))
  run_takes (suc n) from to w c s run h =
      by (run_takes n run.transition.to to run.second run.second_cost s run.late)
      (Contains-append_cases run.first.steps run.second.steps s (subst (λ (v : Walk). Contains v.steps s) run.whole h))
    where
      by : (Contains run.second.steps s → IsTaken setting (pair run.second.start run.transition.to) (pair (end_of run.second) to) s)
          → Contains run.first.steps s ⊎ Contains run.second.steps s → IsTaken setting (pair w.start from) (pair (end_of w) to) s
      by next (inl early) =
          let lead = first_move n from to w c run in
          record {
            before = 0;
            at = pair w.start from;
            move = lead.move;
            after = n;
            leads = refl;
            among = lead.among;
            takes = subst (λ (l : List Step). Contains l s) (sym lead.steps) early;
            rest = lead.rest;
          }
      by next (inr late) =
          let lead = first_move n from to w c run in
          let t = next late in
          record {
            before = suc t.before;
            at = t.at;
            move = t.move;
            after = t.after;
            leads = (lead.move, lead.among, subst (λ (r : Pair). Leads setting t.before r t.at) lead.behind t.leads);
            among = t.among;
            takes = t.takes;
            rest = subst (λ (r : Pair). Leads setting t.after (target_of t.move) r) lead.ends t.rest;
          }

  -- by a step that is taken goes a walk
  pub record TakenBy (p q : Pair) (s : Step) : Type 0 where
    pub count : ℕ
    pub passed : PassedIn count p q
    pub through : Contains passed.walk.steps s

  pub takes_run : IsNetwork setting.network → (n k : ℕ) (p at q : Pair) (m : Move) (s : Step) → IsThere setting.network p.node → Leads setting n p at
      → Contains (moves setting at.node at.state) m → Contains (steps_of setting m) s → Leads setting k (target_of m) q → TakenBy p q s
  takes_run law zero k p at q m s there same among takes rest =
      let here : Contains (moves setting p.node p.state) m = subst (λ (r : Pair). Contains (moves setting r.node r.state) m) (sym same) among in
      let behind = leads_run law k (target_of m) q (move_there setting law p.node p.state m here) rest in
      let whole = before_run law k p q m here behind in
      record {
        count = suc k;
        passed = whole.passed;
        through = subst (λ (l : List Step). Contains l s) (sym whole.steps) (Contains-append_left (steps_of setting m) behind.walk.steps s takes);
      }
  takes_run law (suc n) k p at q m s there h among takes rest =
      let behind = takes_run law n k (target_of h.0) at q m s (move_there setting law p.node p.state h.0 h.1) h.2 among takes rest in
      let whole = before_run law behind.count p q h.0 h.1 behind.passed in
      record {
        count = suc behind.count;
        passed = whole.passed;
        through = subst (λ (l : List Step). Contains l s) (sym whole.steps) (Contains-append_right (steps_of setting h.0) behind.passed.walk.steps s behind.through);
      }
