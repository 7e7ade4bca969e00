-- Moves of a run, replayed.
use Rattle.std.proofs.Common.{◌≡◌, ℕ, Bool, true, false, ◌&&◌, ◌==◌, List, [], ◌∷◌, ◌++◌, ◌⊎◌, ◌||◌, inl, inr, drop}
use Rattle.std.proofs.Common.{◌+◌, Some, refl, sym, ap, subst, ◌∙◌, arith}
use Rattle.std.specs.List.{Contains, list_any, slice_get}
use Rattle.std.proofs.lemmas.Bool.Decides.{nat_tests}
use Rattle.std.proofs.lemmas.List.{append_cancel_left}
use Rattle.gc_base.specs.Walks.{end_of, end_of_steps}
use Rattle.gc_base.specs.declared.walk.Step.{Step}
use Rattle.gc_base.specs.declared.walk.Walk.{Walk}
use Rattle.gc_automata.specs.Moves.{Network}
use Rattle.gc_automata.proofs.Inclusion.{among_more, among_none}
use Rattle.gc_prod.specs.declared.moves.By.{By}
use Rattle.gc_prod.specs.declared.moves.By.TheVariants as by
use Rattle.gc_prod.specs.declared.moves.Move.{Move}
use Rattle.gc_prod.specs.declared.moves.Pair.{Pair}
use Rattle.gc_prod.specs.declared.moves.RunMove.{RunMove}
use Rattle.gc_prod.specs.Leading.{pair, target_of, steps_of}
use Rattle.gc_prod.specs.Products.{Setting, moves}
use Rattle.gc_prod.specs.SymbolHops.{steps_by, segment_steps}
use Rattle.gc_prod.proofs.GoesLaws.{hop_goes}
use Rattle.gc_prod.proofs.HopLists.{left_at}
use Rattle.gc_prod.proofs.LeadLaws.{by_move}
use Rattle.gc_prod.proofs.Members.{here, there}
use Rattle.gc_cert.specs.Runs.{Follows}
use Rattle.gc_check.proofs.Tested.{both, eqb_same}
use Rattle.gc_check.specs.Replays.{same_by, is_move, GoesBy}

-- a walk by its parts
pub walk_is : (w : Walk) (node : ℕ) (steps : List Step) → w.start ≡ node → w.steps ≡ steps → w ≡ record { start = node; steps = steps }
walk_is w node steps start same j = record { start = start j; steps = same j }

-- a move leads to where the steps by it lead
pub move_ends : (setting : Setting) (p : Pair) (m : Move) → Contains (moves setting p.node p.state) m → end_of_steps p.node (steps_of setting m) ≡ m.node
move_ends setting p m among =
    let by = by_move setting p.node p.state m among in
    let first = hop_goes setting.network by.transition.on by.hop by.along in
    let one : first.walk ≡ record { start = p.node; steps = steps_of setting m } =
    walk_is first.walk p.node (steps_of setting m) (first.starts ∙ by.starts) (first.steps ∙ ap (steps_of setting) by.is) in
    ap (λ (w : Walk). end_of w) (sym one) ∙ (first.ends ∙ ap (λ (k : Move). k.node) by.is)

abbrev first_node : List Step → ℕ
first_node [] = 0
first_node (s ∷ steps) = s.node

-- there is one way to go by something along some steps
pub goes_one : (network : Network) (by : By) (node : ℕ) (steps : List Step) (to other : ℕ) (left behind : List Step)
    → GoesBy network by node steps to left → GoesBy network by node steps other behind → (to ≡ other) × (left ≡ behind)
goes_one network by.Nothing node steps to other left behind g h = (sym g.ends ∙ h.ends, sym g.whole ∙ h.whole)
goes_one network (by.Edge e) node steps to other left behind g h =
    let same = sym g.whole ∙ h.whole in (ap first_node same, ap (drop 1) same)
goes_one network (by.Segment i) node steps to other left behind g h =
    (sym g.ends ∙ h.ends, append_cancel_left (segment_steps network.segments i) left behind (sym g.whole ∙ h.whole))

eqb_self : (a : ℕ) → (a == a) ≡ true
eqb_self a = grind (arith, nat_tests)

by_same : (a b : By) → same_by a b ≡ true → a ≡ b
by_same by.Nothing by.Nothing h = refl
by_same by.Nothing (by.Edge f) h = cc
by_same by.Nothing (by.Segment j) h = cc
by_same (by.Edge e) by.Nothing h = cc
by_same (by.Edge e) (by.Edge f) h = ap by.Edge (eqb_same e f h)
by_same (by.Edge e) (by.Segment j) h = cc
by_same (by.Segment i) by.Nothing h = cc
by_same (by.Segment i) (by.Edge f) h = cc
by_same (by.Segment i) (by.Segment j) h = ap by.Segment (eqb_same i j h)

by_self : (a : By) → same_by a a ≡ true
by_self by.Nothing = refl
by_self (by.Edge e) = eqb_self e
by_self (by.Segment i) = eqb_self i

-- an item that passes a test, and that some item does
module _ {X : Type 0} (test : X → Bool) where
  pub some_passes : (xs : List X) (x : X) → Contains xs x → test x ≡ true → list_any test xs ≡ true
  some_passes [] x h is = absurd (among_none x h)
  some_passes (y ∷ xs) x h is = by (some_passes xs x) (among_more y xs x h)
    where
      or_true : (a b : Bool) → b ≡ true → (a || b) ≡ true
      or_true true b k = refl
      or_true false b k = k

      by : (Contains xs x → test x ≡ true → list_any test xs ≡ true) → (y ≡ x) ⊎ Contains xs x → list_any test (y ∷ xs) ≡ true
      by next (inl same) = ap (λ b. b || list_any test xs) (ap test same ∙ is)
      by next (inr behind) = or_true (test y) (list_any test xs) (next behind is)

  pub passing : (xs : List X) → list_any test xs ≡ true → (x : X) × Contains xs x × (test x ≡ true)
  passing [] h = cc
  passing (y ∷ xs) h = by (passing xs) (test y) refl h
    where
      by : (list_any test xs ≡ true → (x : X) × Contains xs x × (test x ≡ true)) → (b : Bool) → test y ≡ b → (b || list_any test xs) ≡ true
          → (x : X) × Contains (y ∷ xs) x × (test x ≡ true)
      by next true is k = (y, here y xs, is)
      by next false is k = let rest = next k in (rest.0, there y xs rest.0 rest.1, rest.2)

-- one move of a run, before the others
module _ (setting : Setting) (p q : Pair) (r : RunMove) (run : List RunMove) (steps : List Step) where
  goes_of : (h : Follows setting p (r ∷ run) q steps) → GoesBy setting.network r.by p.node steps h.0.node h.3
  goes_of h =
      let m = h.0 in
      let by_is : r.by ≡ m.by = ap (λ (x : RunMove). x.by) h.2 in
      record {
        whole = h.4 ∙ ap (λ b. steps_by setting.network b m.node ++ h.3) (sym by_is);
        ends = ap (λ b. end_of_steps p.node (steps_by setting.network b m.node)) by_is ∙ move_ends setting p m h.1;
      }

  follows_goes : Follows setting p (r ∷ run) q steps → (to : ℕ) × (left : List Step) × GoesBy setting.network r.by p.node steps to left
  follows_goes h = (h.0.node, h.3, goes_of h)

  module _ (to : ℕ) (left : List Step) (goes : GoesBy setting.network r.by p.node steps to left) where
    follows_on : list_any (is_move r to) (moves setting p.node p.state) ≡ true → Follows setting (pair to r.to) run q left → Follows setting p (r ∷ run) q steps
    follows_on some rest =
        let found = passing (is_move r to) (moves setting p.node p.state) some in
        let m = found.0 in
        let first = both ((m.state == r.to) && (m.node == to)) (same_by m.by r.by) found.2 in
        let second = both (m.state == r.to) (m.node == to) first.0 in
        let state : m.state ≡ r.to = eqb_same m.state r.to second.0 in
        let node : m.node ≡ to = eqb_same m.node to second.1 in
        let by_is : m.by ≡ r.by = by_same m.by r.by first.1 in (
          m,
          found.1,
          (λ j. record { by = sym by_is j; to = sym state j }),
          left,
          goes.whole ∙ (λ j. steps_by setting.network (sym by_is j) (sym node j) ++ left),
          subst (λ (s : Pair). Follows setting s run q left) (λ j. pair (sym node j) (sym state j)) rest,
        )

    follows_back : Follows setting p (r ∷ run) q steps → Follows setting (pair to r.to) run q left
    follows_back h =
        let one = goes_one setting.network r.by p.node steps to h.0.node left h.3 goes (goes_of h) in
        let state : r.to ≡ h.0.state = ap (λ (x : RunMove). x.to) h.2 in
        subst (λ (s : Pair). Follows setting s run q left) (λ j. pair (sym one.0 j) (sym state j))
        (subst (λ (l : List Step). Follows setting (target_of h.0) run q l) (sym one.1) h.5)

    follows_moves : Follows setting p (r ∷ run) q steps → list_any (is_move r to) (moves setting p.node p.state) ≡ true
    follows_moves h =
        let m = h.0 in
        let one = goes_one setting.network r.by p.node steps to m.node left h.3 goes (goes_of h) in
        let state : (m.state == r.to) ≡ true = subst (λ s. (m.state == s) ≡ true) (sym (ap (λ (x : RunMove). x.to) h.2)) (eqb_self m.state) in
        let node : (m.node == to) ≡ true = subst (λ n. (m.node == n) ≡ true) (sym one.0) (eqb_self m.node) in
        let way : same_by m.by r.by ≡ true = subst (λ b. same_by m.by b ≡ true) (sym (ap (λ (x : RunMove). x.by) h.2)) (by_self m.by) in
        some_passes (is_move r to) (moves setting p.node p.state) m h.1
        (ap (λ b. (b && (m.node == to)) && same_by m.by r.by) state ∙ (ap (λ b. b && same_by m.by r.by) node ∙ way))

-- the same of what is left of a run at a place
module _ (setting : Setting) (p q : Pair) (run : List RunMove) (i : ℕ) (r : RunMove) (at : slice_get run i ≡ Some r) (steps : List Step) where
  opened : Follows setting p (drop i run) q steps → Follows setting p (r ∷ drop (i + 1) run) q steps
  opened h = subst (λ (rs : List RunMove). Follows setting p rs q steps) (left_at run i r at) h

  pub left_goes : Follows setting p (drop i run) q steps → (to : ℕ) × (left : List Step) × GoesBy setting.network r.by p.node steps to left
  left_goes h = follows_goes setting p q r (drop (i + 1) run) steps (opened h)

  module _ (to : ℕ) (left : List Step) (goes : GoesBy setting.network r.by p.node steps to left) where
    pub left_on : true ≡ list_any (is_move r to) (moves setting p.node p.state)
        → Follows setting (pair to r.to) (drop (i + 1) run) q left → Follows setting p (drop i run) q steps
    left_on some h =
        subst (λ (rs : List RunMove). Follows setting p rs q steps) (sym (left_at run i r at))
        (follows_on setting p q r (drop (i + 1) run) steps to left goes (sym some) h)

    pub left_back : Follows setting p (drop i run) q steps → Follows setting (pair to r.to) (drop (i + 1) run) q left
    left_back h = follows_back setting p q r (drop (i + 1) run) steps to left goes (opened h)

    pub left_moves : false ≡ list_any (is_move r to) (moves setting p.node p.state) → Follows setting p (drop i run) q steps → ⊥
    left_moves none h = let some = follows_moves setting p q r (drop (i + 1) run) steps to left goes (opened h) in cc
