-- Potentials that no move exceeds: a run costs at least the potential of the pair that it reaches.
use Rattle.std.proofs.Common.{◌≡◌, ℕ, zero, suc, ◌+◌, ◌≤◌, Bool, true, false, cond, ◌==◌, nat_le, List, [], ◌∷◌, ◌⊎◌, inl, inr, Option, Some, None}
use Rattle.std.proofs.Common.{is_some, refl, sym, ap, subst, ◌∙◌, arith}
use Rattle.std.specs.List.{Contains, find, list_all}
use Rattle.std.specs.Option.{option_map, option_map_or}
use Rattle.std.proofs.lemmas.Bool.Decides.{nat_tests}
use Rattle.gc_base.specs.Walks.{end_of}
use Rattle.gc_base.specs.declared.walk.Walk.{Walk}
use Rattle.gc_automata.specs.Runs.{RunsIn}
use Rattle.gc_automata.proofs.Inclusion.{among_more, among_none}
use Rattle.gc_automata.proofs.WalkLaws.{end_joined, still_end}
use Rattle.gc_prod.specs.declared.moves.Move.{Move}
use Rattle.gc_prod.specs.declared.moves.Pair.{Pair}
use Rattle.gc_prod.specs.Leading.{pair, target_of}
use Rattle.gc_prod.specs.Products.{Setting, moved, moves}
use Rattle.gc_prod.proofs.GoesLaws.{goes_hop}
use Rattle.gc_prod.proofs.LeadLaws.{move_by}
use Rattle.gc_prod.proofs.Members.{here, there}
use Rattle.gc_cert.specs.declared.document.Potential.{Potential}
use Rattle.gc_cert.specs.Acceptance.{AreCovered, AreBounded, is_covered, is_bounded}
use Rattle.gc_cert.specs.Potentials.{is_of_pair, potential_of}
use Rattle.gc_check.proofs.Tested.{both, eqb_same}

le_told : (a b : ℕ) → nat_le a b ≡ true → a ≤ b
le_told a b h = grind (arith, nat_tests)

-- what all pass, one does
passes_one : {X : Type 0} (test : X → Bool) (xs : List X) (x : X) → list_all test xs ≡ true → Contains xs x → test x ≡ true
passes_one test [] x all k = absurd (among_none x k)
passes_one test (y ∷ xs) x all k =
    let parts = both (test y) (list_all test xs) all in
    by (passes_one test xs x parts.1) parts.0 (among_more y xs x k)
  where
    by : (Contains xs x → test x ≡ true) → test y ≡ true → (y ≡ x) ⊎ Contains xs x → test x ≡ true
    by next is (inl same) = ap test (sym same) ∙ is
    by next is (inr behind) = next behind

-- a potential of a pair stands in the list
record Stands (potentials : List Potential) (p : Pair) (cost : ℕ) : Type 0 where
  pub item : Potential
  pub among : Contains potentials item
  pub node : item.node ≡ p.node
  pub state : item.state ≡ p.state
  pub is : item.cost ≡ cost

some_same : (a b : ℕ) → Some a ≡ Some b → a ≡ b
some_same a b h = cc

stands : (potentials : List Potential) (p : Pair) (cost : ℕ) → potential_of potentials p ≡ Some cost → Stands potentials p cost
stands [] p cost h = cc
stands (q ∷ potentials) p cost h = by (stands potentials p cost) (is_of_pair p q) refl h
  where
    by : (potential_of potentials p ≡ Some cost → Stands potentials p cost) → (b : Bool) → is_of_pair p q ≡ b
        → option_map (λ (r : Potential). r.cost) (cond b (Some q) (find (is_of_pair p) potentials)) ≡ Some cost → Stands (q ∷ potentials) p cost
    by next true same k =
        let parts = both (q.node == p.node) (q.state == p.state) same in
        record {
          item = q;
          among = here q potentials;
          node = eqb_same q.node p.node parts.0;
          state = eqb_same q.state p.state parts.1;
          is = some_same q.cost cost k;
        }
    by next false differs k =
        let s = next k in
        record { item = s.item; among = there q potentials s.item s.among; node = s.node; state = s.state; is = s.is }

-- a pair has a potential of at most a cost
pub record HasUpTo (potentials : List Potential) (p : Pair) (cost : ℕ) : Type 0 where
  pub potential : ℕ
  pub is : potential_of potentials p ≡ Some potential
  pub small : potential ≤ cost

has_more : (potentials : List Potential) (p q : Pair) (cost most : ℕ) → p ≡ q → cost ≤ most → HasUpTo potentials p cost → HasUpTo potentials q most
has_more potentials p q cost most same less has = record {
  potential = has.potential;
  is = ap (potential_of potentials) (sym same) ∙ has.is;
  small = omega (arith, less, has.small);
}

at_pair : (potentials : List Potential) (p q : Pair) (cost : ℕ) → p ≡ q → potential_of potentials p ≡ Some cost → potential_of potentials q ≡ Some cost
at_pair potentials p q cost same has = ap (potential_of potentials) (sym same) ∙ has

module _ (setting : Setting) (potentials : List Potential) (covered : AreCovered setting potentials)
    (bounded : AreBounded setting potentials) where
  -- one move
  move_bounded : (p : Pair) (cost : ℕ) (m : Move) → potential_of potentials p ≡ Some cost → Contains (moves setting p.node p.state) m
      → HasUpTo potentials (target_of m) (cost + m.cost)
  move_bounded p cost m has among =
      let s = stands potentials p cost has in
      let here : Contains (moves setting s.item.node s.item.state) m =
      subst (λ n. Contains (moves setting n s.item.state) m) (sym s.node) (subst (λ t. Contains (moves setting p.node t) m) (sym s.state) among) in
      let some = passes_one (is_covered potentials s.item) (moves setting s.item.node s.item.state) m
      (passes_one (λ (q : Potential). list_all (is_covered potentials q) (moves setting q.node q.state)) potentials s.item covered s.among) here in
      let most = passes_one (is_bounded potentials s.item) (moves setting s.item.node s.item.state) m
      (passes_one (λ (q : Potential). list_all (is_bounded potentials q) (moves setting q.node q.state)) potentials s.item bounded s.among) here in
      by (potential_of potentials (target_of m)) refl some
      (subst (λ c. option_map_or (λ to. nat_le to (c + m.cost)) (potential_of potentials (target_of m)) true ≡ true) s.is most)
    where
      by : (o : Option ℕ) → potential_of potentials (target_of m) ≡ o → is_some o ≡ true → option_map_or (λ to. nat_le to (cost + m.cost)) o true ≡ true
          → HasUpTo potentials (target_of m) (cost + m.cost)
      by None is some most = cc
      by (Some to) is some most = record { potential = to; is = is; small = le_told to (cost + m.cost) most }

  -- a run
  pub run_bounded : (n from to : ℕ) (w : Walk) (c cost : ℕ) → RunsIn setting.network setting.machine.transitions n from to w c
      → potential_of potentials (pair w.start from) ≡ Some cost → HasUpTo potentials (pair (end_of w) to) (cost + c)
  run_bounded zero from to w c cost run has = record {
    potential = cost;
    is = ap (potential_of potentials) (λ j. pair (still_end w run.1.still j) (sym run.0 j)) ∙ has;
    small = omega arith;
  }
  run_bounded (suc n) from to w c cost run has =
      let hop = goes_hop setting.network run.transition.on run.first run.first_cost run.early in
      let t = run.transition in
      let m : Move = moved t.to hop.hop in
      let start : hop.hop.from ≡ w.start = hop.starts ∙ ap (λ (v : Walk). v.start) (sym run.whole) in
      let among : Contains (moves setting w.start from) m =
      subst (λ s. Contains (moves setting w.start s) m) run.leaves
      (subst (λ v. Contains (moves setting v t.from) m) start (move_by setting t hop.hop run.among hop.along)) in
      let one = move_bounded (pair w.start from) cost m has among in
      let node : hop.hop.to ≡ run.second.start = hop.ends ∙ run.meets in
      let rest = run_bounded n t.to to run.second run.second_cost one.potential run.late
      (at_pair potentials (target_of m) (pair run.second.start t.to) one.potential (ap (λ v. pair v t.to) node) one.is) in
      let ends : end_of run.second ≡ end_of w = sym (end_joined run.first run.second run.meets) ∙ ap (λ (v : Walk). end_of v) (sym run.whole) in
      has_more potentials (pair (end_of run.second) to) (pair (end_of w) to) (one.potential + run.second_cost) (cost + c) (ap (λ v. pair v to) ends)
      (omega (arith, one.small, hop.cost, run.cost)) rest
