-- What is so of every walk that conforms: it goes from node to node, and where it stays it costs nothing.
use Rattle.std.proofs.Common.{◌≡◌, ℕ, zero, suc, ◌+◌, ◌<◌, Bool, true, false, ◌||◌, ◌==◌, ◌⊎◌, inl, inr, List, [], ◌∷◌, ◌++◌, length, map, refl, sym, ap, subst, ◌∙◌, arith, length-append}
use Rattle.std.specs.List.{Contains, list_any}
use Rattle.std.proofs.lemmas.Bool.{eq-eqb}
use Rattle.gc_base.specs.Walks.{end_of}
use Rattle.gc_base.specs.declared.walk.Walk.{Walk}
use Rattle.gc_spec.specs.PropertyGraph.{Node, Edge, node_ids, is_among}
use Rattle.gc_regx.specs.Trees.{Kind, RegexTree, ARegex, ARow, Label, Back, Any, AnyBack, Test, View, Cat, Alt, Star, none, more}
use Rattle.gc_automata.specs.declared.transition.On.{On}
use Rattle.gc_automata.specs.declared.transition.On.TheVariants as on
use Rattle.gc_automata.specs.Moves.{Network, IsNetwork, IsThere, Segment, Goes, GoesAlong, Stays, StaysAt, along, against, joined, stay}
use Rattle.gc_automata.specs.Conformance.{Fact, Facts, Follow, InTurn, OneOf, Moving, Turns, conforms}
use Rattle.gc_automata.proofs.Inclusion.{among_more, among_none}
use Rattle.gc_automata.proofs.WalkLaws.{end_joined, still_end}

pub record IsLawful (network : Network) (P : Fact) : Type 0 where
  pub starts : (w : Walk) (c : ℕ) → P w c → IsThere network w.start
  pub ends : (w : Walk) (c : ℕ) → P w c → IsThere network (end_of w)
  pub free : (w : Walk) (c : ℕ) → w.steps ≡ [] → P w c → c ≡ 0

true_or : (a b : Bool) → a ≡ true → (a || b) ≡ true
true_or a b h = ap (λ x. x || b) h

or_true : (a b : Bool) → b ≡ true → (a || b) ≡ true
or_true true b h = refl
or_true false b h = h

-- a node of a graph is there
first_there : (m : Node) (nodes : List Node) (n : Node) → (Contains nodes n → is_among (node_ids nodes) n.id ≡ true) → (m ≡ n) ⊎ Contains nodes n
    → is_among (node_ids (m ∷ nodes)) n.id ≡ true
first_there m nodes n later (inl same) = true_or (m.id == n.id) _ (eq-eqb m.id n.id (ap (λ (k : Node). k.id) same))
first_there m nodes n later (inr behind) = or_true (m.id == n.id) _ (later behind)

node_there : (nodes : List Node) (n : Node) → Contains nodes n → is_among (node_ids nodes) n.id ≡ true
node_there [] n h = absurd (among_none n h)
node_there (m ∷ nodes) n h = first_there m nodes n (node_there nodes n) (among_more m nodes n h)

stays_lawful : (network : Network) → IsLawful network (Stays network)
stays_lawful network = record {
  starts = λ w c s. s.there;
  ends = λ w c s. subst (IsThere network) (sym (still_end w s.still)) s.there;
  free = λ w c still s. s.free;
}

-- a walk along an edge goes from one of its ends to the other
edge_lawful : (network : Network) (way : Edge → Walk) (Fits : Edge → Type 0)
    → ((e : Edge) → Contains network.graph.edges e → IsThere network (way e).start × IsThere network (end_of (way e)) × (0 < length (way e).steps))
    → IsLawful network (GoesAlong network way Fits)
edge_lawful network way Fits ends = record {
  starts = λ w c g. subst (λ (v : Walk). IsThere network v.start) (sym g.goes) (ends g.edge g.there).0;
  ends = λ w c g. subst (λ (v : Walk). IsThere network (end_of v)) (sym g.goes) (ends g.edge g.there).1;
  free = λ w c still g.
      let moves : 0 < length w.steps = subst (λ (v : Walk). 0 < length v.steps) (sym g.goes) (ends g.edge g.there).2 in
      absurd (omega (arith, moves, ap length still));
}

node_lawful : (network : Network) (label : List ℕ) → IsLawful network (StaysAt network label)
node_lawful network label = record {
  starts = λ w c s. subst (λ (v : Walk). IsThere network v.start) (sym s.still) (node_there network.graph.nodes s.node s.there);
  ends = λ w c s. subst (λ (v : Walk). IsThere network (end_of v)) (sym s.still) (node_there network.graph.nodes s.node s.there);
  free = λ w c still s. s.free;
}

-- a walk along a symbol
pub goes_lawful : (network : Network) → IsNetwork network → (label : On) → IsLawful network (Goes network label)
goes_lawful network is on.Empty = stays_lawful network
goes_lawful network is (on.Label l) = edge_lawful network along _ (λ e there. ((is.edges e there).0, (is.edges e there).1, omega arith))
goes_lawful network is (on.Back l) = edge_lawful network against _ (λ e there. ((is.edges e there).1, (is.edges e there).0, omega arith))
goes_lawful network is on.Any = edge_lawful network along _ (λ e there. ((is.edges e there).0, (is.edges e there).1, omega arith))
goes_lawful network is on.AnyBack = edge_lawful network against _ (λ e there. ((is.edges e there).1, (is.edges e there).0, omega arith))
goes_lawful network is (on.Test l) = node_lawful network l
goes_lawful network is (on.View v) = record {
  starts = λ w c s. (is.segments (record { view = v; walk = w; cost = c }) s).1;
  ends = λ w c s. (is.segments (record { view = v; walk = w; cost = c }) s).2;
  free = λ w c still s. absurd (omega (arith, (is.segments (record { view = v; walk = w; cost = c }) s).0, ap length still));
}

-- one part and then another
both_still : (first second w : Walk) → w ≡ joined first second → w.steps ≡ [] → (length first.steps ≡ 0) × (length second.steps ≡ 0)
both_still first second w whole still =
    let none : length first.steps + length second.steps ≡ 0 =
    sym (length-append first.steps second.steps) ∙ ap (λ (v : Walk). length v.steps) (sym whole) ∙ ap length still in
    (omega (arith, none), omega (arith, none))

no_steps : {X : Type 0} (xs : List X) → length xs ≡ 0 → xs ≡ []
no_steps [] h = refl
no_steps (x ∷ xs) h = absurd (omega (arith, h))

follow_lawful : (network : Network) (P Q : Fact) → IsLawful network P → IsLawful network Q → IsLawful network (Follow P Q)
follow_lawful network P Q p q = record {
  starts = λ w c f. subst (λ (v : Walk). IsThere network v.start) (sym f.whole) (p.starts f.first f.first_cost f.early);
  ends = λ w c f. subst (IsThere network) (sym (ap end_of f.whole ∙ end_joined f.first f.second f.meets)) (q.ends f.second f.second_cost f.late);
  free = λ w c still f.
      let none = both_still f.first f.second w f.whole still in
      let early = p.free f.first f.first_cost (no_steps f.first.steps none.0) f.early in
      let late = q.free f.second f.second_cost (no_steps f.second.steps none.1) f.late in
      omega (arith, early, late, f.cost);
}

moving_lawful : (network : Network) (P : Fact) → IsLawful network P → IsLawful network (Moving P)
moving_lawful network P p = record {
  starts = λ w c h. p.starts w c h.1;
  ends = λ w c h. p.ends w c h.1;
  free = λ w c still h. p.free w c still h.1;
}

pub turns_lawful : (network : Network) (P : Fact) → IsLawful network P → (n : ℕ) → IsLawful network (Turns network P n)
turns_lawful network P p zero = stays_lawful network
turns_lawful network P p (suc n) = follow_lawful network (Moving P) (Turns network P n) (moving_lawful network P p) (turns_lawful network P p n)

-- each fact of a list
unfoldable pub AreLawful : Network → List Fact → Type 0
AreLawful network [] = Unit {0}
AreLawful network (P ∷ facts) = IsLawful network P × AreLawful network facts

turn_lawful : (network : Network) (facts : List Fact) → AreLawful network facts → IsLawful network (InTurn facts)
unfolding AreLawful
turn_lawful network [] all = record { starts = λ w c h. absurd h; ends = λ w c h. absurd h; free = λ w c still h. absurd h }
turn_lawful network (P ∷ []) all = all.0
turn_lawful network (P ∷ Q ∷ facts) all = follow_lawful network P (InTurn (Q ∷ facts)) all.0 (turn_lawful network (Q ∷ facts) all.1)

one_lawful : (network : Network) (facts : List Fact) → AreLawful network facts → IsLawful network (OneOf facts)
unfolding AreLawful
one_lawful network [] all = record { starts = λ w c h. absurd h; ends = λ w c h. absurd h; free = λ w c still h. absurd h }
one_lawful network (P ∷ facts) all =
    let later = one_lawful network facts all.1 in
    record {
      starts = λ w c h. start w c later h;
      ends = λ w c h. end w c later h;
      free = λ w c still h. none w c still later h;
    }
  where
    start : (w : Walk) (c : ℕ) → IsLawful network (OneOf facts) → P w c ⊎ OneOf facts w c → IsThere network w.start
    start w c later (inl h) = all.0.starts w c h
    start w c later (inr h) = later.starts w c h

    end : (w : Walk) (c : ℕ) → IsLawful network (OneOf facts) → P w c ⊎ OneOf facts w c → IsThere network (end_of w)
    end w c later (inl h) = all.0.ends w c h
    end w c later (inr h) = later.ends w c h

    none : (w : Walk) (c : ℕ) → w.steps ≡ [] → IsLawful network (OneOf facts) → P w c ⊎ OneOf facts w c → c ≡ 0
    none w c still later (inl h) = all.0.free w c still h
    none w c still later (inr h) = later.free w c still h

star_lawful : (network : Network) (P : Fact) → IsLawful network P → IsLawful network (λ w c. (n : ℕ) × Turns network P n w c)
star_lawful network P p = record {
  starts = λ w c h. (turns_lawful network P p h.0).starts w c h.1;
  ends = λ w c h. (turns_lawful network P p h.0).ends w c h.1;
  free = λ w c still h. (turns_lawful network P p h.0).free w c still h.1;
}

unfoldable pub Lawful : Network → (k : Kind) → Facts k → Type 0
Lawful network ARegex P = IsLawful network P
Lawful network ARow facts = AreLawful network facts

pub conforms_lawful : (network : Network) → IsNetwork network → {k : Kind} (tree : RegexTree k) → Lawful network k (conforms network tree)
unfolding Lawful AreLawful conforms
conforms_lawful network is (Label l) = goes_lawful network is (on.Label l)
conforms_lawful network is (Back l) = goes_lawful network is (on.Back l)
conforms_lawful network is Any = goes_lawful network is on.Any
conforms_lawful network is AnyBack = goes_lawful network is on.AnyBack
conforms_lawful network is (Test l) = goes_lawful network is (on.Test l)
conforms_lawful network is (View v) = goes_lawful network is (on.View v)
conforms_lawful network is (Cat parts) = turn_lawful network (conforms network parts) (conforms_lawful network is parts)
conforms_lawful network is (Alt parts) = one_lawful network (conforms network parts) (conforms_lawful network is parts)
conforms_lawful network is (Star part) = star_lawful network (conforms network part) (conforms_lawful network is part)
conforms_lawful network is none = tt
conforms_lawful network is (more part parts) = (conforms_lawful network is part, conforms_lawful network is parts)
