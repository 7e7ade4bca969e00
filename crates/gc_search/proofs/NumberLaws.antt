-- The pairs at which walks arrive have numbers: moves lead to nodes, in states below a number.
use Rattle.std.proofs.Common.{◌≡◌, ℕ, suc, ◌*◌, ◌+◌, ◌<◌, ◌==◌, ◌||◌, nat_lt, Bool, true, false, cond, List, [], ◌∷◌, ◌++◌, map, length, Option, Some, None, refl, ap, subst, ◌∙◌}
use Rattle.std.specs.List.{AllByRecursion, flat_map}
use Rattle.std.specs.List.Sorted.{IsPermutation}
use Rattle.std.specs.Option.{option_map}
use Rattle.std.proofs.lemmas.List.Sorted.{IsPermutation-sym}
use Rattle.gc_base.proofs.SetLaws.{AllByRecursion-append}
use Rattle.gc_spec.specs.PropertyGraph.{is_among, node_ids}
use Rattle.gc_automata.specs.Moves.{IsNetwork}
use Rattle.gc_prod.specs.declared.moves.Hop.{Hop}
use Rattle.gc_prod.specs.declared.moves.Move.{Move}
use Rattle.gc_prod.specs.declared.moves.Pair.{Pair}
use Rattle.gc_prod.specs.Leading.{target_of}
use Rattle.gc_prod.specs.Products.{Setting, Bundle, bundles, moved, moves, moves_by}
use Rattle.gc_prod.proofs.LeadLaws.{move_there}
use Rattle.gc_search.specs.Arrivals.{FoundWalk, arrivals_at, extended, extensions, open_moves, TakesLeast}
use Rattle.gc_search.specs.Places.{place_in, number_of, IsNumbered}
use Rattle.gc_search.proofs.Bridge.{contains_of, has_permuted}
use Rattle.gc_search.proofs.Flat.{Has_from_map, Has_filtered}
use Rattle.gc_search.proofs.LoopLaws.{all_has, all_of_has, all_rest}
use Rattle.gc_search.proofs.PlaceLaws.{number_is}

still_some : {X Y : Type 0} (f : X → Y) (o : Option X) → option_map f o ≡ None → o ≡ None
still_some f None h = refl
still_some f (Some x) h = cc

-- a node that is among some has a place
placed : (nodes : List ℕ) (node : ℕ) → is_among nodes node ≡ true → place_in nodes node ≡ None → ⊥
placed [] node h e = cc
placed (x ∷ nodes) node h e = by (placed nodes node) (x == node) h e
  where
    by : (is_among nodes node ≡ true → place_in nodes node ≡ None → ⊥)
        → (b : Bool) → (b || is_among nodes node) ≡ true → cond b (Some 0) (option_map suc (place_in nodes node)) ≡ None → ⊥
    by next true h e = cc
    by next false h e = next h (still_some suc (place_in nodes node) e)

-- a pair has a number
pub has_number : (nodes : List ℕ) (width : ℕ) (q : Pair) → IsNumbered nodes width q → number_of nodes width q ≡ None → ⊥
has_number nodes width q is none =
    placed nodes q.node is.node (still_some (λ place. place * width + q.state) (place_in nodes q.node) (number_is nodes width q (place_in nodes q.node) is.state refl ∙ none))

-- moves lead below what all bundles lead below
moved_below : (width state : ℕ) (hops : List Hop) → state < width → AllByRecursion (λ m. m.state < width) (map (moved state) hops)
moved_below width state [] h = tt
moved_below width state (hop ∷ hops) h = (h, moved_below width state hops h)

moves_below : (width : ℕ) (bs : List Bundle) → AllByRecursion (λ b. b.state < width) bs → AllByRecursion (λ m. m.state < width) (flat_map moves_by bs)
moves_below width [] h = tt
moves_below width (b ∷ bs) h =
    AllByRecursion-append (λ (m : Move). m.state < width) (moves_by b) (flat_map moves_by bs) (moved_below width b.state b.hops h.0) (moves_below width bs h.1)

-- the moves of each pair lead to pairs with numbers
abbrev pub LeadNumbered : Setting → List ℕ → ℕ → Type 0
LeadNumbered setting nodes width = (q : Pair) → AllByRecursion (λ m. IsNumbered nodes width (target_of m)) (moves setting q.node q.state)

pub leads_numbered : (setting : Setting) (nodes : List ℕ) (width : ℕ) → IsNetwork setting.network → nodes ≡ node_ids setting.network.graph.nodes
    → ((node state : ℕ) → AllByRecursion (λ b. b.state < width) (bundles setting node state)) → LeadNumbered setting nodes width
leads_numbered setting nodes width law same above q =
    let ms = moves setting q.node q.state in
    all_of_has (λ (m : Move). IsNumbered nodes width (target_of m)) ms
    (λ m h. record {
      node = ap (λ ids. is_among ids m.node) same ∙ move_there setting law q.node q.state m (contains_of ms m h);
      state = all_has (λ (m : Move). m.state < width) ms m (moves_below width (bundles setting q.node q.state) (above q.node q.state)) h;
    })

module _ (nodes : List ℕ) (width : ℕ) where
  -- walks arrive at pairs with numbers
  abbrev pub AreNumbered : List FoundWalk → Type 0
  AreNumbered walks = AllByRecursion (λ a. IsNumbered nodes width a.at) walks

  -- the walk that is taken, those that are left, and those with its extensions
  module _ (cs rest : List FoundWalk) (c : FoundWalk) (t : TakesLeast cs c rest) (all : AreNumbered cs) where
    pub taken_numbered : IsNumbered nodes width c.at
    taken_numbered = all_has (λ (a : FoundWalk). IsNumbered nodes width a.at) cs c all t.there

    pub rest_numbered : AreNumbered rest
    rest_numbered = all_rest (λ (a : FoundWalk). IsNumbered nodes width a.at) cs rest c t all

    module _ (setting : Setting) (lead : LeadNumbered setting nodes width) (settled : List FoundWalk) (k : ℕ) where
      extended_numbered : AreNumbered (extensions setting c (open_moves settled k (moves setting c.at.node c.at.state)))
      extended_numbered =
          let ms = moves setting c.at.node c.at.state in
          let some = open_moves settled k ms in
          all_of_has (λ (a : FoundWalk). IsNumbered nodes width a.at) (extensions setting c some)
          (λ x g.
          let from = Has_from_map (extended setting c) some x g in
          let among = Has_filtered (λ m. nat_lt (length (arrivals_at settled (target_of m))) k) ms from.0 from.1 in
          subst (λ (a : FoundWalk). IsNumbered nodes width a.at) from.2 (all_has (λ (m : Move). IsNumbered nodes width (target_of m)) ms from.0 (lead c.at) among))

      pub more_numbered : (after : List FoundWalk) → IsPermutation (rest ++ extensions setting c (open_moves settled k (moves setting c.at.node c.at.state))) after → AreNumbered after
      more_numbered after grown =
          let next = extensions setting c (open_moves settled k (moves setting c.at.node c.at.state)) in
          let whole = AllByRecursion-append (λ (a : FoundWalk). IsNumbered nodes width a.at) rest next rest_numbered extended_numbered in
          all_of_has (λ (a : FoundWalk). IsNumbered nodes width a.at) after
          (λ x h. all_has (λ (a : FoundWalk). IsNumbered nodes width a.at) (rest ++ next) x whole (has_permuted after (rest ++ next) x (IsPermutation-sym (rest ++ next) after grown) h))
