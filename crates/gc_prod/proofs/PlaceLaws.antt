-- The places of numbers among ascending ones.
use Rattle.std.proofs.Common.{◌≡◌, ◌≢◌, ℕ, zero, suc, ◌<◌, Bool, true, false, cond, ◌||◌, ◌==◌, List, [], ◌∷◌, length, map, get_or, refl, sym, ap, ap₂, ◌∙◌, arith}
use Rattle.std.specs.List.{AllByRecursion, filter}
use Rattle.std.specs.declared.cmp.Ordering.TheVariants.{Less}
use Rattle.std.specs.Ordering.{nat_cmp}
use Rattle.std.proofs.lemmas.Bool.Decides.{nat_tests}
use Rattle.gc_base.specs.Ascending.{Ascends}
use Rattle.gc_spec.specs.PropertyGraph.{is_among}
use Rattle.gc_prod.specs.Places.{place_in}

eqb_same : (a b : ℕ) → (a == b) ≡ true → a ≡ b
eqb_same a b h = grind (arith, nat_tests)

less_differs : (a b : ℕ) → a < b → (a == b) ≡ false
less_differs a b h = grind (arith, nat_tests)

same_is : (a b : ℕ) → a ≡ b → (a == b) ≡ true
same_is a b h = grind (arith, nat_tests)

differs : (a b : ℕ) → a ≢ b → (a == b) ≡ false
differs a b h = grind (arith, nat_tests)

apart : {a b : ℕ} → (a == b) ≡ false → a ≢ b
apart {a} {b} h = grind (arith, nat_tests)

-- ascending numbers differ
pub above_differs : (x : ℕ) (xs : List ℕ) (i : ℕ) → AllByRecursion (λ y. nat_cmp x y ≡ Less) xs → i < length xs → x < get_or xs i 0
above_differs x [] i all below = absurd (omega arith)
above_differs x (y ∷ xs) zero all below = by_less x y all.0
  where
    by_less : (a b : ℕ) → nat_cmp a b ≡ Less → a < b
    by_less a b h = grind (arith, nat_tests)
above_differs x (y ∷ xs) (suc i) all below = above_differs x xs i all.1 (omega arith)

-- the place where a node stands among ascending ones
pub place_is : (nodes : List ℕ) (place node : ℕ) → Ascends nat_cmp nodes → place < length nodes → get_or nodes place 0 ≡ node → place ≡ place_in nodes node
place_is [] place node up below at = absurd (omega arith)
place_is (x ∷ nodes) zero node up below at = ap (λ b. cond b 0 (suc (place_in nodes node))) (sym (same_is x node at))
place_is (x ∷ nodes) (suc place) node up below at =
    let less : x < get_or nodes place 0 = above_differs x nodes place up.0 (omega arith) in
    let rest = place_is nodes place node up.1 (omega arith) at in
    ap suc rest ∙ ap (λ b. cond b 0 (suc (place_in nodes node))) (sym (less_differs x node (omega (arith, less, at))))

-- at its place stands the node
pub record StandsAt (nodes : List ℕ) (node : ℕ) : Type 0 where
  pub within : place_in nodes node < length nodes
  pub at : get_or nodes (place_in nodes node) 0 ≡ node

place : (x : ℕ) (nodes : List ℕ) (node : ℕ) (b : Bool) → (x == node) ≡ b → place_in (x ∷ nodes) node ≡ cond b 0 (suc (place_in nodes node))
place x nodes node b e = ap (λ c. cond c 0 (suc (place_in nodes node))) e

pub place_there : (nodes : List ℕ) (node : ℕ) → is_among nodes node ≡ true → StandsAt nodes node
place_there [] node h = cc
place_there (x ∷ nodes) node h = by (place_there nodes node) (x == node) refl h
  where
    by : (is_among nodes node ≡ true → StandsAt nodes node) → (b : Bool) → (x == node) ≡ b → (b || is_among nodes node) ≡ true → StandsAt (x ∷ nodes) node
    by next true e k = record {
      within = omega (arith, place x nodes node true e);
      at = ap (λ n. get_or (x ∷ nodes) n 0) (place x nodes node true e) ∙ eqb_same x node e;
    }
    by next false e k = let rest = next k in record {
      within = omega (arith, place x nodes node false e, rest.within);
      at = ap (λ n. get_or (x ∷ nodes) n 0) (place x nodes node false e) ∙ rest.at;
    }

-- a node that is not among them has its place behind them
pub place_past : (nodes : List ℕ) (node : ℕ) → is_among nodes node ≡ false → place_in nodes node ≡ length nodes
place_past [] node h = refl
place_past (x ∷ nodes) node h = by (place_past nodes node) (x == node) refl h
  where
    by : (is_among nodes node ≡ false → place_in nodes node ≡ length nodes) → (b : Bool) → (x == node) ≡ b → (b || is_among nodes node) ≡ false → place_in (x ∷ nodes) node ≡ suc (length nodes)
    by next true e k = cc
    by next false e k = place x nodes node false e ∙ ap suc (next k)

-- two nodes have one place only where they are the same, if one of them is among the others
pub one_place : (nodes : List ℕ) (a b : ℕ) → is_among nodes a ≡ true → (place_in nodes a == place_in nodes b) ≡ (a == b)
one_place nodes a b h = by (is_among nodes b) refl (a == b) refl
  where
    by : (t : Bool) → is_among nodes b ≡ t → (s : Bool) → (a == b) ≡ s → (place_in nodes a == place_in nodes b) ≡ s
    by t e true same = same_is _ _ (ap (place_in nodes) (eqb_same a b same))
    by true e false other =
        let one = place_there nodes a h in
        let two = place_there nodes b e in
        differs (place_in nodes a) (place_in nodes b) (λ k. apart other (sym one.at ∙ (ap (λ n. get_or nodes n 0) k ∙ two.at)))
    by false e false other =
        let one = place_there nodes a h in
        differs (place_in nodes a) (place_in nodes b) (λ k. absurd (omega (arith, one.within, k, place_past nodes b e)))

-- items that each lead from one of some nodes
module _ {X : Type 0} (node_of : X → ℕ) (nodes : List ℕ) where
  pub places_within : (xs : List X) → AllByRecursion (λ x. is_among nodes (node_of x) ≡ true) xs → AllByRecursion (λ n. n < length nodes) (map (λ x. place_in nodes (node_of x)) xs)
  places_within [] all = tt
  places_within (x ∷ xs) all = ((place_there nodes (node_of x) all.0).within, places_within xs all.1)

  -- those at the place of a node are those from it
  pub at_place : (node : ℕ) (xs : List X) → AllByRecursion (λ x. is_among nodes (node_of x) ≡ true) xs
      → filter (λ x. place_in nodes (node_of x) == place_in nodes node) xs ≡ filter (λ x. node_of x == node) xs
  at_place node [] all = refl
  at_place node (x ∷ xs) all =
      ap₂ (λ b l. cond b (x ∷ l) l) (one_place nodes (node_of x) node all.0) (at_place node xs all.1)

  -- at the places of nodes stand these nodes
  pub places_back : (xs : List X) → AllByRecursion (λ x. is_among nodes (node_of x) ≡ true) xs → map (λ n. get_or nodes n 0) (map (λ x. place_in nodes (node_of x)) xs) ≡ map node_of xs
  places_back [] all = refl
  places_back (x ∷ xs) all = ap₂ (λ n l. n ∷ l) (place_there nodes (node_of x) all.0).at (places_back xs all.1)
