-- Numbers of pairs, and the places of the walks that arrive at them.
use Rattle.std.proofs.Common.{◌≡◌, ◌≢◌, ℕ, zero, suc, ◌+◌, ◌*◌, ◌<◌, ◌≤◌, ◌==◌, Bool, true, false, cond, List, [], ◌∷◌, ◌++◌, length, get_or, set, replicate, Option, Some, None, nat_lt, inl, inr, ◌⊎◌, refl, sym, ap, subst, ◌∙◌, arith, length-set, get_or-set_other, get_or-set_same}
use Rattle.std.specs.List.{AllByRecursion, slice_get, list_any}
use Rattle.std.specs.Option.{option_map}
use Rattle.std.specs.declared.cmp.Ordering.TheVariants.{Less}
use Rattle.std.specs.Ordering.{nat_cmp}
use Rattle.std.proofs.Math.Nat.{mul-le-mul_right}
use Rattle.std.proofs.lemmas.Bool.Decides.{nat_tests}
use Rattle.std.proofs.lemmas.List.{append-nil}
use Rattle.std.proofs.lemmas.Option.{slice_get-get_or, slice_get_read, slice_get_past}
use Rattle.gc_base.specs.Ascending.{Ascends}
use Rattle.gc_prod.specs.declared.moves.Pair.{Pair}
use Rattle.gc_search.specs.Arrivals.{FoundWalk, same_pair, arrivals_at}
use Rattle.gc_search.specs.Places.{place_in, number_of, places_from, IsListed}
use Rattle.gc_search.proofs.Flat.{same_is, same_itself}

-- two places and states of one number are the same
later_differs : (w p s q t : ℕ) → p < q → s < w → p * w + s ≢ q * w + t
later_differs w p s q t less below same = let le : suc p ≤ q = omega arith in absurd (omega (arith, mul-le-mul_right w le, same))

by_order : (p q : ℕ) → (p < q) ⊎ ((p ≡ q) ⊎ (q < p))
by_order p q = grind arith

same_place : (w p s q t : ℕ) → s < w → t < w → p * w + s ≡ q * w + t → p ≡ q
same_place w p s q t low high same = elim (by_order p q) [
  | inl less ↦ absurd (later_differs w p s q t less low same)
  | inr rest ↦ elim rest [ inl is ↦ is | inr more ↦ absurd (later_differs w q t p s more high (sym same)) ]
]

eqb_same : (a b : ℕ) → (a == b) ≡ true → a ≡ b
eqb_same a b h = grind (arith, nat_tests)

eqb_is : (a b : ℕ) → a ≡ b → (a == b) ≡ true
eqb_is a b h = grind (arith, nat_tests)

less_differs : (a b : ℕ) → a < b → (a == b) ≡ false
less_differs a b h = grind (arith, nat_tests)

lt_is : (a b : ℕ) → nat_lt a b ≡ true → a < b
lt_is a b h = grind (arith, nat_tests)

lt_true : (a b : ℕ) → a < b → nat_lt a b ≡ true
lt_true a b h = grind (arith, nat_tests)

lt_false : (a b : ℕ) → b ≤ a → nat_lt a b ≡ false
lt_false a b h = grind (arith, nat_tests)

less_of : (a b : ℕ) → nat_cmp a b ≡ Less → a < b
less_of a b h = grind (arith, nat_tests)

above_differs : (x : ℕ) (xs : List ℕ) (i : ℕ) → AllByRecursion (λ y. nat_cmp x y ≡ Less) xs → i < length xs → x < get_or xs i 0
above_differs x [] i all below = absurd (omega arith)
above_differs x (y ∷ xs) zero all below = less_of x y all.0
above_differs x (y ∷ xs) (suc i) all below = above_differs x xs i all.1 (omega arith)

-- where a node stands among ascending ones is its place
pub place_is : (nodes : List ℕ) (place node : ℕ) → Ascends nat_cmp nodes → place < length nodes → get_or nodes place 0 ≡ node → Some place ≡ place_in nodes node
place_is [] place node up below at = absurd (omega arith)
place_is (x ∷ nodes) zero node up below at = ap (λ b. cond b (Some 0) (option_map suc (place_in nodes node))) (sym (eqb_is x node at))
place_is (x ∷ nodes) (suc place) node up below at =
    let less : x < get_or nodes place 0 = above_differs x nodes place up.0 (omega arith) in
    let rest = place_is nodes place node up.1 (omega arith) at in
    ap (option_map suc) rest ∙ ap (λ b. cond b (Some 0) (option_map suc (place_in nodes node))) (sym (less_differs x node (omega (arith, less, at))))

-- a node that is none of them has no place
pub no_place : (nodes : List ℕ) (node : ℕ) → list_any (λ other. other == node) nodes ≡ false → None ≡ place_in nodes node
no_place [] node h = refl
no_place (x ∷ nodes) node h = by (no_place nodes node) (x == node) refl
  where
    by : (list_any (λ other. other == node) nodes ≡ false → None ≡ place_in nodes node) → (b : Bool) → (x == node) ≡ b → None ≡ place_in (x ∷ nodes) node
    by next true e = cc
    by next false e =
        let rest : list_any (λ other. other == node) nodes ≡ false = cc in
        ap (option_map suc) (next rest) ∙ ap (λ c. cond c (Some 0) (option_map suc (place_in nodes node))) (sym e)

one_less : (o : Option ℕ) (i : ℕ) → option_map suc o ≡ Some (suc i) → o ≡ Some i
one_less None i h = cc
one_less (Some j) i h = let e : suc j ≡ suc i = cc in let d : j ≡ i = omega (arith, e) in ap Some d

not_first : (o : Option ℕ) → option_map suc o ≡ Some 0 → ⊥
not_first None h = cc
not_first (Some j) h = let e : suc j ≡ 0 = cc in omega (arith, e)

-- at its place stands the node
pub stands : (nodes : List ℕ) (node i : ℕ) → place_in nodes node ≡ Some i → (i < length nodes) × (get_or nodes i 0 ≡ node)
stands [] node i h = cc
stands (x ∷ nodes) node i h = by (stands nodes node) (x == node) refl i h
  where
    by : ((j : ℕ) → place_in nodes node ≡ Some j → (j < length nodes) × (get_or nodes j 0 ≡ node))
        → (b : Bool) → (x == node) ≡ b → (j : ℕ) → place_in (x ∷ nodes) node ≡ Some j → (j < length (x ∷ nodes)) × (get_or (x ∷ nodes) j 0 ≡ node)
    by next true e zero g = (omega arith, eqb_same x node e)
    by next true e (suc j) g = cc
    by next false e zero g = elim (not_first (place_in nodes node) (ap (λ c. cond c (Some 0) (option_map suc (place_in nodes node))) (sym e) ∙ g)) [ ]
    by next false e (suc j) g =
        let rest = next j (one_less (place_in nodes node) j (ap (λ c. cond c (Some 0) (option_map suc (place_in nodes node))) (sym e) ∙ g)) in
        let l = rest.0 in
        (omega (arith, l), rest.1)

-- a pair that has a number
record Numbered (nodes : List ℕ) (width : ℕ) (q : Pair) (n : ℕ) : Type 0 where
  pub place : ℕ
  pub there : place_in nodes q.node ≡ Some place
  pub state : q.state < width
  pub is : n ≡ place * width + q.state

numbered : (nodes : List ℕ) (width : ℕ) (q : Pair) (n : ℕ) → number_of nodes width q ≡ Some n → Numbered nodes width q n
numbered nodes width q n h = by (nat_lt q.state width) refl (place_in nodes q.node) refl
  where
    whole : (b : Bool) → nat_lt q.state width ≡ b → (o : Option ℕ) → place_in nodes q.node ≡ o → cond b (option_map (λ place. place * width + q.state) o) None ≡ Some n
    whole b e o d = sym (λ j. cond (e j) (option_map (λ place. place * width + q.state) (d j)) None) ∙ h

    by : (b : Bool) → nat_lt q.state width ≡ b → (o : Option ℕ) → place_in nodes q.node ≡ o → Numbered nodes width q n
    by true e (Some place) d =
        let same : Some (place * width + q.state) ≡ Some n = whole true e (Some place) d in
        let is : place * width + q.state ≡ n = cc in
        record { place = place; there = d; state = lt_is q.state width e; is = sym is }
    by true e None d = let none : None ≡ Some n = whole true e None d in cc
    by false e o d = let none : None ≡ Some n = whole false e o d in cc

-- two pairs of one number are the same
pub one_number : (nodes : List ℕ) (width : ℕ) (p q : Pair) (n : ℕ) → number_of nodes width p ≡ Some n → number_of nodes width q ≡ Some n → p ≡ q
one_number nodes width p q n h g =
    let a = numbered nodes width p n h in
    let b = numbered nodes width q n g in
    let place : a.place ≡ b.place = same_place width a.place p.state b.place q.state a.state b.state (sym a.is ∙ b.is) in
    let node : p.node ≡ q.node = sym (stands nodes p.node a.place a.there).1 ∙ (ap (λ n. get_or nodes n 0) place ∙ (stands nodes q.node b.place b.there).1) in
    let row : a.place * width ≡ b.place * width = ap (λ n. n * width) place in
    let state : p.state ≡ q.state = omega (arith, a.is, b.is, row) in
    λ j. record { node = node j; state = state j }

pub number_past : (nodes : List ℕ) (width : ℕ) (q : Pair) → (q.state < width → ⊥) → None ≡ number_of nodes width q
number_past nodes width q past =
    let high : width ≤ q.state = omega (arith, past) in
    ap (λ b. cond b (option_map (λ place. place * width + q.state) (place_in nodes q.node)) None) (sym (lt_false q.state width high))

pub number_is : (nodes : List ℕ) (width : ℕ) (q : Pair) (o : Option ℕ) → q.state < width → o ≡ place_in nodes q.node → option_map (λ place. place * width + q.state) o ≡ number_of nodes width q
number_is nodes width q o below e =
    ap (option_map (λ place. place * width + q.state)) e ∙ ap (λ b. cond b (option_map (λ place. place * width + q.state) (place_in nodes q.node)) None) (sym (lt_true q.state width below))

-- a walk behind the others
push_by : (b : Bool) (i : ℕ) (xs ys : List ℕ) → cond b (i ∷ xs ++ ys) (xs ++ ys) ≡ cond b (i ∷ xs) xs ++ ys
push_by true i xs ys = refl
push_by false i xs ys = refl

places_push : (i : ℕ) (walks : List FoundWalk) (x : FoundWalk) (q : Pair) → places_from i (walks ++ x ∷ []) q ≡ places_from i walks q ++ places_from (i + length walks) (x ∷ []) q
places_push i [] x q = let n : i ≡ i + 0 = omega arith in ap (λ m. places_from m (x ∷ []) q) n
places_push i (a ∷ walks) x q =
    let n : i + 1 + length walks ≡ i + length (a ∷ walks) = omega arith in
    ap (λ l. cond (same_pair a.at q) (i ∷ l) l) (places_push (i + 1) walks x q ∙ ap (λ m. places_from (i + 1) walks q ++ places_from m (x ∷ []) q) n)
    ∙ push_by (same_pair a.at q) i (places_from (i + 1) walks q) (places_from (i + length (a ∷ walks)) (x ∷ []) q)

module _ (walks : List FoundWalk) (x : FoundWalk) where
  places_here : places_from 0 (walks ++ x ∷ []) x.at ≡ places_from 0 walks x.at ++ length walks ∷ []
  places_here =
      let n : 0 + length walks ≡ length walks = omega arith in
      places_push 0 walks x x.at
      ∙ (ap (λ b. places_from 0 walks x.at ++ cond b ((0 + length walks) ∷ []) []) (same_itself x.at) ∙ ap (λ m. places_from 0 walks x.at ++ m ∷ []) n)

  places_other : (q : Pair) → (x.at ≡ q → ⊥) → places_from 0 (walks ++ x ∷ []) q ≡ places_from 0 walks q
  places_other q other = by (same_pair x.at q) refl
    where
      by : (b : Bool) → same_pair x.at q ≡ b → places_from 0 (walks ++ x ∷ []) q ≡ places_from 0 walks q
      by true e = elim (other (same_is x.at q e)) [ ]
      by false e = places_push 0 walks x q ∙ (ap (λ b. places_from 0 walks q ++ cond b ((0 + length walks) ∷ []) []) e ∙ append-nil (places_from 0 walks q))

empty_lists : (n : ℕ) → length (replicate {A = List ℕ} n []) ≡ n
empty_lists zero = refl
empty_lists (suc n) = let e = empty_lists n in omega (arith, e)

all_empty : (n i : ℕ) → get_or (replicate {A = List ℕ} n []) i [] ≡ []
all_empty zero i = refl
all_empty (suc n) zero = refl
all_empty (suc n) (suc i) = all_empty n i

pub listed_none : (nodes : List ℕ) (width size : ℕ) → Ascends nat_cmp nodes → size ≡ length nodes * width → (places : List (List ℕ)) → places ≡ replicate size [] → IsListed nodes width [] places
listed_none nodes width size up room places is = record {
  ascend = up;
  size = ap length is ∙ (empty_lists size ∙ room);
  listed = λ q n h. ap (λ (l : List (List ℕ)). get_or l n []) is ∙ all_empty size n;
  others = λ q h. refl;
}

module _ (nodes : List ℕ) (width : ℕ) (walks : List FoundWalk) (places : List (List ℕ)) (l : IsListed nodes width walks places) (x : FoundWalk) (n : ℕ)
    (number : number_of nodes width x.at ≡ Some n) (within : n < length places) where
  more_at : (q : Pair) (m : ℕ) → number_of nodes width q ≡ Some m → (m ≡ n) ⊎ (m ≢ n)
      → get_or (set places n (get_or places n [] ++ length walks ∷ [])) m [] ≡ places_from 0 (walks ++ x ∷ []) q
  more_at q m h (inl e) =
      let at : x.at ≡ q = one_number nodes width x.at q n number (h ∙ ap Some e) in
      ap (λ k. get_or (set places n (get_or places n [] ++ length walks ∷ [])) k []) e
      ∙ (get_or-set_same places n (get_or places n [] ++ length walks ∷ []) [] within
      ∙ (ap (λ v. v ++ length walks ∷ []) (l.listed x.at n number)
      ∙ (sym (places_here walks x) ∙ ap (places_from 0 (walks ++ x ∷ [])) at)))
  more_at q m h (inr d) =
      get_or-set_other places n m (get_or places n [] ++ length walks ∷ []) [] d
      ∙ (l.listed q m h ∙ sym (places_other walks x q (λ at. let same : Some m ≡ Some n = sym h ∙ (ap (number_of nodes width) (sym at) ∙ number) in let e : m ≡ n = cc in d e)))

  either : (a b : ℕ) → (a ≡ b) ⊎ (a ≢ b)
  either a b = elim (by_order a b) [
    | inl less ↦ inr (λ e. omega (arith, less, e))
    | inr rest ↦ elim rest [ inl is ↦ inl is | inr more ↦ inr (λ e. omega (arith, more, e)) ]
  ]

  pub listed_more : IsListed nodes width (walks ++ x ∷ []) (set places n (get_or places n [] ++ length walks ∷ []))
  listed_more = record {
    ascend = l.ascend;
    size = length-set places n (get_or places n [] ++ length walks ∷ []) ∙ l.size;
    listed = λ q m h. more_at q m h (either m n);
    others = λ q h.
        places_other walks x q (λ at. let same : Some n ≡ None = sym number ∙ (ap (number_of nodes width) at ∙ h) in cc) ∙ l.others q h;
  }

-- a walk that stands at a place of a pair, and is the j-th of some
pub record StandsAs (walks some : List FoundWalk) (i j n : ℕ) : Type 0 where
  pub behind : ℕ
  pub is : n ≡ i + behind
  pub within : behind < length walks
  pub there : slice_get walks behind ≡ slice_get some j

stands_later : (i : ℕ) (a : FoundWalk) (walks some more : List FoundWalk) (j k n : ℕ) → StandsAs walks some (i + 1) j n → slice_get more k ≡ slice_get some j → StandsAs (a ∷ walks) more i k n
stands_later i a walks some more j k n s e = record {
  behind = suc s.behind;
  is = omega (arith, s.is);
  within = omega (arith, s.within);
  there = s.there ∙ sym e;
}

pub stands_as : (i : ℕ) (walks : List FoundWalk) (q : Pair) (j n : ℕ) → slice_get (places_from i walks q) j ≡ Some n → StandsAs walks (arrivals_at walks q) i j n
stands_as i [] q j n h = cc
stands_as i (a ∷ walks) q j n h = by (stands_as (i + 1) walks q) (same_pair a.at q) j h
  where
    by : ((j n : ℕ) → slice_get (places_from (i + 1) walks q) j ≡ Some n → StandsAs walks (arrivals_at walks q) (i + 1) j n)
        → (b : Bool) (j : ℕ) → slice_get (cond b (i ∷ places_from (i + 1) walks q) (places_from (i + 1) walks q)) j ≡ Some n
        → StandsAs (a ∷ walks) (cond b (a ∷ arrivals_at walks q) (arrivals_at walks q)) i j n
    by next true zero g = let e : i ≡ n = cc in record { behind = 0; is = omega (arith, e); within = omega arith; there = refl }
    by next true (suc j) g = stands_later i a walks (arrivals_at walks q) (a ∷ arrivals_at walks q) j (suc j) n (next j n g) refl
    by next false j g = stands_later i a walks (arrivals_at walks q) (arrivals_at walks q) j j n (next j n g) refl

pub stands_none : (i : ℕ) (walks : List FoundWalk) (q : Pair) (j : ℕ) → slice_get (places_from i walks q) j ≡ None → slice_get (arrivals_at walks q) j ≡ None
stands_none i [] q j h = refl
stands_none i (a ∷ walks) q j h = by (stands_none (i + 1) walks q) (same_pair a.at q) j h
  where
    by : ((j : ℕ) → slice_get (places_from (i + 1) walks q) j ≡ None → slice_get (arrivals_at walks q) j ≡ None)
        → (b : Bool) (j : ℕ) → slice_get (cond b (i ∷ places_from (i + 1) walks q) (places_from (i + 1) walks q)) j ≡ None
        → slice_get (cond b (a ∷ arrivals_at walks q) (arrivals_at walks q)) j ≡ None
    by next true zero g = cc
    by next true (suc j) g = next j g
    by next false j g = next j g

count_by_test : (b : Bool) (i : ℕ) (a : FoundWalk) (xs : List ℕ) (ys : List FoundWalk) → length xs ≡ length ys → length (cond b (i ∷ xs) xs) ≡ length (cond b (a ∷ ys) ys)
count_by_test true i a xs ys e = omega (arith, e)
count_by_test false i a xs ys e = e

pub places_count : (i : ℕ) (walks : List FoundWalk) (q : Pair) → length (places_from i walks q) ≡ length (arrivals_at walks q)
places_count i [] q = refl
places_count i (a ∷ walks) q = count_by_test (same_pair a.at q) i a (places_from (i + 1) walks q) (arrivals_at walks q) (places_count (i + 1) walks q)

-- what is read at a place of a pair
pub read_place : (walks : List FoundWalk) (q : Pair) (places : List ℕ) (j d : ℕ) → places ≡ places_from 0 walks q → j < length places → StandsAs walks (arrivals_at walks q) 0 j (get_or places j d)
read_place walks q places j d is below =
    stands_as 0 walks q j (get_or places j d) (ap (λ (l : List ℕ). slice_get l j) (sym is) ∙ slice_get-get_or places j d below)

pub read_below : (walks some : List FoundWalk) (j n : ℕ) → StandsAs walks some 0 j n → n < length walks
read_below walks some j n s = omega (arith, s.is, s.within)

pub read_walk : (walks some : List FoundWalk) (j n : ℕ) → StandsAs walks some 0 j n → (x : FoundWalk) → x ≡ get_or walks n x → slice_get some j ≡ Some x
read_walk walks some j n s x e =
    let same : n ≡ s.behind = omega (arith, s.is) in
    sym s.there ∙ (ap (slice_get walks) (sym same) ∙ slice_get_read walks (length walks) n x refl (read_below walks some j n s) e)

pub none_past : (xs : List ℕ) (i : ℕ) → false ≡ nat_lt i (length xs) → slice_get xs i ≡ None
none_past xs i h = slice_get_past xs i (not_below i (length xs) h)
  where
    not_below : (a b : ℕ) → false ≡ nat_lt a b → b ≤ a
    not_below a b h = grind (arith, nat_tests)

pub some_there : (xs : List ℕ) (i x : ℕ) → true ≡ nat_lt i (length xs) → x ≡ get_or xs i x → slice_get xs i ≡ Some x
some_there xs i x h e = slice_get_read xs (length xs) i x refl (lt_is i (length xs) (sym h)) e

pub read_at : (walks some : List FoundWalk) (j n : ℕ) → StandsAs walks some 0 j n → (x : FoundWalk) → slice_get walks n ≡ Some x → slice_get some j ≡ Some x
read_at walks some j n s x h = let e : n ≡ s.behind = omega (arith, s.is) in sym s.there ∙ subst (λ m. slice_get walks m ≡ Some x) e h

pub read_same : (walks some : List FoundWalk) (j n : ℕ) → StandsAs walks some 0 j n → slice_get walks n ≡ slice_get some j
read_same walks some j n s = let e : n ≡ s.behind = omega (arith, s.is) in ap (slice_get walks) e ∙ s.there

pub set_same : {X : Type 0} (xs : List X) (n : ℕ) (x : X) → n < length xs → x ≡ get_or xs n x → set xs n x ≡ xs
set_same [] n x h e = absurd (omega (arith, h))
set_same (y ∷ xs) zero x h e = ap (λ v. v ∷ xs) e
set_same (y ∷ xs) (suc n) x h e = ap (λ v. y ∷ v) (set_same xs n x (omega (arith, h)) e)
