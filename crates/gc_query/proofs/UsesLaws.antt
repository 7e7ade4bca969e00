-- The segments of the uses of views, one use after another.
use Rattle.std.proofs.Common.{◌≡◌, ℕ, zero, suc, ◌+◌, ◌≤◌, ◌==◌, Bool, true, false, cond, List, [], ◌∷◌, ◌++◌, map, drop, take, length, Some, Result, Ok, Err, append-nil, append_assoc, refl, sym, ap, ◌∙◌, subst, arith, slice_get}
use Rattle.std.proofs.lemmas.Bool.Decides.{nat_tests}
use Rattle.std.specs.List.{filter}
use Rattle.gc_ast.specs.Trees as ast
use Rattle.gc_automata.specs.Moves.{Segment}
use Rattle.gc_lower.specs.Scopes.{Scope}
use Rattle.gc_prod.specs.Segments.{Segments}
use Rattle.gc_spec.specs.PropertyGraph.{PropertyGraph}
use Rattle.gc_walks.specs.Databases.{AreOnGraphs, IsOnGraph}
use Rattle.gc_query.specs.Outcomes.{Then}
use Rattle.gc_query.specs.Segments.{OfHead, OfUses, entry}
use Rattle.gc_query.specs.UsedViews.{UsedView, in_turn, used_as, uses_of}
use Rattle.gc_query.specs.Uses.{Fails, Gains, onto}
use Rattle.gc_query.specs.declared.fault.Fault.{Fault}
use Rattle.gc_query.specs.declared.used_views.ViewOn.{ViewOn}

abbrev Outcome : Type 0
Outcome = Result (List Segments) Fault

onto_none : (o : Outcome) → onto [] o ≡ o
onto_none (Ok later) = refl
onto_none (Err fault) = refl

onto_both : (xs ys : List Segments) (o : Outcome) → onto (xs ++ ys) o ≡ onto xs (onto ys o)
onto_both xs ys (Ok later) = ap Ok (append_assoc xs ys later)
onto_both xs ys (Err fault) = refl

onto_one : (e : Segments) (o : Outcome) → Then o (λ (entries : List Segments) (all : Outcome). all ≡ Ok (e ∷ entries)) (onto (e ∷ []) o)
onto_one e (Ok later) = refl
onto_one e (Err fault) = refl

module _ (s : Scope) (graphs : List PropertyGraph) where
  pub gains_none : (before : List Segments) → Gains s graphs [] before before
  gains_none before = record {
    entries = [];
    gained = sym (append-nil before);
    leads = λ later outcome h. subst (OfUses s graphs later) (sym (onto_none outcome)) h;
  }

  pub gains_more : (us vs : List UsedView) (a b c : List Segments) → Gains s graphs us a b → Gains s graphs vs b c → Gains s graphs (us ++ vs) a c
  gains_more us vs a b c g h = record {
    entries = g.entries ++ h.entries;
    gained = h.gained ∙ (ap (λ xs. xs ++ h.entries) g.gained ∙ append_assoc a g.entries h.entries);
    leads = λ later outcome k.
        subst (λ uses. OfUses s graphs uses (onto (g.entries ++ h.entries) outcome)) (sym (append_assoc us vs later))
        (subst (OfUses s graphs (us ++ (vs ++ later))) (sym (onto_both g.entries h.entries outcome)) (g.leads (vs ++ later) (onto h.entries outcome) (h.leads later outcome k)));
  }

  pub gains_one : (u : UsedView) (segments : List Segment) (before : List Segments) → OfHead s graphs u.graph u.head (Ok segments)
      → Gains s graphs (u ∷ []) before (before ++ entry u segments ∷ [])
  unfolding OfUses
  gains_one u segments before h = record {
    entries = entry u segments ∷ [];
    gained = refl;
    leads = λ later outcome k. (Ok segments, h, (outcome, k, onto_one (entry u segments) outcome));
  }

  pub fails_one : (u : UsedView) (fault : Fault) → OfHead s graphs u.graph u.head (Err fault) → Fails s graphs (u ∷ []) fault
  unfolding OfUses
  fails_one u fault h later = (Err fault, h, refl)

  pub fails_first : (us vs : List UsedView) (fault : Fault) → Fails s graphs us fault → Fails s graphs (us ++ vs) fault
  fails_first us vs fault h later = subst (λ uses. OfUses s graphs uses (Err fault)) (sym (append_assoc us vs later)) (h (vs ++ later))

  pub fails_later : (us vs : List UsedView) (a b : List Segments) (fault : Fault) → Gains s graphs us a b → Fails s graphs vs fault → Fails s graphs (us ++ vs) fault
  fails_later us vs a b fault g h later =
      subst (λ uses. OfUses s graphs uses (Err fault)) (sym (append_assoc us vs later)) (g.leads (vs ++ later) (Err fault) (h later))

  -- all uses have gained their entries, or one of them has a fault
  pub all_gained : (us : List UsedView) (after : List Segments) → Gains s graphs us [] after → OfUses s graphs us (Ok after)
  unfolding OfUses
  all_gained us after g =
      subst (λ uses. OfUses s graphs uses (Ok after)) (append-nil us)
      (subst (λ xs. OfUses s graphs (us ++ []) (Ok xs)) (append-nil g.entries ∙ sym g.gained) (g.leads [] (Ok []) refl))

  pub one_failed : (us : List UsedView) (fault : Fault) → Fails s graphs us fault → OfUses s graphs us (Err fault)
  one_failed us fault h = subst (λ uses. OfUses s graphs uses (Err fault)) (append-nil us) (h [])

-- lists by the item at a place
pub take_next : {X : Type 0} (xs : List X) (k : ℕ) (x : X) → slice_get xs k ≡ Some x → take (k + 1) xs ≡ take k xs ++ x ∷ []
take_next [] zero x h = cc
take_next [] (suc k) x h = cc
take_next (y ∷ ys) zero x h = let e : y ≡ x = cc in ap (λ z. z ∷ []) e
take_next (y ∷ ys) (suc k) x h =
    let next : suc k + 1 ≡ suc (k + 1) = omega arith in
    ap (λ n. take n (y ∷ ys)) next ∙ ap (λ zs. y ∷ zs) (take_next ys k x h)

pub split_at : {X : Type 0} (xs : List X) (k : ℕ) (x : X) → slice_get xs k ≡ Some x → xs ≡ take k xs ++ (x ∷ drop (k + 1) xs)
split_at [] zero x h = cc
split_at [] (suc k) x h = cc
split_at (y ∷ ys) zero x h = let e : y ≡ x = cc in ap (λ z. z ∷ ys) e
split_at (y ∷ ys) (suc k) x h =
    let next : suc k + 1 ≡ suc (k + 1) = omega arith in
    ap (λ zs. y ∷ zs) (split_at ys k x h) ∙ ap (λ n. y ∷ (take k ys ++ (x ∷ drop n (y ∷ ys)))) (sym next)

pub take_all : {X : Type 0} (xs : List X) (k : ℕ) → length xs ≤ k → take k xs ≡ xs
take_all [] zero h = refl
take_all [] (suc k) h = refl
take_all (x ∷ xs) zero h = absurd (omega (arith, h))
take_all (x ∷ xs) (suc k) h = ap (λ ys. x ∷ ys) (take_all xs k (omega (arith, h)))

filter_both : {X : Type 0} (p : X → Bool) (xs ys : List X) → filter p (xs ++ ys) ≡ filter p xs ++ filter p ys
filter_both p [] ys = refl
filter_both p (x ∷ xs) ys =
    elim (p x) as (λ t. cond t (x ∷ filter p (xs ++ ys)) (filter p (xs ++ ys)) ≡ cond t (x ∷ filter p xs) (filter p xs) ++ filter p ys) [
      | true ↦ ap (λ zs. x ∷ zs) (filter_both p xs ys)
      | false ↦ filter_both p xs ys
    ]

map_both : {X Y : Type 0} (f : X → Y) (xs ys : List X) → map f (xs ++ ys) ≡ map f xs ++ map f ys
map_both f [] ys = refl
map_both f (x ∷ xs) ys = ap (λ zs. f x ∷ zs) (map_both f xs ys)

module _ (head : ast.Tree ast.AHead) (number : ℕ) where
  pub uses_both : (xs ys : List ViewOn) → uses_of head number (xs ++ ys) ≡ uses_of head number xs ++ uses_of head number ys
  uses_both xs ys = ap (map (used_as head)) (filter_both (λ u. u.view == number) xs ys) ∙ map_both (used_as head) (filter (λ u. u.view == number) xs) (filter (λ u. u.view == number) ys)

  pub one_use : (u : ViewOn) → (u.view == number) ≡ true → uses_of head number (u ∷ []) ≡ used_as head u ∷ []
  one_use u h = ap (λ t. map (used_as head) (cond t (u ∷ []) [])) h

  pub no_use : (u : ViewOn) → (u.view == number) ≡ false → uses_of head number (u ∷ []) ≡ []
  no_use u h = ap (λ t. map (used_as head) (cond t (u ∷ []) [])) h

  module _ (s : Scope) (graphs : List PropertyGraph) where
    -- one use: of another view, or of this one
    pub passed_by : (u : ViewOn) (table : List Segments) → (u.view == number) ≡ false → Gains s graphs (uses_of head number (u ∷ [])) table table
    passed_by u table h = subst (λ us. Gains s graphs us table table) (sym (no_use u h)) (gains_none s graphs table)

    pub use_gains : (u : ViewOn) (table : List Segments) (segments : List Segment) → (u.view == number) ≡ true → OfHead s graphs u.graph head (Ok segments)
        → Gains s graphs (uses_of head number (u ∷ [])) table (table ++ entry (used_as head u) segments ∷ [])
    use_gains u table segments h found =
        subst (λ us. Gains s graphs us table (table ++ entry (used_as head u) segments ∷ [])) (sym (one_use u h)) (gains_one s graphs (used_as head u) segments table found)

    pub use_fails : (u : ViewOn) (fault : Fault) → (u.view == number) ≡ true → OfHead s graphs u.graph head (Err fault) → Fails s graphs (uses_of head number (u ∷ [])) fault
    use_fails u fault h found = subst (λ us. Fails s graphs us fault) (sym (one_use u h)) (fails_one s graphs (used_as head u) fault found)

    module _ (uses : List ViewOn) (k : ℕ) (a b : List Segments) (so_far : Gains s graphs (uses_of head number (take k uses)) a b) where
      -- one use more, with its entries or with a fault
      pub one_more : (u : ViewOn) (c : List Segments) → slice_get uses k ≡ Some u → Gains s graphs (uses_of head number (u ∷ [])) b c
          → Gains s graphs (uses_of head number (take (k + 1) uses)) a c
      one_more u c at h =
          subst (λ us. Gains s graphs us a c) (sym (ap (uses_of head number) (take_next uses k u at) ∙ uses_both (take k uses) (u ∷ [])))
          (gains_more s graphs (uses_of head number (take k uses)) (uses_of head number (u ∷ [])) a b c so_far h)

      pub one_fails : (u : ViewOn) (fault : Fault) → slice_get uses k ≡ Some u → Fails s graphs (uses_of head number (u ∷ [])) fault → Fails s graphs (uses_of head number uses) fault
      one_fails u fault at h =
          subst (λ us. Fails s graphs us fault)
          (sym (ap (uses_of head number) (split_at uses k u at)
          ∙ (uses_both (take k uses) (u ∷ drop (k + 1) uses) ∙ ap (λ us. uses_of head number (take k uses) ++ us) (uses_both (u ∷ []) (drop (k + 1) uses)))))
          (fails_later s graphs (uses_of head number (take k uses)) _ a b fault so_far
          (fails_first s graphs (uses_of head number (u ∷ [])) (uses_of head number (drop (k + 1) uses)) fault h))

      pub no_more : length uses ≤ k → Gains s graphs (uses_of head number uses) a b
      no_more over = subst (λ us. Gains s graphs (uses_of head number us) a b) (take_all uses k over) so_far

-- heads in turn
turn_both : (number : ℕ) (xs ys : List (ast.Tree ast.AHead)) (uses : List ViewOn) → in_turn number (xs ++ ys) uses ≡ in_turn number xs uses ++ in_turn (number + length xs) ys uses
turn_both number [] ys uses = let same : number ≡ number + 0 = omega arith in ap (λ n. in_turn n ys uses) same
turn_both number (x ∷ xs) ys uses =
    let next : number + 1 + length xs ≡ number + suc (length xs) = omega arith in
    ap (λ us. uses_of x number uses ++ us) (turn_both (number + 1) xs ys uses ∙ ap (λ n. in_turn (number + 1) xs uses ++ in_turn n ys uses) next)
    ∙ sym (append_assoc (uses_of x number uses) (in_turn (number + 1) xs uses) (in_turn (number + suc (length xs)) ys uses))

length_taken : {X : Type 0} (xs : List X) (k : ℕ) (x : X) → slice_get xs k ≡ Some x → length (take k xs) ≡ k
length_taken [] zero x h = cc
length_taken [] (suc k) x h = cc
length_taken (y ∷ ys) zero x h = refl
length_taken (y ∷ ys) (suc k) x h = ap suc (length_taken ys k x h)

module _ (heads : List (ast.Tree ast.AHead)) (k : ℕ) (head : ast.Tree ast.AHead) (at : slice_get heads k ≡ Some head) (uses : List ViewOn) where
  place : 0 + length (take k heads) ≡ k
  place = omega (arith, length_taken heads k head at)

  pub turn_up_to : in_turn 0 (take (k + 1) heads) uses ≡ in_turn 0 (take k heads) uses ++ uses_of head k uses
  turn_up_to =
      ap (λ hs. in_turn 0 hs uses) (take_next heads k head at)
      ∙ (turn_both 0 (take k heads) (head ∷ []) uses
      ∙ (ap (λ n. in_turn 0 (take k heads) uses ++ in_turn n (head ∷ []) uses) place
      ∙ ap (λ us. in_turn 0 (take k heads) uses ++ us) (append-nil (uses_of head k uses))))

  turn_around : in_turn 0 heads uses ≡ in_turn 0 (take k heads) uses ++ (uses_of head k uses ++ in_turn (k + 1) (drop (k + 1) heads) uses)
  turn_around =
      ap (λ hs. in_turn 0 hs uses) (split_at heads k head at)
      ∙ (turn_both 0 (take k heads) (head ∷ drop (k + 1) heads) uses
      ∙ ap (λ n. in_turn 0 (take k heads) uses ++ in_turn n (head ∷ drop (k + 1) heads) uses) place)

module _ (s : Scope) (graphs : List PropertyGraph) (heads : List (ast.Tree ast.AHead)) (uses : List ViewOn) (k : ℕ) (a b : List Segments)
    (so_far : Gains s graphs (in_turn 0 (take k heads) uses) a b) where
  -- one head more, with the entries of its uses or with a fault
  pub head_gains : (head : ast.Tree ast.AHead) (c : List Segments) → slice_get heads k ≡ Some head → Gains s graphs (uses_of head k uses) b c
      → Gains s graphs (in_turn 0 (take (k + 1) heads) uses) a c
  head_gains head c at h =
      subst (λ us. Gains s graphs us a c) (sym (turn_up_to heads k head at uses)) (gains_more s graphs (in_turn 0 (take k heads) uses) (uses_of head k uses) a b c so_far h)

  pub head_fails : (head : ast.Tree ast.AHead) (fault : Fault) → slice_get heads k ≡ Some head → Fails s graphs (uses_of head k uses) fault → Fails s graphs (in_turn 0 heads uses) fault
  head_fails head fault at h =
      subst (λ us. Fails s graphs us fault) (sym (turn_around heads k head at uses))
      (fails_later s graphs (in_turn 0 (take k heads) uses) _ a b fault so_far
      (fails_first s graphs (uses_of head k uses) (in_turn (k + 1) (drop (k + 1) heads) uses) fault h))

  pub no_head : length heads ≤ k → Gains s graphs (in_turn 0 heads uses) a b
  no_head over = subst (λ hs. Gains s graphs (in_turn 0 hs uses) a b) (take_all heads k over) so_far

-- where nothing is used there is no turn
pub nothing_used : (number : ℕ) (heads : List (ast.Tree ast.AHead)) → in_turn number heads [] ≡ []
nothing_used number [] = refl
nothing_used number (head ∷ heads) = nothing_used (number + 1) heads

-- an entry more of segments that are segments of its graph
pub one_entry : (graphs : List PropertyGraph) (table : List Segments) (e : Segments) → AreOnGraphs graphs table → IsOnGraph graphs e → AreOnGraphs graphs (table ++ e ∷ [])
one_entry graphs [] e h k = (k, tt)
one_entry graphs (x ∷ table) e h k = (h.0, one_entry graphs table e h.1 k)

-- a list without items
pub empty_list : {X : Type 0} (xs : List X) → (length xs == 0) ≡ true → xs ≡ []
empty_list [] h = refl
empty_list (x ∷ xs) h = let n = length xs in absurd (grind (arith, nat_tests))

pub not_same : (m n : ℕ) → (m ≡ n → ⊥) → (m == n) ≡ false
not_same m n h = grind (arith, nat_tests)

pub same : (m n : ℕ) → m ≡ n → (m == n) ≡ true
same m n h = grind (arith, nat_tests)

-- where nothing is used there are no segments
pub none_used : (s : Scope) (graphs : List PropertyGraph) (uses : List ViewOn) (table : List Segments) → (length uses == 0) ≡ true → table ≡ [] → OfUses s graphs (in_turn 0 s.views uses) (Ok table)
unfolding OfUses
none_used s graphs uses table h e =
    subst (λ (us : List UsedView). OfUses s graphs us (Ok table)) (sym (ap (in_turn 0 s.views) (empty_list uses h) ∙ nothing_used 0 s.views)) (ap Ok e)
