-- Numbers that are left, and the least atom of a turn.
use Rattle.std.proofs.Common.{◌≡◌, ◌⊎◌, inl, inr, ⊎_elim, ℕ, zero, suc, ◌+◌, ◌<◌, ◌≤◌, ◌==◌, ◌||◌, Bool, true, false, not, cond, List, [], ◌∷◌, filter, fold, get_or, length, Option, None, Some, is_some, refl, sym, ap, ◌∙◌, subst, arith, slice_get}
use Rattle.std.proofs.lemmas.Bool.Decides.{nat_tests}
use Rattle.std.specs.List.{list_all, list_any, range_with_len}
use Rattle.std.specs.Option.{option_and_then, option_map}
use Rattle.gc_base.specs.declared.place.Sym.{Sym}
use Rattle.gc_rows.specs.Rows.{lists}
use Rattle.gc_alg.proofs.Schemas.{itself, or_left, or_right, same_number}
use Rattle.gc_alg.specs.Plans.{PlanTree, PlanRow, AtomPlan}
use Rattle.gc_alg.specs.declared.atom.Atom.{Atom}
use Rattle.gc_alg.specs.declared.atom.AtomWhat.{AtomWhat}
use Rattle.gc_alg.specs.declared.atom.AtomWhat.TheVariants as atom
use Rattle.gc_plan.proofs.Bindings.{or_elim}
use Rattle.gc_plan.specs.Orders.{has_number}
use Rattle.gc_explain.specs.ExplainedPlans.{choice_at, choice_of, comes_before, least, lesser, without}
use Rattle.gc_explain.specs.ExplainedTrees.{begins_at, rank, step_by}
use Rattle.gc_explain.specs.ExplainedWords.{by_bound, from_bound, searched_from, word_of}
use Rattle.gc_explain.specs.declared.choosing.Choice.{Choice}
use Rattle.gc_explain.specs.declared.step.StepWord.{StepWord}
use Rattle.gc_explain.specs.declared.step.StepWord.TheVariants.{Check, Expand, Search, Scan}

-- numbers that pass a test
pub into_filter : (f : ℕ → Bool) (ns : List ℕ) (k : ℕ) → has_number ns k ≡ true → f k ≡ true → has_number (filter f ns) k ≡ true
into_filter f [] k h t = h
into_filter f (n ∷ ns) k h t =
    or_elim (n == k) (has_number ns k) h
    (λ e. kept (f n) (subst (λ m. f m ≡ true) (sym (same_number n k e)) t) e)
    (λ e. behind (f n) (into_filter f ns k e t))
  where
    kept : (b : Bool) → b ≡ true → (n == k) ≡ true → has_number (cond b (n ∷ filter f ns) (filter f ns)) k ≡ true
    kept true u e = or_left (n == k) _ e
    kept false u e = cc

    behind : (b : Bool) → has_number (filter f ns) k ≡ true → has_number (cond b (n ∷ filter f ns) (filter f ns)) k ≡ true
    behind true u = or_right (n == k) _ u
    behind false u = u

pub from_filter : (f : ℕ → Bool) (ns : List ℕ) (k : ℕ) → has_number (filter f ns) k ≡ true → (has_number ns k ≡ true) × (f k ≡ true)
from_filter f [] k h = cc
from_filter f (n ∷ ns) k h =
    elim (f n) as (λ b. f n ≡ b → has_number (cond b (n ∷ filter f ns) (filter f ns)) k ≡ true → (has_number (n ∷ ns) k ≡ true) × (f k ≡ true)) [
      | true ↦ λ t g. or_elim (n == k) (has_number (filter f ns) k) g
          (λ e. (or_left (n == k) _ e, subst (λ m. f m ≡ true) (same_number n k e) t))
          (λ e. let rest = from_filter f ns k e in (or_right (n == k) _ rest.0, rest.1))
      | false ↦ λ t g. let rest = from_filter f ns k g in (or_right (n == k) _ rest.0, rest.1)
    ] refl h

no_more : (f : ℕ → Bool) (ns : List ℕ) → length (filter f ns) ≤ length ns
no_more f [] = omega arith
no_more f (n ∷ ns) = by (f n) (no_more f ns)
  where
    by : (b : Bool) → length (filter f ns) ≤ length ns → length (cond b (n ∷ filter f ns) (filter f ns)) ≤ suc (length ns)
    by true h = omega (arith, h)
    by false h = omega (arith, h)

pub fewer : (number : ℕ) (ns : List ℕ) → has_number ns number ≡ true → length (without number ns) < length ns
fewer number [] h = cc
fewer number (n ∷ ns) h =
    elim (n == number) as (λ b. (n == number) ≡ b → length (cond (not b) (n ∷ without number ns) (without number ns)) < suc (length ns)) [
      | true ↦ λ e. let most = no_more (λ m. not (m == number)) ns in omega (arith, most)
      | false ↦ λ e. let less = fewer number ns (or_elim (n == number) (has_number ns number) h (λ t. cc) (λ t. t)) in omega (arith, less)
    ] refl

pub others_stay : (number : ℕ) (ns : List ℕ) (k : ℕ) → has_number ns k ≡ true → (number == k) ≡ true ⊎ (has_number (without number ns) k ≡ true)
others_stay number ns k h =
    elim (k == number) as (λ b. (k == number) ≡ b → ((number == k) ≡ true) ⊎ (has_number (without number ns) k ≡ true)) [
      | true ↦ λ e. inl (subst (λ m. (number == m) ≡ true) (sym (same_number k number e)) (itself number))
      | false ↦ λ e. inr (into_filter (λ m. not (m == number)) ns k h (ap not e))
    ] refl

-- the numbers below a count
pub in_range : (from count k : ℕ) → from ≤ k → k < from + count → has_number (range_with_len from count) k ≡ true
in_range from zero k l h = absurd (omega (arith, l, h))
in_range from (suc count) k l h =
    elim (from == k) as (λ b. (from == k) ≡ b → (b || has_number (range_with_len (from + 1) count) k) ≡ true) [
      | true ↦ λ e. refl
      | false ↦ λ e. in_range (from + 1) count k (above from k e l) (omega (arith, h))
    ] refl
  where
    above : (m n : ℕ) → (m == n) ≡ false → m ≤ n → m + 1 ≤ n
    above m n e l = grind (arith, nat_tests)

-- there is something at each number below the length
pub there_within : {X : Type 0} (xs : List X) (n : ℕ) → is_some (slice_get xs n) ≡ true → n < length xs
there_within [] n h = cc
there_within (x ∷ xs) zero h = omega arith
there_within (x ∷ xs) (suc n) h = let l = there_within xs n h in omega (arith, l)

pub there_below : {X : Type 0} (xs : List X) (n : ℕ) → n < length xs → is_some (slice_get xs n) ≡ true
there_below [] n h = absurd (omega (arith, h))
there_below (x ∷ xs) zero h = refl
there_below (x ∷ xs) (suc n) h = there_below xs n (omega (arith, h))

pub below : (from count k : ℕ) → has_number (range_with_len from count) k ≡ true → k < from + count
below from zero k h = cc
below from (suc count) k h =
    or_elim (from == k) (has_number (range_with_len (from + 1) count) k) h
    (λ e. let same : from ≡ k = same_number from k e in omega (arith, same))
    (λ e. let l = below (from + 1) count k e in omega (arith, l))

-- the choice of an atom
pub record Chosen (bound : List Sym) (atoms : List Atom) (n : ℕ) (c : Choice) : Type 0 where
  pub atom : Atom
  pub there : slice_get atoms n ≡ Some atom
  pub word : word_of bound atom.what ≡ Some c.word
  pub number : c.number ≡ n

pub chosen : (bound : List Sym) (atoms : List Atom) (estimates : List ℕ) (n : ℕ) (c : Choice) → choice_at bound atoms estimates n ≡ Some c → Chosen bound atoms n c
chosen bound atoms estimates n c h = at (slice_get atoms n) refl h
  where
    of : (a : Atom) (o : Option StepWord) → slice_get atoms n ≡ Some a → word_of bound a.what ≡ o → option_map (choice_of n (get_or estimates n 0)) o ≡ Some c → Chosen bound atoms n c
    of a None e f g = cc
    of a (Some w) e f g =
        let same : choice_of n (get_or estimates n 0) w ≡ c = some_same g in
        record { atom = a; there = e; word = f ∙ ap (λ (d : Choice). Some d.word) same; number = ap (λ (d : Choice). d.number) (sym same) }
      where
        some_same : {c d : Choice} → Some c ≡ Some d → c ≡ d
        some_same e = cc

    at : (o : Option Atom) → slice_get atoms n ≡ o → option_and_then (λ (a : Atom). option_map (choice_of n (get_or estimates n 0)) (word_of bound a.what)) o ≡ Some c → Chosen bound atoms n c
    at None e g = cc
    at (Some a) e g = of a (word_of bound a.what) e refl g

module _ (bound : List Sym) (atoms : List Atom) (estimates : List ℕ) where
  abbrev Goes : Option Choice → ℕ → Option Choice
  Goes best n = lesser best (choice_at bound atoms estimates n)

  either : (a b : Option Choice) (c : Choice) → lesser a b ≡ Some c → (a ≡ Some c) ⊎ (b ≡ Some c)
  either None b c h = inr h
  either (Some a) None c h = inl h
  either (Some a) (Some b) c h =
      elim (comes_before b a) as (λ t. cond t (Some b) (Some a) ≡ Some c → ((Some a) ≡ Some c) ⊎ ((Some b) ≡ Some c)) [ true ↦ λ g. inr g | false ↦ λ g. inl g ] h

  -- the least is one of those that are left
  among : (best : Option Choice) (left : List ℕ) (c : Choice) → fold Goes best left ≡ Some c → (best ≡ Some c) ⊎ ((n : ℕ) × (has_number left n ≡ true) × (choice_at bound atoms estimates n ≡ Some c))
  among best [] c h = inl h
  among best (n ∷ left) c h =
      ⊎_elim
      (λ e. ⊎_elim (λ f. inl f) (λ f. inr (n, or_left (n == n) _ (itself n), f)) (either best (choice_at bound atoms estimates n) c e))
      (λ e. inr (e.0, or_right (n == e.0) _ e.1, e.2)) (among (Goes best n) left c h)

  pub least_among : (left : List ℕ) (c : Choice) → least bound atoms estimates left ≡ Some c → (has_number left c.number ≡ true) × Chosen bound atoms c.number c
  least_among left c h =
      ⊎_elim (λ e. absurd (nothing e))
      (λ e.
      let is = chosen bound atoms estimates e.0 c e.2 in
      (subst (λ n. has_number left n ≡ true) (sym is.number) e.1, subst (λ n. Chosen bound atoms n c) (sym is.number) is)) (among None left c h)
    where
      nothing : {c : Choice} → None ≡ Some c → ⊥
      nothing e = cc

  -- where there is no least one, none that is left may come
  some_stays : (c : Choice) (left : List ℕ) → fold Goes (Some c) left ≡ None → ⊥
  some_stays c [] h = cc
  some_stays c (n ∷ left) h = by (λ d. some_stays d left) (choice_at bound atoms estimates n) h
    where
      by : ((d : Choice) → fold Goes (Some d) left ≡ None → ⊥) → (o : Option Choice) → fold Goes (lesser (Some c) o) left ≡ None → ⊥
      by stays None g = stays c g
      by stays (Some d) g = elim (comes_before d c) as (λ t. fold Goes (cond t (Some d) (Some c)) left ≡ None → ⊥) [ true ↦ λ k. stays d k | false ↦ λ k. stays c k ] g

  pub none_may_come : (left : List ℕ) → least bound atoms estimates left ≡ None → (n : ℕ) → has_number left n ≡ true → choice_at bound atoms estimates n ≡ None
  none_may_come [] h n l = cc
  none_may_come (m ∷ left) h n l = by (λ g s. none_may_come left g n s) (choice_at bound atoms estimates m) refl h
    where
      by : (least bound atoms estimates left ≡ None → has_number left n ≡ true → choice_at bound atoms estimates n ≡ None)
          → (o : Option Choice) → choice_at bound atoms estimates m ≡ o → fold Goes o left ≡ None → choice_at bound atoms estimates n ≡ None
      by rest None e g = or_elim (m == n) (has_number left n) l (λ s. subst (λ k. choice_at bound atoms estimates k ≡ None) (same_number m n s) e) (λ s. rest g s)
      by rest (Some d) e g = absurd (some_stays d left g)

  pub no_word : (n : ℕ) (a : Atom) → slice_get atoms n ≡ Some a → choice_at bound atoms estimates n ≡ None → word_of bound a.what ≡ None
  no_word n a e h = by (word_of bound a.what) refl (sym (ap (option_and_then (λ (b : Atom). option_map (choice_of n (get_or estimates n 0)) (word_of bound b.what))) e) ∙ h)
    where
      by : (o : Option StepWord) → word_of bound a.what ≡ o → option_map (choice_of n (get_or estimates n 0)) (word_of bound a.what) ≡ None → word_of bound a.what ≡ None
      by None f g = f
      by (Some w) f g = absurd (some_none (ap (option_map (choice_of n (get_or estimates n 0))) (sym f) ∙ g))
        where
          some_none : {c : Choice} → Some c ≡ None → ⊥
          some_none k = cc

-- an atom that may not come begins at what is not bound, and is none of a node
nothing_some : {w : StepWord} → Some w ≡ None → ⊥
nothing_some e = cc

module _ (bound : List Sym) where
  by_bound_waits : (x : Sym) (vars : List Sym) → by_bound bound (x ∷ vars) None ≡ None → lists bound x ≡ false
  by_bound_waits x vars h = at (lists bound x) refl
    where
      at : (b : Bool) → lists bound x ≡ b → b ≡ false
      at false e = refl
      at true e = absurd (second (list_all (lists bound) (x ∷ vars)) h)
        where
          any : list_any (lists bound) (x ∷ vars) ≡ true
          any = or_left (lists bound x) _ e

          second : (all : Bool) → cond all (Some Check) (cond (list_any (lists bound) (x ∷ vars)) (Some Expand) None) ≡ None → ⊥
          second true g = nothing_some g
          second false g = nothing_some (ap (λ t. cond t (Some Expand) None) (sym any) ∙ g)

  from_bound_waits : (x y : Sym) (w : StepWord) → from_bound bound x y w ≡ None → lists bound x ≡ false
  from_bound_waits x y w h = elim (lists bound x) as (λ b. cond b (Some (cond (lists bound y) Check w)) None ≡ None → b ≡ false) [ true ↦ λ g. absurd (nothing_some g) | false ↦ λ g. refl ] h

  searched_waits : (x : Sym) → searched_from bound x ≡ None → lists bound x ≡ false
  searched_waits x h = elim (lists bound x) as (λ b. cond b (Some Search) None ≡ None → b ≡ false) [ true ↦ λ g. absurd (nothing_some g) | false ↦ λ g. refl ] h

  scanned : (vars : List Sym) → by_bound bound vars (Some Scan) ≡ None → ⊥
  scanned vars h = at (list_all (lists bound) vars) (list_any (lists bound) vars) h
    where
      at : (s t : Bool) → cond s (Some Check) (cond t (Some Expand) (Some Scan)) ≡ None → ⊥
      at true t g = nothing_some g
      at false true g = nothing_some g
      at false false g = nothing_some g

  pub waits_for : (what : AtomWhat) → word_of bound what ≡ None → lists bound (begins_at what) ≡ false
  waits_for (atom.Node x labels) h = absurd (scanned (x ∷ []) h)
  waits_for (atom.Edge x e y way labels) h = by_bound_waits x (e ∷ y ∷ []) h
  waits_for (atom.Property x kind name v) h = from_bound_waits x v Expand h
  waits_for (atom.Stored x p y labels) h = absurd (scanned (x ∷ p ∷ y ∷ []) h)
  waits_for (atom.Reach x y regex views) h = from_bound_waits x y Search h
  waits_for (atom.Found x p y k cost regex views) h = searched_waits x h
  waits_for (atom.All x p y regex views) h = searched_waits x h

  pub nodes_come : (what : AtomWhat) → rank what ≡ 0 → word_of bound what ≡ None → ⊥
  nodes_come (atom.Node x labels) r h = scanned (x ∷ []) h
  nodes_come (atom.Edge x e y way labels) r h = absurd (omega (arith, r))
  nodes_come (atom.Property x kind name v) r h = absurd (omega (arith, r))
  nodes_come (atom.Stored x p y labels) r h = absurd (omega (arith, r))
  nodes_come (atom.Reach x y regex views) r h = absurd (omega (arith, r))
  nodes_come (atom.Found x p y k cost regex views) r h = absurd (omega (arith, r))
  nodes_come (atom.All x p y regex views) r h = absurd (omega (arith, r))

-- no atom comes as a condition
module _ (number : ℕ) (plans : ℕ → PlanRow) (p : PlanTree) (n : ℕ) (bound : List Sym) where
  abbrev Meets : Option StepWord → Type 0
  Meets o = (w : StepWord) → o ≡ Some w → step_by number plans p w n ≡ AtomPlan number n p

  of_some : (w : StepWord) → step_by number plans p w n ≡ AtomPlan number n p → Meets (Some w)
  of_some w h v e = subst (λ u. step_by number plans p u n ≡ AtomPlan number n p) (same e) h
    where
      same : {u v : StepWord} → Some u ≡ Some v → u ≡ v
      same e = cc

  of_none : Meets None
  of_none v e = absurd (nothing e)
    where
      nothing : {u : StepWord} → None ≡ Some u → ⊥
      nothing e = cc

  of_bound : (vars : List Sym) (o : Option StepWord) → Meets o → Meets (by_bound bound vars o)
  of_bound vars o m = at (list_all (lists bound) vars) (list_any (lists bound) vars)
    where
      at : (s t : Bool) → Meets (cond s (Some Check) (cond t (Some Expand) o))
      at true t = of_some Check refl
      at false true = of_some Expand refl
      at false false = m

  of_from : (x y : Sym) (w : StepWord) → step_by number plans p w n ≡ AtomPlan number n p → Meets (from_bound bound x y w)
  of_from x y w h = at (lists bound x) (lists bound y)
    where
      at : (s t : Bool) → Meets (cond s (Some (cond t Check w)) None)
      at true true = of_some Check refl
      at true false = of_some w h
      at false t = of_none

  of_search : (x : Sym) → Meets (searched_from bound x)
  of_search x = at (lists bound x)
    where
      at : (s : Bool) → Meets (cond s (Some Search) None)
      at true = of_some Search refl
      at false = of_none

  pub meets_one : (what : AtomWhat) → Meets (word_of bound what)
  meets_one (atom.Node x labels) = of_bound (x ∷ []) (Some Scan) (of_some Scan refl)
  meets_one (atom.Edge x e y way labels) = of_bound (x ∷ e ∷ y ∷ []) None of_none
  meets_one (atom.Property x kind name v) = of_from x v Expand refl
  meets_one (atom.Stored x p y labels) = of_bound (x ∷ p ∷ y ∷ []) (Some Scan) (of_some Scan refl)
  meets_one (atom.Reach x y regex views) = of_from x y Search refl
  meets_one (atom.Found x q y k cost regex views) = of_search x
  meets_one (atom.All x q y regex views) = of_search x
