-- Going back along two walks: the last difference that is met is the first from the start.
use Rattle.std.proofs.Common.{◌≡◌, ℕ, zero, suc, ◌+◌, ◌-◌, ◌≤◌, ◌<◌, List, [], ◌∷◌, ◌++◌, length, take, refl, sym, ap, ◌∙◌, subst, arith, Some, None, Ordering, Less, Equal, Greater, ◌⊎◌, inl, inr, length-append, append_assoc}
use Rattle.std.specs.List.{slice_get}
use Rattle.std.specs.Ordering.{MatchOrdering, nat_cmp, is_eq, ordering_then}
use Rattle.std.specs.Cmp.Lexicographic.{slice_cmp}
use Rattle.std.proofs.lemmas.Cmp.{ranked, nat_cmp_total, tied_itself}
use Rattle.std.proofs.lemmas.List.{append-nil, length-map, map-append}
use Rattle.gc_base.specs.declared.walk.Step.{Step}
use Rattle.gc_prod.specs.declared.moves.By.{By}
use Rattle.gc_prod.specs.declared.moves.By.TheVariants as by
use Rattle.gc_prod.specs.Products.{Setting}
use Rattle.gc_prod.specs.SymbolHops.{steps_by}
use Rattle.gc_search.specs.declared.comparing.Compared.{Compared}
use Rattle.gc_search.specs.declared.tail.Tail.{Tail}
use Rattle.gc_search.specs.Arrivals.{FoundWalk, edges_along, Told}
use Rattle.gc_search.specs.Links.{Link, numbered, steps_behind, walk_of, IsNumber, IsTold}
use Rattle.gc_search.specs.Tails.{edges_by, edges_if, edges_order, edges_told, tail_edges, list_order, compared_order, IsLevelOrder, IsMet}
use Rattle.gc_search.proofs.LoopLaws.{eq_told}
use Rattle.gc_search.proofs.TreeLaws.{numbered_at}

pub then_equal : (r : Ordering) → r ≡ ordering_then r Equal
then_equal Less = refl
then_equal Equal = refl
then_equal Greater = refl

then_then : (r s t : Ordering) → ordering_then r (ordering_then s t) ≡ ordering_then (ordering_then r s) t
then_then Less s t = refl
then_then Equal s t = refl
then_then Greater s t = refl

cmp_push : (u v : List ℕ) (a b : ℕ) → length u ≡ length v → slice_cmp nat_cmp (u ++ a ∷ []) (v ++ b ∷ []) ≡ ordering_then (slice_cmp nat_cmp u v) (nat_cmp a b)
cmp_push [] [] a b n = sym (then_equal (nat_cmp a b))
cmp_push [] (y ∷ v) a b n = absurd (omega (arith, n))
cmp_push (x ∷ u) [] a b n = absurd (omega (arith, n))
cmp_push (x ∷ u) (y ∷ v) a b n = ap (ordering_then (nat_cmp x y)) (cmp_push u v a b (omega (arith, n))) ∙ then_then (nat_cmp x y) (slice_cmp nat_cmp u v) (nat_cmp a b)

pub cmp_itself : (u : List ℕ) → slice_cmp nat_cmp u u ≡ Equal
cmp_itself [] = refl
cmp_itself (x ∷ u) = ap (λ r. ordering_then r (slice_cmp nat_cmp u u)) (tied_itself nat_cmp_total x) ∙ cmp_itself u

take_next : (xs : List ℕ) (i a : ℕ) → slice_get xs i ≡ Some a → take (suc i) xs ≡ take i xs ++ a ∷ []
take_next [] i a h = cc
take_next (x ∷ xs) zero a h = let e : x ≡ a = cc in ap (λ v. v ∷ []) e
take_next (x ∷ xs) (suc i) a h = ap (λ v. x ∷ v) (take_next xs i a h)

-- one edge less
pub tail_push : (setting : Setting) (walks : List FoundWalk) (t : Tail) (i a : ℕ) → t.left ≡ suc i → slice_get (edges_by setting t.by) i ≡ Some a
    → tail_edges setting walks t ≡ tail_edges setting walks (record { before = t.before; by = t.by; left = i }) ++ a ∷ []
tail_push setting walks t i a n h =
    let es = edges_by setting t.by in
    let first = edges_if (numbered walks t.before) in
    ap (λ m. first ++ take m es) n ∙ (ap (λ v. first ++ v) (take_next es i a h) ∙ sym (append_assoc first (take i es) (a ∷ [])))

pub order_push : (xs ys u v : List ℕ) (a b : ℕ) (passed : Ordering) → xs ≡ u ++ a ∷ [] → ys ≡ v ++ b ∷ [] → length xs ≡ length ys
    → ordering_then (slice_cmp nat_cmp u v) (ordering_then (nat_cmp a b) passed) ≡ ordering_then (slice_cmp nat_cmp xs ys) passed
order_push xs ys u v a b passed e f n =
    let m : length u ≡ length v = omega (arith, n, ap length e, ap length f, length-append u (a ∷ []), length-append v (b ∷ [])) in
    then_then (slice_cmp nat_cmp u v) (nat_cmp a b) passed
    ∙ ap (λ o. ordering_then o passed) (sym (ap (λ l. slice_cmp nat_cmp l ys) e ∙ (ap (slice_cmp nat_cmp (u ++ a ∷ [])) f ∙ cmp_push u v a b m)))

-- both are the same settled walk
pub order_met : (setting : Setting) (walks : List FoundWalk) (c : Compared) → IsMet c → compared_order setting walks c ≡ c.passed
order_met setting walks c met =
    let one : tail_edges setting walks c.one ≡ edges_if (numbered walks c.one.before) ++ [] = ap (λ n. edges_if (numbered walks c.one.before) ++ take n (edges_by setting c.one.by)) met.0 in
    let other : tail_edges setting walks c.other ≡ edges_if (numbered walks c.one.before) ++ [] =
    ap (λ n. edges_if (numbered walks c.other.before) ++ take n (edges_by setting c.other.by)) met.1 ∙ ap (λ n. edges_if (numbered walks n) ++ []) (sym met.2) in
    let same : tail_edges setting walks c.other ≡ tail_edges setting walks c.one = other ∙ sym one in
    ap (λ o. ordering_then o c.passed) (ap (slice_cmp nat_cmp (tail_edges setting walks c.one)) same ∙ cmp_itself (tail_edges setting walks c.one))

-- lists are the same exactly where they are level
pub list_told : (xs ys : List ℕ) → Told (is_eq (list_order xs ys)) (xs ≡ ys) (xs ≡ ys → ⊥)
list_told xs ys = by (nat_cmp (length xs) (length ys)) (ranked (length xs) (length ys) (nat_cmp (length xs) (length ys)) refl)
  where
    by : (o : Ordering) → MatchOrdering o (length xs < length ys) (length xs ≡ length ys) (length ys < length xs)
        → Told (is_eq (ordering_then o (slice_cmp nat_cmp xs ys))) (xs ≡ ys) (xs ≡ ys → ⊥)
    by Less h = λ e. omega (arith, h, ap length e)
    by Equal h = eq_told xs ys
    by Greater h = λ e. omega (arith, h, ap length e)

-- the edges of a move are those of its steps
edges_of_move : (setting : Setting) (b : By) (to : ℕ) → edges_along (steps_by setting.network b to) ≡ edges_by setting b
edges_of_move setting by.Nothing to = refl
edges_of_move setting (by.Edge e) to = refl
edges_of_move setting (by.Segment i) to = refl

pub numbered_none : (walks : List FoundWalk) (n : ℕ) → (n ≡ 0) ⊎ (length walks < n) → numbered walks n ≡ None
numbered_none walks zero h = refl
numbered_none walks (suc n) (inl e) = absurd (omega (arith, e))
numbered_none [] (suc n) (inr l) = refl
numbered_none (x ∷ walks) (suc zero) (inr l) = absurd (omega (arith, l))
numbered_none (x ∷ walks) (suc (suc n)) (inr l) = numbered_none walks (suc n) (inr (omega (arith, l)))

pub numbered_some : (walks : List FoundWalk) (n : ℕ) → 0 < n → n ≤ length walks → (a : FoundWalk) × (numbered walks n ≡ Some a)
numbered_some walks zero some within = absurd (omega (arith, some))
numbered_some [] (suc n) some within = absurd (omega (arith, within))
numbered_some (x ∷ walks) (suc zero) some within = (x, refl)
numbered_some (x ∷ walks) (suc (suc n)) some within = numbered_some walks (suc n) (omega arith) (omega (arith, within))

take_all : (xs : List ℕ) → take (length xs) xs ≡ xs
take_all [] = refl
take_all (x ∷ xs) = ap (λ v. x ∷ v) (take_all xs)

module _ (setting : Setting) (walks : List FoundWalk) (l : Link) where
  pub edges_none : (l.before ≡ 0) ⊎ (length walks < l.before) → [] ≡ edges_told setting walks l
  edges_none h = sym (ap (λ o. edges_along (steps_behind setting l o)) (numbered_none walks l.before h))

  pub edges_behind : (a : FoundWalk) → numbered walks l.before ≡ Some a → edges_told setting walks l ≡ edges_along a.steps ++ edges_by setting l.by
  edges_behind a is =
      ap (λ o. edges_along (steps_behind setting l o)) is
      ∙ (map-append (λ (s : Step). s.edge) a.steps (steps_by setting.network l.by l.at.node) ∙ ap (λ v. edges_along a.steps ++ v) (edges_of_move setting l.by l.at.node))

  pub edges_whole : (n : ℕ) → 0 < l.before → l.before ≤ length walks → n ≡ length (edges_by setting l.by)
      → tail_edges setting walks (record { before = l.before; by = l.by; left = n }) ≡ edges_told setting walks l
  edges_whole n some within all =
      let a = numbered_some walks l.before some within in
      let es = edges_by setting l.by in
      let one : edges_told setting walks l ≡ edges_along (a.0).steps ++ es = edges_behind a.0 a.1 in
      ap (λ m. edges_if (numbered walks l.before) ++ take m es) all ∙ (ap (λ v. edges_if (numbered walks l.before) ++ v) (take_all es) ∙ (ap (λ o. edges_if o ++ es) a.1 ∙ sym one))

-- a walk that extends one that is told is told
pub told_further : (setting : Setting) (walks : List FoundWalk) (place n : ℕ) (last l : Link) → slice_get walks place ≡ Some (walk_of setting walks last) → IsTold setting walks last
    → place < length walks → l.before ≡ place + 1 → l.edges ≡ last.edges + n → n ≡ length (edges_by setting l.by) → IsTold setting walks l
told_further setting walks place n last l at told within before edges count =
    let a = walk_of setting walks last in
    let some : 0 < l.before = omega (arith, before) in
    let e : place ≡ l.before - 1 = omega (arith, before) in
    let is : numbered walks l.before ≡ Some a = numbered_at walks l.before a some (subst (λ m. slice_get walks m ≡ Some a) e at) in
    let by_move = steps_by setting.network l.by l.at.node in
    let whole : length (walk_of setting walks l).steps ≡ length (a.steps ++ by_move) = ap (λ o. length (steps_behind setting l o)) is in
    let move : length by_move ≡ length (edges_by setting l.by) = sym (length-map by_move (λ (s : Step). s.edge)) ∙ ap length (edges_of_move setting l.by l.at.node) in
    record { before = omega (arith, before, within); edges = omega (arith, edges, count, told.edges, whole, move, length-append a.steps by_move) }

-- a walk by a move that stays has the edges of the one that it extends
pub edges_stay : (setting : Setting) (walks : List FoundWalk) (l k : Link) → IsNumber walks l.before → edges_by setting l.by ≡ [] → slice_get walks (l.before - 1) ≡ Some (walk_of setting walks k)
    → edges_told setting walks k ≡ edges_told setting walks l
edges_stay setting walks l k number none at =
    let is : numbered walks l.before ≡ Some (walk_of setting walks k) = numbered_at walks l.before (walk_of setting walks k) number.0 at in
    let own = edges_told setting walks k in
    sym (edges_behind setting walks l (walk_of setting walks k) is ∙ (ap (λ v. own ++ v) none ∙ append-nil own))

-- two walks by one edge behind settled ones
pub order_ranked : (setting : Setting) (walks : List FoundWalk) (l k : Link) (e f : ℕ) (told : Ordering) → l.by ≡ by.Edge e → k.by ≡ by.Edge f → IsLevelOrder walks l.before k.before told
    → ordering_then told (nat_cmp e f) ≡ edges_order setting walks l k
order_ranked setting walks l k e f told one other level =
    let a = numbered_some walks l.before level.first.0 level.first.1 in
    let b = numbered_some walks k.before level.second.0 level.second.1 in
    let xs = edges_along (a.0).steps in
    let ys = edges_along (b.0).steps in
    let first : edges_told setting walks l ≡ xs ++ e ∷ [] = edges_behind setting walks l a.0 a.1 ∙ ap (λ v. xs ++ edges_by setting v) one in
    let second : edges_told setting walks k ≡ ys ++ f ∷ [] = edges_behind setting walks k b.0 b.1 ∙ ap (λ v. ys ++ edges_by setting v) other in
    let same : length xs ≡ length ys = sym (ap (λ o. length (edges_if o)) a.1) ∙ (level.level ∙ ap (λ o. length (edges_if o)) b.1) in
    let is : told ≡ slice_cmp nat_cmp xs ys = level.order ∙ (ap (λ o. slice_cmp nat_cmp (edges_if o) (edges_if (numbered walks k.before))) a.1 ∙ ap (λ o. slice_cmp nat_cmp xs (edges_if o)) b.1) in
    ap (λ o. ordering_then o (nat_cmp e f)) is
    ∙ (sym (cmp_push xs ys e f same)
    ∙ (order_level (xs ++ e ∷ []) (ys ++ f ∷ []) (omega (arith, same, length-append xs (e ∷ []), length-append ys (f ∷ [])))
    ∙ sym (ap (λ v. list_order v (edges_told setting walks k)) first ∙ ap (list_order (xs ++ e ∷ [])) second)))
  where
    order_level : (us vs : List ℕ) → length us ≡ length vs → slice_cmp nat_cmp us vs ≡ list_order us vs
    order_level us vs n = sym (ap (λ m. ordering_then (nat_cmp m (length vs)) (slice_cmp nat_cmp us vs)) n ∙ ap (λ r. ordering_then r (slice_cmp nat_cmp us vs)) (tied_itself nat_cmp_total (length vs)))
