-- Breaches that are just what some places break.
use Rattle.std.proofs.Common.{◌≡◌, ◌↔◌, ◌⊎◌, inl, inr, ℕ, Bool, true, false, List, [], ◌∷◌, ◌++◌, map, refl, sym, ap, subst}
use Rattle.gc_ast.specs.Trees as tree
use Rattle.gc_ast.specs.Trees.{TreeOf, RowOf}
use Rattle.gc_sorts.specs.declared.breach.Breach.{Breach}
use Rattle.gc_sorts.specs.declared.breach.SortRule.{SortRule}
use Rattle.gc_sorts.specs.declared.breach.SortRule.TheVariants.{UnknownGraph, UnknownView, UnknownName, SortClash, TwiceBound}
use Rattle.gc_sorts.specs.declared.breach.SortRule.TheVariants.{SharedOptional, AllNotProjected, LooseEdge, TwiceGrouped, ViewNeedsEdge}
use Rattle.gc_sorts.specs.declared.breach.SortRule.TheVariants.{KOutOfRange, AggregateHere, ExistsForm, NameTaken, TooLarge}
use Rattle.gc_sorts.specs.Breaches.{Breaches, none, one, both, IsAmong, broken_if}
use Rattle.gc_sorts.specs.Matches.{each_use}
use Rattle.gc_sorts.specs.Patterns.{each}
use Rattle.gc_sorts.specs.Uses.{all_of}
use Rattle.gc_sorts.specs.Variables.{Use}
use Rattle.gc_sort_rules.specs.Places.{Occurrence, token_of}
use Rattle.gc_sort_rules.specs.Rules.{breaks, BreaksAt}

-- one of some places breaks a rule at a token
abbrev pub BrokenIn : List Occurrence → SortRule → ℕ → Type 0
BrokenIn [] rule token = ⊥
BrokenIn (o ∷ os) rule token = BreaksAt rule token o ⊎ BrokenIn os rule token

-- some breaches are just what some places break
abbrev pub Same : Breaches → List Occurrence → Type 0
Same bs os = (b : Breach) → IsAmong b bs ↔ BrokenIn os b.rule b.token

-- the same breaches, in whatever order
abbrev pub Alike : Breaches → Breaches → Type 0
Alike bs cs = (b : Breach) → IsAmong b bs ↔ IsAmong b cs

pub alike_same : (bs cs : Breaches) (os : List Occurrence) → Alike bs cs → Same cs os → Same bs os
alike_same bs cs os alike same b = (λ m. (same b).0 ((alike b).0 m), λ m. (alike b).1 ((same b).1 m))

-- none, and those of two parts
pub none_same : Same none []
none_same b = (λ m. m, λ m. m)

broken_left : (xs ys : List Occurrence) (rule : SortRule) (token : ℕ) → BrokenIn xs rule token → BrokenIn (xs ++ ys) rule token
broken_left [] ys rule token h = absurd h
broken_left (x ∷ xs) ys rule token (inl h) = inl h
broken_left (x ∷ xs) ys rule token (inr h) = inr (broken_left xs ys rule token h)

broken_right : (xs ys : List Occurrence) (rule : SortRule) (token : ℕ) → BrokenIn ys rule token → BrokenIn (xs ++ ys) rule token
broken_right [] ys rule token h = h
broken_right (x ∷ xs) ys rule token h = inr (broken_right xs ys rule token h)

broken_apart : (xs ys : List Occurrence) (rule : SortRule) (token : ℕ) → BrokenIn (xs ++ ys) rule token → BrokenIn xs rule token ⊎ BrokenIn ys rule token
broken_apart [] ys rule token h = inr h
broken_apart (x ∷ xs) ys rule token (inl h) = inl (inl h)
broken_apart (x ∷ xs) ys rule token (inr h) = behind (broken_apart xs ys rule token h)
  where
    behind : BrokenIn xs rule token ⊎ BrokenIn ys rule token → BrokenIn (x ∷ xs) rule token ⊎ BrokenIn ys rule token
    behind (inl m) = inl (inr m)
    behind (inr m) = inr m

pub both_same : (left right : Breaches) (xs ys : List Occurrence) → Same left xs → Same right ys → Same (both left right) (xs ++ ys)
both_same left right xs ys l r b = (into, λ m. back (broken_apart xs ys b.rule b.token m))
  where
    into : IsAmong b (both left right) → BrokenIn (xs ++ ys) b.rule b.token
    into (inl m) = broken_left xs ys b.rule b.token ((l b).0 m)
    into (inr m) = broken_right xs ys b.rule b.token ((r b).0 m)

    back : BrokenIn xs b.rule b.token ⊎ BrokenIn ys b.rule b.token → IsAmong b (both left right)
    back (inl m) = inl ((l b).1 m)
    back (inr m) = inr ((r b).1 m)

-- what breaks nothing may stand before and behind
none_in : (bs : Breaches) (b : Breach) → IsAmong b (both none bs) → IsAmong b bs
none_in bs b (inl m) = absurd m
none_in bs b (inr m) = m

pub none_before : (bs : Breaches) → Alike bs (both none bs)
none_before bs b = (λ m. inr m, none_in bs b)

none_out : (bs : Breaches) (b : Breach) → IsAmong b (both bs none) → IsAmong b bs
none_out bs b (inl m) = m
none_out bs b (inr m) = absurd m

pub none_behind : (bs : Breaches) → Alike bs (both bs none)
none_behind bs b = (λ m. inl m, none_out bs b)

-- parts may be put in the place of parts
left_in : (l k r : Breaches) → Alike l k → (b : Breach) → IsAmong b (both l r) → IsAmong b (both k r)
left_in l k r alike b (inl m) = inl ((alike b).0 m)
left_in l k r alike b (inr m) = inr m

pub alike_left : (l k r : Breaches) → Alike l k → Alike (both l r) (both k r)
alike_left l k r alike b = (left_in l k r alike b, left_in k l r (λ c. ((alike c).1, (alike c).0)) b)

right_in : (l r k : Breaches) → Alike r k → (b : Breach) → IsAmong b (both l r) → IsAmong b (both l k)
right_in l r k alike b (inl m) = inl m
right_in l r k alike b (inr m) = inr ((alike b).0 m)

pub alike_right : (l r k : Breaches) → Alike r k → Alike (both l r) (both l k)
alike_right l r k alike b = (right_in l r k alike b, right_in l k r (λ c. ((alike c).1, (alike c).0)) b)

pub then_alike : (x y z : Breaches) → Alike x y → Alike y z → Alike x z
then_alike x y z first second b = (λ m. (second b).0 ((first b).0 m), λ m. (first b).1 ((second b).1 m))

-- in another order
swap_in : (l r : Breaches) (b : Breach) → IsAmong b (both l r) → IsAmong b (both r l)
swap_in l r b (inl m) = inr m
swap_in l r b (inr m) = inl m

pub swapped : (l r : Breaches) → Alike (both l r) (both r l)
swapped l r b = (swap_in l r b, swap_in r l b)

-- the second of three comes first
second_in : (x y z : Breaches) (b : Breach) → IsAmong b (both x (both y z)) → IsAmong b (both y (both x z))
second_in x y z b (inl m) = inr (inl m)
second_in x y z b (inr (inl m)) = inl m
second_in x y z b (inr (inr m)) = inr (inr m)

pub second_first : (x y z : Breaches) → Alike (both x (both y z)) (both y (both x z))
second_first x y z b = (second_in x y z b, second_in y x z b)

-- the firsts of two pairs, and then the seconds
pairs_in : (u v x y : Breaches) (b : Breach) → IsAmong b (both (both u v) (both x y)) → IsAmong b (both (both u x) (both v y))
pairs_in u v x y b (inl (inl m)) = inl (inl m)
pairs_in u v x y b (inl (inr m)) = inr (inl m)
pairs_in u v x y b (inr (inl m)) = inl (inr m)
pairs_in u v x y b (inr (inr m)) = inr (inr m)

pub pairs : (u v x y : Breaches) → Alike (both (both u v) (both x y)) (both (both u x) (both v y))
pairs u v x y b = (pairs_in u v x y b, pairs_in u x v y b)

-- two of three as one
group_in : (x y z : Breaches) (b : Breach) → IsAmong b (both x (both y z)) → IsAmong b (both (both x y) z)
group_in x y z b (inl m) = inl (inl m)
group_in x y z b (inr (inl m)) = inl (inr m)
group_in x y z b (inr (inr m)) = inr m

group_out : (x y z : Breaches) (b : Breach) → IsAmong b (both (both x y) z) → IsAmong b (both x (both y z))
group_out x y z b (inl (inl m)) = inl m
group_out x y z b (inl (inr m)) = inr (inl m)
group_out x y z b (inr m) = inr (inr m)

pub grouped : (x y z : Breaches) → Alike (both x (both y z)) (both (both x y) z)
grouped x y z b = (group_in x y z b, group_out x y z b)

pub ungrouped : (x y z : Breaches) → Alike (both (both x y) z) (both x (both y z))
ungrouped x y z b = (group_out x y z b, group_in x y z b)

-- those of each tree of a row, and of each place of a list
pub each_same : {N : Type 0} {k : tree.Kind} (f : TreeOf N k → Breaches) (g : TreeOf N k → List Occurrence) → ((t : TreeOf N k) → Same (f t) (g t))
    → (ts : TreeOf N (RowOf k)) → Same (each f ts) (all_of g ts)
each_same f g same tree.none = none_same
each_same f g same (tree.more t ts) = both_same (f t) (each f ts) (g t) (all_of g ts) (same t) (each_same f g same ts)

-- two kinds of each tree of a row
pub each_pair_same : {N : Type 0} {k : tree.Kind} (f h : TreeOf N k → Breaches) (g : TreeOf N k → List Occurrence)
    → ((t : TreeOf N k) → Same (both (f t) (h t)) (g t)) → (ts : TreeOf N (RowOf k)) → Same (both (each f ts) (each h ts)) (all_of g ts)
each_pair_same f h g same tree.none = alike_same (both none none) none [] (λ b. ((none_before none b).1, (none_before none b).0)) none_same
each_pair_same f h g same (tree.more t ts) =
    alike_same (both (both (f t) (each f ts)) (both (h t) (each h ts))) (both (both (f t) (h t)) (both (each f ts) (each h ts))) (g t ++ all_of g ts)
    (pairs (f t) (each f ts) (h t) (each h ts))
    (both_same (both (f t) (h t)) (both (each f ts) (each h ts)) (g t) (all_of g ts) (same t) (each_pair_same f h g same ts))

pub each_use_same : (f : Use → Breaches) (g : Use → Occurrence) → ((u : Use) → Same (f u) (g u ∷ [])) → (us : List Use) → Same (each_use f us) (map g us)
each_use_same f g same [] = none_same
each_use_same f g same (u ∷ us) = both_same (f u) (each_use f us) (g u ∷ []) (map g us) (same u) (each_use_same f g same us)

-- breaches as a list before others
abbrev pub listed : Breaches → List Breach → List Breach
listed none rest = rest
listed (one b) rest = b ∷ rest
listed (both left right) rest = listed left (listed right rest)

abbrev InList : Breach → List Breach → Type 0
InList b [] = ⊥
InList b (c ∷ cs) = (b ≡ c) ⊎ InList b cs

listed_right : (bs : Breaches) (rest : List Breach) (b : Breach) → InList b rest → InList b (listed bs rest)
listed_right none rest b m = m
listed_right (one c) rest b m = inr m
listed_right (both left right) rest b m = listed_right left (listed right rest) b (listed_right right rest b m)

listed_left : (bs : Breaches) (rest : List Breach) (b : Breach) → IsAmong b bs → InList b (listed bs rest)
listed_left none rest b m = absurd m
listed_left (one c) rest b m = inl m
listed_left (both left right) rest b (inl m) = listed_left left (listed right rest) b m
listed_left (both left right) rest b (inr m) = listed_right left (listed right rest) b (listed_left right rest b m)

listed_apart : (bs : Breaches) (rest : List Breach) (b : Breach) → InList b (listed bs rest) → IsAmong b bs ⊎ InList b rest
listed_apart none rest b m = inr m
listed_apart (one c) rest b m = m
listed_apart (both left right) rest b m = outer (listed_apart right rest b) (listed_apart left (listed right rest) b m)
  where
    inner : IsAmong b right ⊎ InList b rest → IsAmong b (both left right) ⊎ InList b rest
    inner (inl n) = inl (inr n)
    inner (inr n) = inr n

    outer : (InList b (listed right rest) → IsAmong b right ⊎ InList b rest) → IsAmong b left ⊎ InList b (listed right rest)
        → IsAmong b (both left right) ⊎ InList b rest
    outer apart (inl n) = inl (inl n)
    outer apart (inr n) = inner (apart n)

-- what a place breaks of some rules
abbrev pub told_by : List SortRule → Occurrence → List Breach
told_by [] o = []
told_by (rule ∷ rules) o = listed (broken_if (breaks rule o) rule (token_of o)) (told_by rules o)

abbrev pub all_rules : List SortRule
all_rules =
    UnknownGraph ∷ UnknownView ∷ UnknownName ∷ SortClash ∷ TwiceBound ∷ SharedOptional ∷ AllNotProjected
    ∷ LooseEdge ∷ TwiceGrouped ∷ ViewNeedsEdge ∷ KOutOfRange ∷ AggregateHere ∷ ExistsForm ∷ NameTaken ∷ TooLarge ∷ []

-- and of all of them
abbrev pub told : Occurrence → List Breach
told o = told_by all_rules o

abbrev HasRule : List SortRule → SortRule → Type 0
HasRule [] rule = ⊥
HasRule (r ∷ rs) rule = (rule ≡ r) ⊎ HasRule rs rule

has_rule : (rule : SortRule) → HasRule all_rules rule
has_rule UnknownGraph = inl refl
has_rule UnknownView = inr (inl refl)
has_rule UnknownName = inr (inr (inl refl))
has_rule SortClash = inr (inr (inr (inl refl)))
has_rule TwiceBound = inr (inr (inr (inr (inl refl))))
has_rule SharedOptional = inr (inr (inr (inr (inr (inl refl)))))
has_rule AllNotProjected = inr (inr (inr (inr (inr (inr (inl refl))))))
has_rule LooseEdge = inr (inr (inr (inr (inr (inr (inr (inl refl)))))))
has_rule TwiceGrouped = inr (inr (inr (inr (inr (inr (inr (inr (inl refl))))))))
has_rule ViewNeedsEdge = inr (inr (inr (inr (inr (inr (inr (inr (inr (inl refl)))))))))
has_rule KOutOfRange = inr (inr (inr (inr (inr (inr (inr (inr (inr (inr (inl refl))))))))))
has_rule AggregateHere = inr (inr (inr (inr (inr (inr (inr (inr (inr (inr (inr (inl refl)))))))))))
has_rule ExistsForm = inr (inr (inr (inr (inr (inr (inr (inr (inr (inr (inr (inr (inl refl))))))))))))
has_rule NameTaken = inr (inr (inr (inr (inr (inr (inr (inr (inr (inr (inr (inr (inr (inl refl)))))))))))))
has_rule TooLarge = inr (inr (inr (inr (inr (inr (inr (inr (inr (inr (inr (inr (inr (inr (inl refl))))))))))))))

among_if : (test : Bool) (rule : SortRule) (token : ℕ) (b : Breach) → IsAmong b (broken_if test rule token)
    → (test ≡ true) × (b ≡ record { rule = rule; token = token })
among_if true rule token b e = (refl, e)
among_if false rule token b m = absurd m

if_among : (test : Bool) (rule : SortRule) (token : ℕ) → test ≡ true → (b : Breach) → b ≡ record { rule = rule; token = token }
    → IsAmong b (broken_if test rule token)
if_among test rule token e b same = subst (λ t. IsAmong b (broken_if t rule token)) (sym e) same

told_out : (rules : List SortRule) (o : Occurrence) (b : Breach) → InList b (told_by rules o) → BreaksAt b.rule b.token o
told_out [] o b m = absurd m
told_out (rule ∷ rules) o b m = choose (told_out rules o b) (listed_apart (broken_if (breaks rule o) rule (token_of o)) (told_by rules o) b m)
  where
    here : (breaks rule o ≡ true) × (b ≡ record { rule = rule; token = token_of o }) → BreaksAt b.rule b.token o
    here h = (sym (ap (λ (c : Breach). c.token) h.1), subst (λ r. breaks r o ≡ true) (sym (ap (λ (c : Breach). c.rule) h.1)) h.0)

    choose : (InList b (told_by rules o) → BreaksAt b.rule b.token o)
        → IsAmong b (broken_if (breaks rule o) rule (token_of o)) ⊎ InList b (told_by rules o) → BreaksAt b.rule b.token o
    choose rest (inl n) = here (among_if (breaks rule o) rule (token_of o) b n)
    choose rest (inr n) = rest n

told_in : (rules : List SortRule) (o : Occurrence) (b : Breach) → HasRule rules b.rule → BreaksAt b.rule b.token o → InList b (told_by rules o)
told_in [] o b m h = absurd m
told_in (rule ∷ rules) o b (inl e) h =
    listed_left (broken_if (breaks rule o) rule (token_of o)) (told_by rules o) b
    (if_among (breaks rule o) rule (token_of o) (subst (λ r. breaks r o ≡ true) e h.1) b (λ i. record { rule = e i; token = (sym h.0) i }))
told_in (rule ∷ rules) o b (inr m) h =
    listed_right (broken_if (breaks rule o) rule (token_of o)) (told_by rules o) b (told_in rules o b m h)

-- breaches are what a place breaks where they are what the fifteen tests tell of it
pub place_same : (bs : Breaches) (o : Occurrence) → listed bs [] ≡ told o → Same bs (o ∷ [])
place_same bs o e b = (λ m. inl (told_out all_rules o b (subst (InList b) e (listed_left bs [] b m))), back)
  where
    alone : IsAmong b bs ⊎ ⊥ → IsAmong b bs
    alone (inl m) = m
    alone (inr m) = absurd m

    back : BreaksAt b.rule b.token o ⊎ ⊥ → IsAmong b bs
    back (inl h) = alone (listed_apart bs [] b (subst (InList b) (sym e) (told_in all_rules o b (has_rule b.rule) h)))
    back (inr m) = absurd m
