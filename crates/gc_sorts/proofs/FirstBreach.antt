-- The first of some breaches is one of them, and none of them comes before it.
use Rattle.std.proofs.Common.{◌≡◌, refl, sym, ap, subst, ◌∙◌, ℕ, Bool, true, false, if◌then◌else◌, ◌||◌, ◌&&◌, nat_lt, nat_eq, inl, inr, Option, Some, None, List, [], ◌∷◌, slice_get, Result, Ok, Err, IfOk, arith}
use Rattle.std.proofs.lemmas.Bool.Decides.{nat_tests}
use Rattle.std.proofs.lemmas.Option.{same_Some}
use Rattle.gc_sorts.specs.declared.breach.Breach.{Breach}
use Rattle.gc_sorts.specs.declared.breach.SortRule.{SortRule}
use Rattle.gc_sorts.specs.declared.breach.SortRule.TheVariants.{UnknownGraph, UnknownView, UnknownName, SortClash, TwiceBound, SharedOptional, AllNotProjected, LooseEdge, TwiceGrouped, ViewNeedsEdge, KOutOfRange, AggregateHere, ExistsForm, NameTaken, TooLarge}
use Rattle.gc_sorts.specs.Breaches.{Breaches, none, one, both, IsAmong, IsFirst, rule_number, is_before, earlier_of, first_among}

-- a pair of numbers comes before another by its first, and of equal firsts by its second
abbrev less : (m n m' n' : ℕ) → Bool
less m n m' n' = nat_lt m m' || (nat_eq m m' && nat_lt n n')

less_itself : (m n : ℕ) → less m n m n ≡ false
less_itself m n = grind (arith, nat_tests)

less_turned : (m n m' n' : ℕ) → less m n m' n' ≡ true → less m' n' m n ≡ false
less_turned m n m' n' h = grind (arith, nat_tests)

less_on : (m n m' n' k l : ℕ) → less m n m' n' ≡ true → less k l m' n' ≡ false → less k l m n ≡ false
less_on m n m' n' k l h other = grind (arith, nat_tests)

less_neither : (m n m' n' : ℕ) → less m n m' n' ≡ false → less m' n' m n ≡ false → (m ≡ m') × (n ≡ n')
less_neither m n m' n' h turned = (grind (arith, nat_tests), grind (arith, nat_tests))

not_before_itself : (b : Breach) → is_before b b ≡ false
not_before_itself b = less_itself b.token (rule_number b.rule)

before_one_way : (b c : Breach) → is_before b c ≡ true → is_before c b ≡ false
before_one_way b c = less_turned b.token (rule_number b.rule) c.token (rule_number c.rule)

-- what is not before a breach is not before one that comes earlier
not_before_earlier : (b c d : Breach) → is_before b c ≡ true → is_before d c ≡ false → is_before d b ≡ false
not_before_earlier b c d = less_on b.token (rule_number b.rule) c.token (rule_number c.rule) d.token (rule_number d.rule)

-- the rules, each at the place behind as many as its number
abbrev rules : List SortRule
rules =
    UnknownGraph ∷ UnknownGraph ∷ UnknownView ∷ UnknownName ∷ SortClash ∷ TwiceBound ∷ SharedOptional ∷ AllNotProjected
    ∷ LooseEdge ∷ TwiceGrouped ∷ ViewNeedsEdge ∷ KOutOfRange ∷ AggregateHere ∷ ExistsForm ∷ NameTaken ∷ TooLarge ∷ []

at_its_number : (rule : SortRule) → slice_get rules (rule_number rule) ≡ Some rule
at_its_number UnknownGraph = refl
at_its_number UnknownView = refl
at_its_number UnknownName = refl
at_its_number SortClash = refl
at_its_number TwiceBound = refl
at_its_number SharedOptional = refl
at_its_number AllNotProjected = refl
at_its_number LooseEdge = refl
at_its_number TwiceGrouped = refl
at_its_number ViewNeedsEdge = refl
at_its_number KOutOfRange = refl
at_its_number AggregateHere = refl
at_its_number ExistsForm = refl
at_its_number NameTaken = refl
at_its_number TooLarge = refl

same_rule : (r s : SortRule) → rule_number r ≡ rule_number s → r ≡ s
same_rule r s e = same_Some r s (sym (at_its_number r) ∙ (ap (slice_get rules) e ∙ at_its_number s))

-- of two breaches one comes before the other
pub neither_before : (b c : Breach) → is_before b c ≡ false → is_before c b ≡ false → b ≡ c
neither_before b c h turned =
    let alike = less_neither b.token (rule_number b.rule) c.token (rule_number c.rule) h turned in
    let rule : b.rule ≡ c.rule = same_rule b.rule c.rule alike.1 in
    λ i. record { rule = rule i; token = alike.0 i }

-- which breach is the first hangs on which there are
same_first : (bs cs : Breaches) → ((b : Breach) → IsAmong b bs → IsAmong b cs) → ((b : Breach) → IsAmong b cs → IsAmong b bs)
    → (first : Option Breach) → IsFirst first bs → IsFirst first cs
same_first bs cs into back None h = λ c m. h c (back c m)
same_first bs cs into back (Some b) h = (into b h.0, λ c m. h.1 c (back c m))

-- none more
with_none : (first : Option Breach) (bs : Breaches) → IsFirst first bs → IsFirst first (both bs none)
with_none first bs h = same_first bs (both bs none) (λ b m. inl m) back first h
  where
    back : (b : Breach) → IsAmong b (both bs none) → IsAmong b bs
    back b (inl m) = m
    back b (inr m) = absurd m

-- one more
with_one : (first : Option Breach) (bs : Breaches) (b : Breach) → IsFirst first bs → IsFirst (earlier_of first b) (both bs (one b))
with_one None bs b h = (inr refl, others)
  where
    others : (c : Breach) → IsAmong c (both bs (one b)) → is_before c b ≡ false
    others c (inl m) = absurd (h c m)
    others c (inr e) = subst (λ d. is_before d b ≡ false) (sym e) (not_before_itself b)
with_one (Some first) bs b h = choose (is_before b first) refl
  where
    behind_new : is_before b first ≡ true → (c : Breach) → IsAmong c (both bs (one b)) → is_before c b ≡ false
    behind_new e c (inl m) = not_before_earlier b first c e (h.1 c m)
    behind_new e c (inr q) = subst (λ d. is_before d b ≡ false) (sym q) (not_before_itself b)

    behind_old : is_before b first ≡ false → (c : Breach) → IsAmong c (both bs (one b)) → is_before c first ≡ false
    behind_old e c (inl m) = h.1 c m
    behind_old e c (inr q) = subst (λ d. is_before d first ≡ false) (sym q) e

    choose : (t : Bool) → is_before b first ≡ t → IsFirst (Some (if t then b else first)) (both bs (one b))
    choose true e = (inr refl, behind_new e)
    choose false e = (inl h.0, behind_old e)

-- the first so far of some, and then these: the first of all
first_of_all : (first : Option Breach) (bs cs : Breaches) → IsFirst first bs → IsFirst (first_among first cs) (both bs cs)
first_of_all first bs none h = with_none first bs h
first_of_all first bs (one c) h = with_one first bs c h
first_of_all first bs (both left right) h =
    same_first (both (both bs left) right) (both bs (both left right)) into back (first_among (first_among first left) right)
    (first_of_all (first_among first left) (both bs left) right (first_of_all first bs left h))
  where
    into : (b : Breach) → IsAmong b (both (both bs left) right) → IsAmong b (both bs (both left right))
    into b (inl (inl m)) = inl m
    into b (inl (inr m)) = inr (inl m)
    into b (inr m) = inr (inr m)

    back : (b : Breach) → IsAmong b (both bs (both left right)) → IsAmong b (both (both bs left) right)
    back b (inl m) = inl (inl m)
    back b (inr (inl m)) = inl (inr m)
    back b (inr (inr m)) = inr m

pub the_first : (bs : Breaches) → IsFirst (first_among None bs) bs
the_first bs = same_first (both none bs) bs into (λ b m. inr m) (first_among None bs) (first_of_all None none bs (λ c m. m))
  where
    into : (b : Breach) → IsAmong b (both none bs) → IsAmong b bs
    into b (inl m) = absurd m
    into b (inr m) = m

-- the same of what a call gives
pub first_told : {E : Type 0} (told : Result (Option Breach) E) (bs : Breaches) → IfOk told (λ first. first ≡ first_among None bs) → IfOk told (λ first. IsFirst first bs)
first_told (Ok first) bs e = subst (λ o. IsFirst o bs) (sym e) (the_first bs)
first_told (Err refusal) bs e = tt
