-- A link fits another one exactly where it is looked up under one of its keys.
use Rattle.std.proofs.Common.{◌≡◌, ◌<◌, ◌+◌, ℕ, add-one, drop, drop-cons, get_or, Bool, true, false, ◌&&◌, ◌||◌, List, [], ◌∷◌, length, map, Option, Some, None, nat_eq, refl, sym, ap, ◌∙◌, arith}
use Rattle.std.specs.List.{list_any}
use Rattle.std.proofs.lemmas.Bool.Decides.{nat_tests}
use Rattle.gc_base.specs.declared.place.Direction.{Direction}
use Rattle.gc_base.specs.declared.place.Direction.TheVariants.{Forward, Backward, Either}
use Rattle.gc_base.specs.declared.place.Sym.{Sym}
use Rattle.gc_expr.specs.Views.{Names, name_of}
use Rattle.gc_ast.specs.Names.{same_name}
use Rattle.gc_sorts.specs.declared.link.LinkAt.{LinkAt}
use Rattle.gc_sorts.specs.declared.link.LinkKey.{LinkKey}
use Rattle.gc_sorts.specs.LinkKeys.{key_between, has_key, is_key, same_key, same_truth}
use Rattle.gc_sorts.specs.Links.{link_by, fits, same_neighbour}
use Rattle.gc_sorts.specs.Orders.{slot}

-- truths for what two links have in common: the name, the neighbours on the left and on the right, and the same crosswise
module _ (n ll rr lr rl : Bool) where
  -- two arrows of one way, and of two ways
  one_way : ((n && (ll && (rr && true))) || (n && (ll && (rr && true)))) ≡ (n && ((ll && (rr && true)) || (lr && (rl && false))))
  one_way = grind arith

  one_way_back : ((n && (rr && (ll && true))) || (n && (rr && (ll && true)))) ≡ (n && ((ll && (rr && true)) || (lr && (rl && false))))
  one_way_back = grind arith

  two_ways : ((n && (lr && (rl && true))) || (n && (lr && (rl && true)))) ≡ (n && ((ll && (rr && false)) || (lr && (rl && true))))
  two_ways = grind arith

  two_ways_back : ((n && (rl && (lr && true))) || (n && (rl && (lr && true)))) ≡ (n && ((ll && (rr && false)) || (lr && (rl && true))))
  two_ways_back = grind arith

  -- no arrow
  no_way : ((n && (ll && (rr && true))) || (n && (lr && (rl && true)))) ≡ (n && ((ll && (rr && true)) || (lr && (rl && true))))
  no_way = grind arith

  -- one arrow alone
  arrow_alone : ((n && (ll && (rr && false))) || (n && (lr && (rl && false)))) ≡ (n && ((ll && (rr && false)) || (lr && (rl && false))))
  arrow_alone = grind arith

  arrow_alone_back : ((n && (rl && (lr && false))) || (n && (rr && (ll && false)))) ≡ (n && ((ll && (rr && false)) || (lr && (rl && false))))
  arrow_alone_back = grind arith

  no_arrow : ((n && (ll && (rr && false))) || (n && (ll && (rr && false)))) ≡ (n && ((ll && (rr && false)) || (lr && (rl && false))))
  no_arrow = grind arith

  no_arrow_back : ((n && (lr && (rl && false))) || (n && (lr && (rl && false)))) ≡ (n && ((ll && (rr && false)) || (lr && (rl && false))))
  no_arrow_back = grind arith

-- a link without two neighbours is fit by none
neither : (n x : Bool) → (n && (false || (x && false))) ≡ false
neither n x = grind arith

no_other : (n x : Bool) → (n && ((x && false) || false)) ≡ false
no_other n x = grind arith

-- a key between neighbours finds a link exactly where theirs fits it
between : (names : Names) (count n l r : ℕ) (an al ar bn : Sym) (bl br : Option Sym) (wa wb : Direction)
    → ((o : Sym) → same_name (name_of names an) (name_of names o) ≡ nat_eq n (slot count o))
    → ((o : Sym) → same_name (name_of names al) (name_of names o) ≡ nat_eq l (slot count o))
    → ((o : Sym) → same_name (name_of names ar) (name_of names o) ≡ nat_eq r (slot count o))
    → has_key count (record { name = bn; left = bl; right = br; way = wb }) (key_between n l r wa)
    ≡ fits (link_by names (record { name = an; left = Some al; right = Some ar; way = wa })) (link_by names (record { name = bn; left = bl; right = br; way = wb }))
between names count n l r an al ar bn None None wa wb en el er =
    sym (neither (same_name (name_of names an) (name_of names bn)) false)
between names count n l r an al ar bn None (Some br) wa wb en el er =
    sym (neither (same_name (name_of names an) (name_of names bn)) (same_name (name_of names al) (name_of names br)))
between names count n l r an al ar bn (Some bl) None wa wb en el er =
    sym (no_other (same_name (name_of names an) (name_of names bn)) (same_name (name_of names al) (name_of names bl)))
between names count n l r an al ar bn (Some bl) (Some br) Forward Forward en el er =
    rw (en bn, el bl, er br, el br, er bl) (one_way (nat_eq n (slot count bn)) (nat_eq l (slot count bl)) (nat_eq r (slot count br)) (nat_eq l (slot count br)) (nat_eq r (slot count bl)))
between names count n l r an al ar bn (Some bl) (Some br) Forward Backward en el er =
    rw (en bn, el bl, er br, el br, er bl) (two_ways (nat_eq n (slot count bn)) (nat_eq l (slot count bl)) (nat_eq r (slot count br)) (nat_eq l (slot count br)) (nat_eq r (slot count bl)))
between names count n l r an al ar bn (Some bl) (Some br) Forward Either en el er =
    rw (en bn, el bl, er br, el br, er bl) (arrow_alone (nat_eq n (slot count bn)) (nat_eq l (slot count bl)) (nat_eq r (slot count br)) (nat_eq l (slot count br)) (nat_eq r (slot count bl)))
between names count n l r an al ar bn (Some bl) (Some br) Backward Forward en el er =
    rw (en bn, el bl, er br, el br, er bl) (two_ways_back (nat_eq n (slot count bn)) (nat_eq l (slot count bl)) (nat_eq r (slot count br)) (nat_eq l (slot count br)) (nat_eq r (slot count bl)))
between names count n l r an al ar bn (Some bl) (Some br) Backward Backward en el er =
    rw (en bn, el bl, er br, el br, er bl) (one_way_back (nat_eq n (slot count bn)) (nat_eq l (slot count bl)) (nat_eq r (slot count br)) (nat_eq l (slot count br)) (nat_eq r (slot count bl)))
between names count n l r an al ar bn (Some bl) (Some br) Backward Either en el er =
    rw (en bn, el bl, er br, el br, er bl) (arrow_alone_back (nat_eq n (slot count bn)) (nat_eq l (slot count bl)) (nat_eq r (slot count br)) (nat_eq l (slot count br)) (nat_eq r (slot count bl)))
between names count n l r an al ar bn (Some bl) (Some br) Either Forward en el er =
    rw (en bn, el bl, er br, el br, er bl) (no_arrow (nat_eq n (slot count bn)) (nat_eq l (slot count bl)) (nat_eq r (slot count br)) (nat_eq l (slot count br)) (nat_eq r (slot count bl)))
between names count n l r an al ar bn (Some bl) (Some br) Either Backward en el er =
    rw (en bn, el bl, er br, el br, er bl) (no_arrow_back (nat_eq n (slot count bn)) (nat_eq l (slot count bl)) (nat_eq r (slot count br)) (nat_eq l (slot count br)) (nat_eq r (slot count bl)))
between names count n l r an al ar bn (Some bl) (Some br) Either Either en el er =
    rw (en bn, el bl, er br, el br, er bl) (no_way (nat_eq n (slot count bn)) (nat_eq l (slot count bl)) (nat_eq r (slot count br)) (nat_eq l (slot count br)) (nat_eq r (slot count bl)))

-- a key that a link has finds another link exactly where the link fits it
pub found_where_fit : (names : Names) (a : LinkAt) (left right : Sym) (key : LinkKey) (n l r : ℕ) → a.left ≡ Some left → a.right ≡ Some right
    → ((o : Sym) → same_name (name_of names a.name) (name_of names o) ≡ nat_eq n (slot (length names) o))
    → ((o : Sym) → same_name (name_of names left) (name_of names o) ≡ nat_eq l (slot (length names) o))
    → ((o : Sym) → same_name (name_of names right) (name_of names o) ≡ nat_eq r (slot (length names) o))
    → key ≡ key_between n l r a.way
    → (other : LinkAt) → has_key (length names) other key ≡ fits (link_by names a) (link_by names other)
found_where_fit names a left right key n l r is_left is_right en el er is other =
    ap (has_key (length names) other) is
    ∙ between names (length names) n l r a.name left right other.name other.left other.right a.way other.way en el er
    ∙ (λ i. fits (link_by names (record { name = a.name; left = sym is_left i; right = sym is_right i; way = a.way })) (link_by names other))

-- a link without a neighbour fits none
pub none_without_left : (names : Names) (a : LinkAt) → a.left ≡ None → (other : LinkAt) → false ≡ fits (link_by names a) (link_by names other)
none_without_left names a is other =
    sym (at_left (same_name (name_of names a.name) (name_of names other.name)))
    ∙ (λ i. fits (link_by names (record { name = a.name; left = sym is i; right = a.right; way = a.way })) (link_by names other))
  where
    at_left : (n : Bool) → (n && (false || false)) ≡ false
    at_left true = refl
    at_left false = refl

pub none_without_right : (names : Names) (a : LinkAt) (left : Sym) → a.left ≡ Some left → a.right ≡ None → (other : LinkAt)
    → false ≡ fits (link_by names a) (link_by names other)
none_without_right names a left is_left is other =
    sym (at_right (same_name (name_of names a.name) (name_of names other.name)) (same_neighbour (Some (name_of names left)) (link_by names other).left)
    (same_neighbour (Some (name_of names left)) (link_by names other).right))
    ∙ (λ i. fits (link_by names (record { name = a.name; left = sym is_left i; right = sym is i; way = a.way })) (link_by names other))
  where
    at_right : (n x y : Bool) → (n && ((x && false) || (y && false))) ≡ false
    at_right n x y = grind arith

-- two keys are one whichever comes first
same_number : (a b : ℕ) → nat_eq a b ≡ nat_eq b a
same_number a b = grind (arith, nat_tests)

same_arrow : (a b : Bool) → same_truth a b ≡ same_truth b a
same_arrow true true = refl
same_arrow true false = refl
same_arrow false true = refl
same_arrow false false = refl

same_keys : (a b : LinkKey) → same_key a b ≡ same_key b a
same_keys a b =
    λ i. same_number a.name b.name i && (same_number a.from b.from i && (same_number a.to b.to i && same_arrow a.has_arrow b.has_arrow i))

-- what is known of a set of keys with one more
pub with_key : (k key : LinkKey) (o : Option LinkKey) (before : Bool) → o ≡ Some key → (same_key key k || before) ≡ (is_key k o || before)
with_key k key o before is = ap (λ b. b || before) (same_keys key k) ∙ ap (λ x. is_key k x || before) (sym is)

-- a key is one of those of the links so far, or of one of those that are left
joined : (before here rest : Bool) → ((here || before) || rest) ≡ (before || (here || rest))
joined before here rest = grind arith

pub more_keys : (count : ℕ) (k : LinkKey) (links : List LinkAt) (i : ℕ) (d : LinkAt) (before after : Bool) → i < length links
    → after ≡ (has_key count (get_or links i d) k || before)
    → (before || list_any (λ l. has_key count l k) (drop i links)) ≡ list_any (λ l. has_key count l k) links
    → (after || list_any (λ l. has_key count l k) (drop (i + 1) links)) ≡ list_any (λ l. has_key count l k) links
more_keys count k links i d before after inside added known =
    let left : List LinkAt = drop (i + 1) links in
    let next : get_or links i d ∷ left ≡ drop i links = rw add-one (sym (drop-cons links i d inside)) in
    ap (λ b. b || list_any (λ l. has_key count l k) left) added
    ∙ joined before (has_key count (get_or links i d) k) (list_any (λ l. has_key count l k) left)
    ∙ ap (λ ls. before || list_any (λ l. has_key count l k) ls) next
    ∙ known

-- among links by their numbers, and by the bytes of their names
pub any_link : (names : Names) (key : LinkKey) (a : LinkAt) (links : List LinkAt)
    → ((other : LinkAt) → has_key (length names) other key ≡ fits (link_by names a) (link_by names other))
    → list_any (λ l. has_key (length names) l key) links ≡ list_any (fits (link_by names a)) (map (link_by names) links)
any_link names key a [] same = refl
any_link names key a (l ∷ ls) same = λ i. same l i || any_link names key a ls same i

pub no_link : (names : Names) (a : LinkAt) (links : List LinkAt) → ((other : LinkAt) → false ≡ fits (link_by names a) (link_by names other))
    → false ≡ list_any (fits (link_by names a)) (map (link_by names) links)
no_link names a [] same = refl
no_link names a (l ∷ ls) same = no_link names a ls same ∙ (λ i. same l i || list_any (fits (link_by names a)) (map (link_by names) ls))
