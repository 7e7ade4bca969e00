-- The order of entries, and what an extension keeps.
use Rattle.std.proofs.Common.{◌≡◌, ℕ, ◌+◌, ◌<◌, ◌≤◌, List, [], ◌∷◌, ◌++◌, length, refl, sym, ap, ◌∙◌, subst, arith, inl, inr, ◌⊎◌, length-append}
use Rattle.std.proofs.lemmas.List.{append-nil}
use Rattle.gc_search.specs.Entries.{Entry, entry, LexLess, Before, Cheaper, Shorter, Lower, AtMost, Strictly, Same, extend, IsMoveCost}

pub lex_append : (xs ys zs : List ℕ) → LexLess xs ys → LexLess (xs ++ zs) (ys ++ zs)
lex_append [] ys zs h = elim h [ ]
lex_append (x ∷ xs) [] zs h = elim h [ ]
lex_append (x ∷ xs) (y ∷ ys) zs (inl l) = inl l
lex_append (x ∷ xs) (y ∷ ys) zs (inr h) = inr (h.0, lex_append xs ys zs h.1)

pub lex_trans : (xs ys zs : List ℕ) → LexLess xs ys → LexLess ys zs → LexLess xs zs
lex_trans [] ys zs h g = elim h [ ]
lex_trans (x ∷ xs) [] zs h g = elim h [ ]
lex_trans (x ∷ xs) (y ∷ ys) [] h g = elim g [ ]
lex_trans (x ∷ xs) (y ∷ ys) (z ∷ zs) (inl l) (inl m) = inl (omega (arith, l, m))
lex_trans (x ∷ xs) (y ∷ ys) (z ∷ zs) (inl l) (inr g) = inl (omega (arith, l, g.0))
lex_trans (x ∷ xs) (y ∷ ys) (z ∷ zs) (inr h) (inl m) = inl (omega (arith, h.0, m))
lex_trans (x ∷ xs) (y ∷ ys) (z ∷ zs) (inr h) (inr g) = inr (h.0 ∙ g.0, lex_trans xs ys zs h.1 g.1)

pub lex_not_self : (xs : List ℕ) → LexLess xs xs → ⊥
lex_not_self [] h = h
lex_not_self (x ∷ xs) (inl l) = omega (arith, l)
lex_not_self (x ∷ xs) (inr h) = lex_not_self xs h.1

pub before_trans : (a b c : Entry) → Before a b → Before b c → Before a c
before_trans a b c (Cheaper l) (Cheaper m) = Cheaper (omega (arith, l, m))
before_trans a b c (Cheaper l) (Shorter e m) = Cheaper (omega (arith, l, e))
before_trans a b c (Cheaper l) (Lower e f m) = Cheaper (omega (arith, l, e))
before_trans a b c (Shorter d l) (Cheaper m) = Cheaper (omega (arith, d, m))
before_trans a b c (Shorter d l) (Shorter e m) = Shorter (d ∙ e) (omega (arith, l, m))
before_trans a b c (Shorter d l) (Lower e f m) = Shorter (d ∙ e) (omega (arith, l, f))
before_trans a b c (Lower d g l) (Cheaper m) = Cheaper (omega (arith, d, m))
before_trans a b c (Lower d g l) (Shorter e m) = Shorter (d ∙ e) (omega (arith, g, m))
before_trans a b c (Lower d g l) (Lower e f m) = Lower (d ∙ e) (g ∙ f) (lex_trans a.edges b.edges c.edges l m)

pub before_at_most : (a b c : Entry) → Before a b → AtMost b c → Before a c
before_at_most a b c h (Strictly g) = before_trans a b c h g
before_at_most a b c h (Same e) = subst (λ x. Before a x) e h

pub at_most_before : (a b c : Entry) → AtMost a b → Before b c → Before a c
at_most_before a b c (Strictly h) g = before_trans a b c h g
at_most_before a b c (Same e) g = subst (λ x. Before x c) (sym e) g

pub at_most_trans : (a b c : Entry) → AtMost a b → AtMost b c → AtMost a c
at_most_trans a b c (Strictly h) g = Strictly (before_at_most a b c h g)
at_most_trans a b c (Same e) g = subst (λ x. AtMost x c) (sym e) g

-- the same walk: the order is that of the costs
pub before_same_walk : (a b : Entry) → Before a b → a.edges ≡ b.edges → a.cost < b.cost
before_same_walk a b (Cheaper l) e = l
before_same_walk a b (Shorter d l) e = let n : length a.edges ≡ length b.edges = ap length e in omega (arith, n, l)
before_same_walk a b (Lower d n l) e = elim (lex_not_self b.edges (subst (λ w. LexLess w b.edges) e l)) [ ]

pub at_most_same_walk : (a b : Entry) → AtMost a b → a.edges ≡ b.edges → a.cost ≤ b.cost
at_most_same_walk a b (Strictly h) e = let l = before_same_walk a b h e in omega (arith, l)
at_most_same_walk a b (Same d) e = let n : a.cost ≡ b.cost = ap (λ (x : Entry). x.cost) d in omega (arith, n)

pub entry_eq : (a b : Entry) → a.cost ≡ b.cost → a.edges ≡ b.edges → a ≡ b
entry_eq a b c e = ap (λ (n : ℕ). entry n a.edges) c ∙ ap (λ (w : List ℕ). entry b.cost w) e

le_cases : (m n : ℕ) → m ≤ n → (m < n) ⊎ (m ≡ n)
le_cases m n h = grind arith

pub same_walk_at_most : (a b : Entry) → a.edges ≡ b.edges → a.cost ≤ b.cost → AtMost a b
same_walk_at_most a b e h = elim (le_cases a.cost b.cost h) [
  | inl l ↦ Strictly (Cheaper l)
  | inr c ↦ Same (entry_eq a b c e)
]

pub at_most_apart : (a b : Entry) → AtMost a b → (a.edges ≡ b.edges → ⊥) → Before a b
at_most_apart a b (Strictly h) n = h
at_most_apart a b (Same e) n = elim (n (ap (λ (x : Entry). x.edges) e)) [ ]

pub before_extend : (a b : Entry) (c : ℕ) (w : List ℕ) → Before a b → Before (extend a c w) (extend b c w)
before_extend a b c w (Cheaper l) = Cheaper (omega (arith, l))
before_extend a b c w (Shorter d l) = Shorter (omega (arith, d)) (omega (arith, l, length-append a.edges w, length-append b.edges w))
before_extend a b c w (Lower d n l) = Lower (omega (arith, d)) (omega (arith, n, length-append a.edges w, length-append b.edges w)) (lex_append a.edges b.edges w l)

pub at_most_extend : (a : Entry) (c : ℕ) (w : List ℕ) → IsMoveCost c w → AtMost a (extend a c w)
at_most_extend a c w (inl l) = Strictly (Cheaper (omega (arith, l)))
at_most_extend a c w (inr z) =
    let n : a.cost ≡ a.cost + c = omega (arith, z.0) in
    let e : a.edges ≡ a.edges ++ w = sym (ap (λ v. a.edges ++ v) z.1 ∙ append-nil a.edges) in
    Same (entry_eq a (extend a c w) n e)

-- of two entries one is before the other, or they are one
pub data Three (a b : Entry) : Type 0 where
  First : Before a b → Three a b
  One : a ≡ b → Three a b
  Second : Before b a → Three a b

pub data LexThree (a b : List ℕ) : Type 0 where
  LexFirst : LexLess a b → LexThree a b
  LexOne : a ≡ b → LexThree a b
  LexSecond : LexLess b a → LexThree a b

nat_three : (m n : ℕ) → (m < n) ⊎ ((m ≡ n) ⊎ (n < m))
nat_three m n = grind arith

pub lex_total : (a b : List ℕ) → length a ≡ length b → LexThree a b
lex_total [] [] n = LexOne refl
lex_total [] (y ∷ b) n = let h : ⊥ = omega (arith, n) in elim h [ ]
lex_total (x ∷ a) [] n = let h : ⊥ = omega (arith, n) in elim h [ ]
lex_total (x ∷ a) (y ∷ b) n = elim (nat_three x y) [
  | inl l ↦ LexFirst (inl l)
  | inr r ↦ elim r [
    | inl e ↦ elim (lex_total a b (omega (arith, n))) [
      | LexFirst l ↦ LexFirst (inr (e, l))
      | LexOne d ↦ LexOne (ap (λ v. v ∷ a) e ∙ ap (λ v. y ∷ v) d)
      | LexSecond l ↦ LexSecond (inr (sym e, l))
    ]
    | inr l ↦ LexSecond (inl l)
  ]
]

pub entry_total : (a b : Entry) → Three a b
entry_total a b = elim (nat_three a.cost b.cost) [
  | inl l ↦ First (Cheaper l)
  | inr r ↦ elim r [
    | inl c ↦ elim (nat_three (length a.edges) (length b.edges)) [
      | inl l ↦ First (Shorter c l)
      | inr r ↦ elim r [
        | inl n ↦ elim (lex_total a.edges b.edges n) [
          | LexFirst l ↦ First (Lower c n l)
          | LexOne d ↦ One (entry_eq a b c d)
          | LexSecond l ↦ Second (Lower (sym c) (sym n) l)
        ]
        | inr l ↦ Second (Shorter (sym c) l)
      ]
    ]
    | inr l ↦ Second (Cheaper l)
  ]
]
