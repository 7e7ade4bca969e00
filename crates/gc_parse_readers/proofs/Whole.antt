-- Readers that are right at every depth, on whole lists: what they give, and what no list spells.
use Rattle.std.proofs.Common.{◌≡◌, refl, sym, ap, subst, ◌∙◌, ℕ, zero, suc, ◌+◌, ◌<◌, ◌≤◌, List, [], ◌∷◌, ◌++◌, length, take, Some, length-append}
use Rattle.std.proofs.lemmas.Option.{none-some}
use Rattle.std.proofs.lemmas.List.{append-nil}
use Rattle.gc_lex.specs.declared.token.Token.{Token}
use Rattle.gc_grammar.specs.Words.{Point, Lang, at_some_depth}
use Rattle.gc_parse_readers.specs.Readers.{Reader, Got, Stuck}
use Rattle.gc_parse_readers.specs.Right.{Right, Outline, Sound, Alike, front}
use Rattle.gc_grammar.specs.Queries.{start}
use native.Mathlib.Omega.{arith}

-- what a list begins with, and the first token behind
pub record Split (used rest us : List Token) : Type 0 where
  pub other : List Token
  pub whole : us ≡ used ++ other
  pub alike : Alike rest other

front_of : (rest us : List Token) → take 1 us ≡ take 1 rest → Alike rest us
front_of [] [] h = refl
front_of [] (u ∷ us) h = absurd (cc)
front_of (t ∷ rest) [] h = absurd (cc)
front_of (t ∷ rest) (u ∷ us) h = ap Some (sym (heads h))
  where
    heads : (u ∷ []) ≡ (t ∷ []) → u ≡ t
    heads e = cc

-- a list that agrees with another up to the token behind what was used
pub split_at : (used rest us : List Token) (n : ℕ) → n ≡ length used + 1 → take n us ≡ take n (used ++ rest) → Split used rest us
split_at [] rest us zero n_is h = absurd (omega (arith, n_is))
split_at [] rest us (suc n) n_is h = record {
  other = us;
  whole = refl;
  alike = front_of rest us (subst (λ m. take m us ≡ take m rest) n_is h);
}
split_at (t ∷ used) rest us zero n_is h = absurd (omega (arith, n_is))
split_at (t ∷ used) rest [] (suc n) n_is h = absurd (cc)
split_at (t ∷ used) rest (u ∷ us) (suc n) n_is h =
    let parts = same_parts h in
    let later = split_at used rest us n (omega (arith, n_is)) parts.1 in
    record { other = later.other; whole = λ j. parts.0 j ∷ later.whole j; alike = later.alike }
  where
    same_parts : (u ∷ take n us) ≡ (t ∷ take n (used ++ rest)) → (u ≡ t) × (take n us ≡ take n (used ++ rest))
    same_parts e = (cc, cc)

got_parts : {A : Type 0} (a b : A) (p q : Point) (ts us : List Token) → Got a p ts ≡ Got b q us → (a ≡ b) × (ts ≡ us)
got_parts a b p q ts us h = (cc, cc)

-- what is spelled is read
pub whole_complete : {A : Type 0} (L : ℕ → Lang A) (r : ℕ → Reader A) (o : Outline) → ((j J d : ℕ) → Right j J (L j) (L d) (r j) (r J) o)
    → (ts : List Token) (room : ℕ) (a : A) (end : Point) → length ts < room → at_some_depth L start ts a end → r room start ts ≡ Got a end []
whole_complete L r o right ts room a end short spelled =
    ap (r room start) (sym (append-nil ts))
    ∙ (right room room spelled.0).complete start end ts [] a spelled.1 (subst (λ us. length us < room) (sym (append-nil ts)) short) refl

-- what is read to the end is spelled
pub whole_sound : {A : Type 0} (L : ℕ → Lang A) (r : ℕ → Reader A) (o : Outline) → ((j J d : ℕ) → Right j J (L j) (L d) (r j) (r J) o)
    → (ts : List Token) (room : ℕ) (a : A) (end : Point) → length ts < room → r room start ts ≡ Got a end [] → at_some_depth L start ts a end
whole_sound L r o right ts room a end short got =
    let found = subst (Sound room (L room) (r room) start ts) got ((right room room room).sound start ts short) in
    (room, subst (λ us. L room start us a end) (sym (append-nil found.used) ∙ sym found.whole) found.spelled)

-- where tokens are left over, no list that begins so is spelled
pub whole_left : {A : Type 0} (L : ℕ → Lang A) (r : ℕ → Reader A) (o : Outline) → ((j J d : ℕ) → Right j J (L j) (L d) (r j) (r J) o)
    → (ts : List Token) (room : ℕ) (a : A) (end : Point) (rest : List Token) → length ts < room → r room start ts ≡ Got a end rest → (rest ≡ [] → ⊥)
    → (us : List Token) (b : A) (last : Point) → take (end.token + 1) us ≡ take (end.token + 1) ts → at_some_depth L start us b last → ⊥
whole_left {A = A} L r o right ts room a end rest short got left us b last same spelled =
    let j = suc (length us) in
    let found = subst (Sound j (L room) (r j) start ts) got ((right room j room).sound start ts short) in
    let split = split_at found.used rest us (end.token + 1) (omega (arith, found.place)) (same ∙ ap (take (end.token + 1)) found.whole) in
    let again = found.again split.other split.alike (subst (λ vs. length vs < j) split.whole (omega arith)) in
    let complete = whole_complete L r o right us j b last (omega arith) spelled in
    left (emptied rest split.other split.alike (got_parts a b end last split.other [] (sym again ∙ ap (r j start) (sym split.whole) ∙ complete)).1)
  where
    emptied : (rest other : List Token) → Alike rest other → other ≡ [] → rest ≡ []
    emptied [] other same none = refl
    emptied (t ∷ rest) other same none = absurd (none-some t (sym (same ∙ ap front none)))

-- where it is stuck, no list that begins so is spelled
pub whole_stuck : {A : Type 0} (L : ℕ → Lang A) (r : ℕ → Reader A) (o : Outline) → ((j J d : ℕ) → Right j J (L j) (L d) (r j) (r J) o)
    → (ts : List Token) (room k : ℕ) → length ts < room → r room start ts ≡ Stuck k
    → (us : List Token) (b : A) (last : Point) → take (k + 1) us ≡ take (k + 1) ts → at_some_depth L start us b last → ⊥
whole_stuck L r o right ts room k short stuck us b last same spelled =
    let j = suc (length us) in
    let refused = subst (Sound j (L room) (r j) start ts) stuck ((right room j room).sound start ts short) in
    let split = split_at refused.used refused.rest us (k + 1) (omega (arith, refused.at)) (same ∙ ap (take (k + 1)) refused.whole) in
    let again = refused.again split.other split.alike (subst (λ vs. length vs < j) split.whole (omega arith)) in
    let complete = whole_complete L r o right us j b last (omega arith) spelled in
    differ (sym again ∙ ap (r j start) (sym split.whole) ∙ complete)
  where
    differ : Stuck k ≡ Got b last [] → ⊥
    differ h = cc

-- the place is a token's or the end
pub stuck_within : {A : Type 0} (L : ℕ → Lang A) (r : ℕ → Reader A) (o : Outline) → ((j J d : ℕ) → Right j J (L j) (L d) (r j) (r J) o)
    → (ts : List Token) (room k : ℕ) → length ts < room → r room start ts ≡ Stuck k → k ≤ length ts
stuck_within L r o right ts room k short stuck =
    let refused = subst (Sound room (L room) (r room) start ts) stuck ((right room room room).sound start ts short) in
    omega (arith, refused.at, ap length refused.whole, length-append refused.used refused.rest)
