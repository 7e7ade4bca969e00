-- The hidden variables of a file are told apart by the tokens of its unnamed elements, and stand behind its names.
use Rattle.std.proofs.Common.{◌≡◌, ◌⊎◌, inl, inr, ⊎_elim, ◌<◌, ◌≤◌, ◌+◌, ℕ, Bool, true, false, cond, List, length, Option, Some, None, refl, sym, ap, ◌∙◌, arith, slice_get}
use Rattle.std.specs.Prelude.{nat_eq}
use Rattle.std.specs.List.{Contains, list_any}
use Rattle.std.specs.Option.{option_or, unwrap_or}
use Rattle.std.proofs.lemmas.Bool.{eq-eqb, eqb-true}
use Rattle.std.proofs.lemmas.List.Quantifiers.{position-Some}
use Rattle.std.proofs.lemmas.Option.{none-some, same_Some}
use Rattle.gc_ast.proofs.NameLemmas.{name_of_number}
use Rattle.gc_ast.specs.Names.{number_in, same_name}
use Rattle.gc_base.specs.declared.place.Sym.{Sym}
use Rattle.gc_build.proofs.ClaimEnds.{any_member}
use Rattle.gc_expr.specs.Views.{Names, found_name, name_of}
use Rattle.gc_sorts.specs.Occurrences.{Occurrence, Occurrences, GraphName, ViewName, Unnamed, none, one, both}
use Rattle.gc_sorts.specs.Reads.{hidden_from, unnamed_count}
use Rattle.gc_lower.specs.Scopes.{Scope, numbered}
use Rattle.gc_query.proofs.MatchLinks.{passes_later}
use Rattle.gc_query.proofs.MatchParts.{AreApart}

-- an unnamed element stands at a token of a file
abbrev pub IsUnnamedAt : ℕ → Occurrence → Type 0
IsUnnamedAt t (GraphName at name scope) = ⊥
IsUnnamedAt t (ViewName at name scope) = ⊥
IsUnnamedAt t (Unnamed at) = t ≡ at

abbrev pub IsUnnamedIn : ℕ → Occurrences → Type 0
IsUnnamedIn t none = ⊥
IsUnnamedIn t (one o) = IsUnnamedAt t o
IsUnnamedIn t (both left right) = IsUnnamedIn t left ⊎ IsUnnamedIn t right

-- it has a hidden variable
there_if : (n : ℕ) (a b : Option ℕ) → ((h : ℕ) × (a ≡ Some h)) ⊎ ((h : ℕ) × (b ≡ Some h)) → (h : ℕ) × (option_or a b ≡ Some h)
there_if n (Some x) b h = (x, refl)
there_if n None b (inl h) = absurd (none-some h.0 h.1)
there_if n None b (inr h) = h

hidden_there : (number : ℕ) (os : Occurrences) (t : ℕ) → IsUnnamedIn t os → (h : ℕ) × (hidden_from number os t ≡ Some h)
hidden_there number none t h = absurd h
hidden_there number (one (GraphName at name scope)) t h = absurd h
hidden_there number (one (ViewName at name scope)) t h = absurd h
hidden_there number (one (Unnamed at)) t h = (number, ap (λ b. cond b (Some number) None) (eq-eqb t at h))
hidden_there number (both left right) t h =
    there_if number (hidden_from number left t) (hidden_from (number + unnamed_count left) right t)
    (⊎_elim (λ k. inl (hidden_there number left t k)) (λ k. inr (hidden_there (number + unnamed_count left) right t k)) h)

or_cases : (a b : Option ℕ) (h : ℕ) → option_or a b ≡ Some h → (a ≡ Some h) ⊎ (b ≡ Some h)
or_cases None b h e = inr e
or_cases (Some x) b h e = inl e

-- from the first number on, below the number of those behind
hidden_range : (number : ℕ) (os : Occurrences) (t h : ℕ) → hidden_from number os t ≡ Some h → (number ≤ h) × (h < number + unnamed_count os)
hidden_range number none t h e = absurd (none-some h e)
hidden_range number (one (GraphName at name scope)) t h e = absurd (none-some h e)
hidden_range number (one (ViewName at name scope)) t h e = absurd (none-some h e)
hidden_range number (one (Unnamed at)) t h e = by (nat_eq t at) e
  where
    by : (b : Bool) → cond b (Some number) None ≡ Some h → (number ≤ h) × (h < number + 1)
    by true k = let is = same_Some number h k in (omega (arith, is), omega (arith, is))
    by false k = absurd (none-some h k)
hidden_range number (both left right) t h e =
    ⊎_elim
    (λ k. let r = hidden_range number left t h k in (r.0, (let high = r.1 in omega (arith, high))))
    (λ k. let r = hidden_range (number + unnamed_count left) right t h k in let low = r.0 in let high = r.1 in (omega (arith, low), omega (arith, high)))
    (or_cases (hidden_from number left t) (hidden_from (number + unnamed_count left) right t) h e)

-- and of one token alone
hidden_one : (number : ℕ) (os : Occurrences) (t u h : ℕ) → hidden_from number os t ≡ Some h → hidden_from number os u ≡ Some h → t ≡ u
hidden_one number none t u h e f = absurd (none-some h e)
hidden_one number (one (GraphName at name scope)) t u h e f = absurd (none-some h e)
hidden_one number (one (ViewName at name scope)) t u h e f = absurd (none-some h e)
hidden_one number (one (Unnamed at)) t u h e f = by (nat_eq t at) refl e ∙ sym (by (nat_eq u at) refl f)
  where
    by : {v : ℕ} (b : Bool) → nat_eq v at ≡ b → cond b (Some number) None ≡ Some h → v ≡ at
    by {v} true is k = eqb-true v at is
    by false is k = absurd (none-some h k)
hidden_one number (both left right) t u h e f =
    ⊎_elim
    (λ k. ⊎_elim
    (λ l. hidden_one number left t u h k l)
    (λ l. let p = hidden_range number left t h k in let q = hidden_range (number + unnamed_count left) right u h l in let high = p.1 in let low = q.0 in absurd (omega (arith, high, low)))
    (or_cases (hidden_from number left u) (hidden_from (number + unnamed_count left) right u) h f))
    (λ k. ⊎_elim
    (λ l. let p = hidden_range number left u h l in let q = hidden_range (number + unnamed_count left) right t h k in let high = p.1 in let low = q.0 in absurd (omega (arith, high, low)))
    (λ l. hidden_one (number + unnamed_count left) right t u h k l)
    (or_cases (hidden_from number left u) (hidden_from (number + unnamed_count left) right u) h f))
    (or_cases (hidden_from number left t) (hidden_from (number + unnamed_count left) right t) h e)

-- a name of a table has a number in it
name_number : (names : Names) (n : List ℕ) → list_any (same_name n) names ≡ true → (i : ℕ) × (number_in names n ≡ Some i) × (i < length names)
name_number names n h = by (number_in names n) refl
  where
    by : (o : Option ℕ) → number_in names n ≡ o → (i : ℕ) × (number_in names n ≡ Some i) × (i < length names)
    by None is = let any = any_member (same_name n) names h in absurd (passes_later (same_name n) names any.0 any.1 any.2 is)
    by (Some i) is = (i, is, (position-Some (same_name n) names i n is).0)

-- and is the name of this number
name_there : (names : Names) (n : List ℕ) → list_any (same_name n) names ≡ true → name_of names (numbered names n) ≡ n
name_there names n h =
    let a = name_number names n h in
    ap (λ o. found_name (slice_get names (unwrap_or o (length names)))) a.1 ∙ ap found_name (name_of_number names n a.0 a.1)

-- names of the table and unnamed elements of the file have variables of their own
pub are_apart : (s : Scope) (os : Occurrences) → ((t : ℕ) → s.hidden_at t ≡ hidden_from (length s.names) os t) → (names : List (List ℕ)) (tokens : List ℕ)
    → ((n : List ℕ) → Contains names n → list_any (same_name n) s.names ≡ true) → ((t : ℕ) → Contains tokens t → IsUnnamedIn t os) → AreApart s names tokens
are_apart s os is names tokens named unnamed = record {
  names_apart = λ n m k l e.
      let a = name_number s.names n (named n k) in
      let b = name_number s.names m (named m l) in
      let same : a.0 ≡ b.0 = sym (ap (λ o. unwrap_or o (length s.names)) a.1) ∙ (ap (λ (x : Sym). x.0) e ∙ ap (λ o. unwrap_or o (length s.names)) b.1) in
      same_Some n m (sym (name_of_number s.names n a.0 a.1) ∙ (ap (slice_get s.names) same ∙ name_of_number s.names m b.0 b.1));
  mixed_apart = λ n t k l e.
      let a = name_number s.names n (named n k) in
      let b = hidden_there (length s.names) os t (unnamed t l) in
      let range = hidden_range (length s.names) os t b.0 b.1 in
      let low = range.0 in
      let same : a.0 ≡ b.0 = sym (ap (λ o. unwrap_or o (length s.names)) a.1) ∙ (ap (λ (x : Sym). x.0) e ∙ ap (λ o. unwrap_or o 0) (is t ∙ b.1)) in
      let inside = a.2 in
      absurd (omega (arith, same, low, inside));
  tokens_apart = λ t u k l e.
      let a = hidden_there (length s.names) os t (unnamed t k) in
      let b = hidden_there (length s.names) os u (unnamed u l) in
      let same : a.0 ≡ b.0 = sym (ap (λ o. unwrap_or o 0) (is t ∙ a.1)) ∙ (ap (λ (x : Sym). x.0) e ∙ ap (λ o. unwrap_or o 0) (is u ∙ b.1)) in
      hidden_one (length s.names) os t u b.0 (a.1 ∙ ap Some same) b.1;
  named = λ n k. name_there s.names n (named n k);
}
