-- What stands at a token by the numbers that were kept is what stands there by the occurrences.
use Rattle.std.proofs.Common.{◌≡◌, ℕ, ◌+◌, Bool, true, false, List, [], ◌∷◌, Option, Some, None, refl, sym, ap, ◌∙◌, nat_eq, arith, inl, inr}
use Rattle.std.specs.Prelude.{is_some, if◌then◌else◌}
use Rattle.std.specs.Option.{option_or}
use Rattle.indexmap.specs.IndexMap.{insert_entry}
use Rattle.std.proofs.lemmas.Bool.Decides.{eqb_tells}
use Rattle.gc_sorts.specs.Collected.{Collected, collect, nothing, number_of, with_first, with_number}
use Rattle.gc_sorts.specs.Occurrences.{Occurrences, GraphName, ViewName, Unnamed, none, one, both}
use Rattle.gc_sorts.specs.Reads.{graph_at, view_at, hidden_from, unnamed_count}
use Rattle.gc_sorts.specs.Scopes.{graph_number, view_number}

pub or_none : (o : Option ℕ) → option_or o None ≡ o
or_none None = refl
or_none (Some n) = refl

pub or_assoc : (a b c : Option ℕ) → option_or (option_or a b) c ≡ option_or a (option_or b c)
or_assoc None b c = refl
or_assoc (Some n) b c = refl

or_some : (a b : Option ℕ) → is_some a ≡ true → option_or a b ≡ a
or_some None b h = cc
or_some (Some n) b h = refl

abbrev pub told : ℕ → ℕ → ℕ → Option ℕ
told token at number = if nat_eq token at then Some number else None

-- a pair that is put in behind the others
abbrev IsInserted : List (ℕ × ℕ) → (at number token : ℕ) → Type 0
IsInserted pairs at number token =
    number_of (insert_entry nat_eq pairs at number) token ≡ option_or (number_of pairs token) (told token at number)

inserted : (pairs : List (ℕ × ℕ)) (at number token : ℕ) → is_some (number_of pairs at) ≡ false → IsInserted pairs at number token
inserted [] at number token absent = refl
inserted (e ∷ pairs) at number token absent = by (λ gone. inserted pairs at number token gone) (nat_eq at e.0) refl absent
  where
    later : (b : Bool) → nat_eq token e.0 ≡ b → IsInserted pairs at number token
        → number_of (e ∷ insert_entry nat_eq pairs at number) token ≡ option_or (number_of (e ∷ pairs) token) (told token at number)
    later true same rest = rw (same) refl
    later false other rest = rw (other) rest

    by : (is_some (number_of pairs at) ≡ false → IsInserted pairs at number token) → (b : Bool) → nat_eq at e.0 ≡ b
        → is_some (if b then Some e.1 else number_of pairs at) ≡ false
        → number_of (if b then (e.0, number) ∷ pairs else e ∷ insert_entry nat_eq pairs at number) token ≡ option_or (number_of (e ∷ pairs) token) (told token at number)
    by rest true same gone = cc
    by rest false other gone = later (nat_eq token e.0) refl (rest gone)

-- the number of a token, where another one was given a number unless it had one
pub first_told : (pairs : List (ℕ × ℕ)) (at number token : ℕ) → number_of (with_first pairs at number) token ≡ option_or (number_of pairs token) (told token at number)
first_told pairs at number token = by (is_some (number_of pairs at)) refl
  where
    by : (b : Bool) → is_some (number_of pairs at) ≡ b → number_of (if b then pairs else insert_entry nat_eq pairs at number) token ≡ option_or (number_of pairs token) (told token at number)
    by true has = elim (eqb_tells token at) [
      | inl h ↦
          sym (ap (λ b. option_or (number_of pairs token) (if b then Some number else None)) h.0
          ∙ or_some (number_of pairs token) (Some number) (ap (λ t. is_some (number_of pairs t)) h.1 ∙ has))
      | inr h ↦ sym (ap (λ b. option_or (number_of pairs token) (if b then Some number else None)) h.0 ∙ or_none (number_of pairs token))
    ]
    by false absent = inserted pairs at number token absent

number_told : (pairs : List (ℕ × ℕ)) (at : ℕ) (number : Option ℕ) (token : ℕ)
    → number_of (with_number pairs at number) token ≡ option_or (number_of pairs token) (if nat_eq token at then number else None)
number_told pairs at (Some number) token = first_told pairs at number token
number_told pairs at None token = by (nat_eq token at)
  where
    by : (b : Bool) → number_of pairs token ≡ option_or (number_of pairs token) (if b then None else None)
    by true = sym (or_none (number_of pairs token))
    by false = sym (or_none (number_of pairs token))

pub graphs_read : (c : Collected) (o : Occurrences) (token : ℕ) → number_of (collect c o).graphs token ≡ option_or (number_of c.graphs token) (graph_at o token)
graphs_read c none token = sym (or_none (number_of c.graphs token))
graphs_read c (one (GraphName at name scope)) token = number_told c.graphs at (graph_number scope name) token
graphs_read c (one (ViewName at name scope)) token = sym (or_none (number_of c.graphs token))
graphs_read c (one (Unnamed at)) token = sym (or_none (number_of c.graphs token))
graphs_read c (both left right) token =
    graphs_read (collect c left) right token ∙ ap (λ o. option_or o (graph_at right token)) (graphs_read c left token)
    ∙ or_assoc (number_of c.graphs token) (graph_at left token) (graph_at right token)

pub views_read : (c : Collected) (o : Occurrences) (token : ℕ) → number_of (collect c o).views token ≡ option_or (number_of c.views token) (view_at o token)
views_read c none token = sym (or_none (number_of c.views token))
views_read c (one (GraphName at name scope)) token = sym (or_none (number_of c.views token))
views_read c (one (ViewName at name scope)) token = number_told c.views at (view_number scope name) token
views_read c (one (Unnamed at)) token = sym (or_none (number_of c.views token))
views_read c (both left right) token =
    views_read (collect c left) right token ∙ ap (λ o. option_or o (view_at right token)) (views_read c left token)
    ∙ or_assoc (number_of c.views token) (view_at left token) (view_at right token)

next_is : (c : Collected) (o : Occurrences) → (collect c o).next ≡ c.next + unnamed_count o
next_is c none = omega arith
next_is c (one (GraphName at name scope)) = omega arith
next_is c (one (ViewName at name scope)) = omega arith
next_is c (one (Unnamed at)) = refl
next_is c (both left right) = let e = next_is c left in let f = next_is (collect c left) right in omega (arith, e, f)

pub hidden_read : (c : Collected) (o : Occurrences) (token : ℕ)
    → number_of (collect c o).hidden token ≡ option_or (number_of c.hidden token) (hidden_from c.next o token)
hidden_read c none token = sym (or_none (number_of c.hidden token))
hidden_read c (one (GraphName at name scope)) token = sym (or_none (number_of c.hidden token))
hidden_read c (one (ViewName at name scope)) token = sym (or_none (number_of c.hidden token))
hidden_read c (one (Unnamed at)) token = first_told c.hidden at c.next token
hidden_read c (both left right) token =
    hidden_read (collect c left) right token
    ∙ ap (λ n. option_or (number_of (collect c left).hidden token) (hidden_from n right token)) (next_is c left)
    ∙ ap (λ o. option_or o (hidden_from (c.next + unnamed_count left) right token)) (hidden_read c left token)
    ∙ or_assoc (number_of c.hidden token) (hidden_from c.next left token) (hidden_from (c.next + unnamed_count left) right token)

-- what stands at a token by what was kept of all occurrences
pub graph_kept : (found : Collected) (names : ℕ) (o : Occurrences) (token : ℕ) → found ≡ collect (nothing names) o → number_of found.graphs token ≡ graph_at o token
graph_kept found names o token is = ap (λ (f : Collected). number_of f.graphs token) is ∙ graphs_read (nothing names) o token

pub view_kept : (found : Collected) (names : ℕ) (o : Occurrences) (token : ℕ) → found ≡ collect (nothing names) o → number_of found.views token ≡ view_at o token
view_kept found names o token is = ap (λ (f : Collected). number_of f.views token) is ∙ views_read (nothing names) o token

pub hidden_kept : (found : Collected) (names : ℕ) (o : Occurrences) (token : ℕ) → found ≡ collect (nothing names) o → number_of found.hidden token ≡ hidden_from names o token
hidden_kept found names o token is = ap (λ (f : Collected). number_of f.hidden token) is ∙ hidden_read (nothing names) o token
