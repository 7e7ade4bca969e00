-- A search for a key, a member at a time.
use Rattle.std.proofs.Common.{◌≡◌, ℕ, ◌-◌, ◌<◌, ◌≤◌, List, ◌∷◌, Option, Some, None, option_map, Bool, true, false, Result, Ok, bytes_eq, if◌then◌else◌, nat_le, refl, sym, ap, ◌∙◌, subst, arith}
use Rattle.std.proofs.lemmas.Bool.Decides.{nat_tests}
use Rattle.json.specs.Token.{Token}
use Rattle.json.specs.Json.{parse_map, read_key}
use Rattle.json.specs.declared.reader.Invalid.{Invalid}
use Rattle.serde_json.specs.Data.{Data}
use Rattle.gc_json.specs.Entries.{Entries, entries_data, nth_at}
use Rattle.gc_json.specs.Finds.{Finds}
use Rattle.gc_json.specs.Tokens.{value_data}
use Rattle.gc_json.proofs.EntryTurns.{entry_by_turn, entries_by_turn, entries_is}

module _ (key : List ℕ) where
  pub passed : (k : List ℕ) (d : Data) (n m : ℕ) (b : Bool) (o : Option (Entries × List Token)) → bytes_eq k key ≡ b → m ≡ (if b then n - 1 else n) → (b ≡ true → 1 < n)
      → option_map (λ p. nth_at key n p.0) (parse_map (λ es. (k, d) ∷ es) o) ≡ option_map (λ p. nth_at key m p.0) o
  passed k d n m b None is left more = refl
  passed k d n m true (Some p) is left more = let after : nat_le n 1 ≡ false = grind (arith, nat_tests, more refl) in rw (is, after, left) refl
  passed k d n m false (Some p) is left more = rw (is, left) refl

  here_of : (k : List ℕ) (n : ℕ) (d : Data) (o : Option (Entries × List Token)) → bytes_eq k key ≡ true → n ≤ 1
      → Finds (option_map (λ p. nth_at key n p.0) (parse_map (λ es. (k, d) ∷ es) o)) (Ok true) (Some d)
  here_of k n d None is last = tt
  here_of k n d (Some p) is last = let now : nat_le n 1 ≡ true = grind (arith, nat_tests) in rw (is, now) refl

  at_value : (depth : ℕ) (k : List ℕ) (n : ℕ) (v : Option (Data × List Token)) → bytes_eq k key ≡ true → n ≤ 1
      → Finds (option_map (λ p. nth_at key n p.0) (entry_by_turn depth k v)) (Ok true) (option_map (λ p. p.0) v)
  at_value depth k n None is last = tt
  at_value depth k n (Some q) is last = here_of k n q.0 (entries_data depth q.1) is last

  pub found : (depth : ℕ) (ts s : List Token) (k : List ℕ) (n : ℕ) → read_key ts ≡ Some (Some k, s) → bytes_eq k key ≡ true → n ≤ 1
      → Finds (option_map (λ p. nth_at key n p.0) (entries_data depth ts)) (Ok true) (option_map (λ p. p.0) (value_data depth s))
  found depth ts s k n named is last =
      subst (λ o. Finds (option_map (λ p. nth_at key n p.0) o) (Ok true) (option_map (λ p. p.0) (value_data depth s))) (sym (entries_is depth ts ∙ ap (entries_by_turn depth) named))
      (at_value depth k n (value_data depth s) is last)

pub nothing_due : (o : Option (Option Data)) (r : Result Bool Invalid) (here : Option Data) → o ≡ None → Finds o r here
nothing_due o r here e = subst (λ x. Finds x r here) (sym e) tt
