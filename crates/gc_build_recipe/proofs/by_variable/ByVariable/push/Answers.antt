use Rattle.std.proofs.Common.{arith, length, ◌≡◌, ◌++◌, ◌∷◌, [], ℕ, true, false, ap, ◌∙◌, sym, cond, Some, is_some, nat_eq}
use Rattle.std.specs.HashMap.{get, get_by}
use Rattle.std.specs.Map.{lookup}
use Rattle.gc_build_recipe.specs.Places.{place_of}
use Rattle.gc_build_recipe.proofs.PlaceLaws.{first_added, other_added}
use Rattle.gc_build_recipe.proofs.by_variable.ByVariable.push.Goals as goal

pub invariant_of-self-in_ok-insert : goal.invariant_of-self-in_ok-insert
invariant_of-self-in_ok-insert g c =
    let var = g.T.OfVariable.var_of in
    let xs = c.self.inside.items.items in
    let y = c.args.item in
    let before = get nat_eq c.reserve.new.self in
    let are : (n : ℕ) → before n ≡ place_of var xs n = λ n. ap (lookup (nat_eq n)) c.reserve.ensures.entries ∙ c.self.invariant n in
    let same : is_some (before (var y).0) ≡ is_some (get_by (nat_eq c.var-number.result.0) c.self.inside.places) =
    (λ i. is_some (lookup (nat_eq (sym c.var-number.ensures i).0) (c.reserve.ensures.entries i))) in
    let new : is_some (before (var y).0) ≡ false = same ∙ sym c.contains_key-is_first.ensures ∙ c.if-is_first.true in
    let size : c.len-place.result ≡ length xs = omega (arith, c.len-place.ensures, c.self.inside.items.ok) in
    let added : (n : ℕ) → get nat_eq c.insert.new.self n ≡ place_of var (xs ++ y ∷ []) n =
    first_added var xs y before are (get nat_eq c.insert.new.self) new
    (λ n. c.in_ok-insert.ensures.updates.0 n ∙ (λ i. cond (nat_eq (c.var-number.ensures i).0 n) (Some (size i)) (before n))) in
    λ n. added n ∙ ap (λ zs. place_of var zs n) (sym c.in_ok-push.ensures.items)

pub invariant_of-self-else-is_first : goal.invariant_of-self-else-is_first
invariant_of-self-else-is_first g c =
    let var = g.T.OfVariable.var_of in
    let xs = c.self.inside.items.items in
    let y = c.args.item in
    let before = get nat_eq c.reserve.new.self in
    let are : (n : ℕ) → before n ≡ place_of var xs n = λ n. ap (lookup (nat_eq n)) c.reserve.ensures.entries ∙ c.self.invariant n in
    let same : is_some (before (var y).0) ≡ is_some (get_by (nat_eq c.var-number.result.0) c.self.inside.places) =
    (λ i. is_some (lookup (nat_eq (sym c.var-number.ensures i).0) (c.reserve.ensures.entries i))) in
    let known : is_some (before (var y).0) ≡ true = same ∙ sym c.contains_key-is_first.ensures ∙ c.if-is_first.false in
    λ n. other_added var xs y before are known n ∙ ap (λ zs. place_of var zs n) (sym c.in_ok-push.ensures.items)
