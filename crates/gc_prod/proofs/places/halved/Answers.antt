use Rattle.std.proofs.Common.{◌≡◌, ℕ, List, length, get_or, rules, sym, ◌∙◌, Ok, Err, arith}
use Rattle.std.specs.Cmp.{nat_cmp_total, unsigned_tied}
use Rattle.std.specs.List.{list_any}
use Rattle.std.specs.List.Sorted.{IsSearchInRange, IsBinarySearchResult}
use Rattle.std.specs.declared.cmp.Ordering.TheVariants.{Equal}
use Rattle.std.specs.Ordering.{nat_cmp}
use Rattle.std.proofs.lemmas.Bool.Decides.{nat_tests}
use Rattle.std.proofs.lemmas.Fn.{always_returns_same}
use Rattle.gc_base.specs.Ascending.{Ascends}
use Rattle.gc_base.proofs.Search.{searched}
use Rattle.gc_prod.specs.Places.{place_in}
use Rattle.gc_prod.proofs.PlaceLaws.{place_is, place_past}
use Rattle.gc_prod.proofs.places.halved.Goals as goal

tied : (a b : ℕ) → nat_cmp a b ≡ Equal → a ≡ b
tied a b h = grind (arith, nat_tests)

module _ (xs : List ℕ) (id : ℕ) (up : Ascends nat_cmp xs) where
  found : (place : ℕ) → IsSearchInRange (Ok place) (length xs) → IsBinarySearchResult (λ x. nat_cmp x id) xs (Ok place) → place ≡ place_in xs id
  found place within is =
      let p = searched (λ (x : ℕ). x) nat_cmp nat_cmp_total xs id (Ok place) up within is in
      place_is xs place id up within (tied (get_or xs place 0) id (p.ties 0))

  missed : (gap : ℕ) → IsSearchInRange (Err gap) (length xs) → IsBinarySearchResult (λ x. nat_cmp x id) xs (Err gap) → place_in xs id ≡ length xs
  missed gap within is =
      let p = searched (λ (x : ℕ). x) nat_cmp nat_cmp_total xs id (Err gap) up within is in
      place_past xs id ((λ j. list_any (λ x. sym (unsigned_tied x id) j) xs) ∙ p.none)

pub returns-in-Ok : goal.returns-in-Ok
returns-in-Ok c =
    found c.args.nodes.now c.args.node c.requires c.in-Ok.place c.in-Ok.ensures.bound
    (c.in-Ok.ensures.position (λ x. nat_cmp x c.args.node) (always_returns_same _ _ _ (λ a r f called. search rules)))

pub returns-in-Err : goal.returns-in-Err
returns-in-Err c =
    sym (missed c.args.nodes.now c.args.node c.requires c.in-Err.field-0 c.in-Err.ensures.bound
    (c.in-Err.ensures.position (λ x. nat_cmp x c.args.node) (always_returns_same _ _ _ (λ a r f called. search rules))))
