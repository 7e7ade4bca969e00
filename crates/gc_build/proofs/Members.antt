-- Searches among identities that ascend.
use Rattle.std.proofs.Common.{◌≡◌, ℕ, length, List, ◌∙◌, Result}
use Rattle.std.specs.Cmp.{nat_cmp_total, unsigned_tied}
use Rattle.std.specs.List.{list_any}
use Rattle.std.specs.List.Sorted.{IsSearchInRange, IsBinarySearchResult}
use Rattle.std.specs.Ordering.{nat_cmp}
use Rattle.std.specs.Result.{is_ok}
use Rattle.gc_base.specs.Ascending.{Ascends}
use Rattle.gc_base.proofs.Search.{searched}
use Rattle.gc_base.proofs.SetLaws.{is_ok-search}
use Rattle.gc_spec.specs.PropertyGraph.{is_among}

-- a search answers whether an identity is among those that ascend
pub searched_is_among : (ids : List ℕ) (id : ℕ) (r : Result ℕ ℕ) → Ascends nat_cmp ids → IsSearchInRange r (length ids) → IsBinarySearchResult (λ x. nat_cmp x id) ids r → is_ok r ≡ is_among ids id
searched_is_among ids id r up within found =
    is_ok-search (λ x. nat_cmp x id) ids r (searched (λ x. x) nat_cmp nat_cmp_total ids id r up within found)
    ∙ (λ j. list_any (λ x. unsigned_tied x id j) ids)
