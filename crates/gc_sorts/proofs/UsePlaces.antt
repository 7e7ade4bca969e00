-- Places of variables by the places of their names.
use Rattle.std.proofs.Common.{◌≡◌, ◌<◌, ◌≤◌, ℕ, Bool, true, false, cond, if◌then◌else◌, ◌||◌, ◌-◌, List, [], ◌∷◌, ◌++◌, Some, None, length, map, take, drop, refl, sym, ap, ◌∙◌, arith, is_some, slice_get, get_or, nat_lt}
use Rattle.std.specs.List.{filter, position, position_or_len}
use Rattle.std.specs.Option.{option_map, option_or}
use Rattle.std.proofs.lemmas.List.{length-map, take-map, length-drop, drop-map, drop_all, take_all, append-nil, map-append, take-append-drop}
use Rattle.std.proofs.Math.Seq.{take-append_seam}
use Rattle.std.proofs.lemmas.List.Elements.{filter-append}
use Rattle.std.proofs.lemmas.List.Folds.{find_at, find-append}
use Rattle.std.proofs.lemmas.List.Quantifiers.{position-Some}
use Rattle.std.proofs.lemmas.Option.{slice_get_read, slice_get_past, same_Some, slice_get-map}
use Rattle.std.proofs.lemmas.Bool.Decides.{nat_tests}
use Rattle.gc_expr.specs.Views.{Names}
use Rattle.gc_ast.specs.Names.{same_name}
use Rattle.gc_sorts.specs.declared.sort.UseAt.{UseAt}
use Rattle.gc_sorts.specs.Graphs.{has_name}
use Rattle.gc_sorts.specs.Orders.{first_place}
use Rattle.gc_sorts.specs.Variables.{Use, use_by, use_names, is_cost, first_use, has_use, cost_names}
use Rattle.gc_sorts.proofs.Places.{positions_alike}

-- a name is in scope where it is among the names of the places
pub has_use_name : (uses : List Use) (name : List ℕ) → has_name (use_names uses) name ≡ has_use uses name
has_use_name [] name = refl
has_use_name (u ∷ us) name = ends (same_name name u.name) (has_use_name us name)
  where
    ends : (is : Bool) → has_name (use_names us) name ≡ has_use us name
        → (is || has_name (use_names us) name) ≡ is_some (cond is (Some u) (first_use us name))
    ends true rest = refl
    ends false rest = rest

-- the number of the first place of a name, by the names and by the places
same_place : (uses : List Use) (name : List ℕ) → first_place (use_names uses) name ≡ position (λ u. same_name name u.name) uses
same_place uses name = positions_alike (λ u. same_name name u.name) (same_name name) (λ u. u.name) (λ u. refl) uses

number_of : (b : Bool) (k i : ℕ) → cond b (Some k) None ≡ Some i → k ≡ i
number_of true k i e = same_Some k i e
number_of false k i e = cc

no_number : (b : Bool) (k : ℕ) → cond b (Some k) None ≡ None → b ≡ false
no_number true k e = cc
no_number false k e = refl

-- the first place of a name that comes at a number
pub use_at_place : (uses : List Use) (name : List ℕ) (i : ℕ) → first_place (use_names uses) name ≡ Some i → first_use uses name ≡ slice_get uses i
use_at_place uses name i at =
    let p = λ (u : Use). same_name name u.name in
    find_at p uses
    ∙ ap (slice_get uses) (number_of (nat_lt (position_or_len p uses) (length uses)) (position_or_len p uses) i (sym (same_place uses name) ∙ at))

-- a name that does not come has no first place
pub no_use_place : (uses : List Use) (name : List ℕ) → first_place (use_names uses) name ≡ None → first_use uses name ≡ None
no_use_place uses name none =
    let p = λ (u : Use). same_name name u.name in
    let past : nat_lt (position_or_len p uses) (length uses) ≡ false = no_number (nat_lt (position_or_len p uses) (length uses)) (position_or_len p uses) (sym (same_place uses name) ∙ none) in
    find_at p uses ∙ slice_get_past uses (position_or_len p uses) (grind (arith, nat_tests, past))

-- a place that is read
pub place_read : (names : Names) (uses : List UseAt) (i : ℕ) (u : UseAt) → i < length uses → u ≡ get_or uses i u
    → Some (use_by names u) ≡ slice_get (map (use_by names) uses) i
place_read names uses i u inside read =
    sym (slice_get-map (use_by names) uses i ∙ ap (option_map (use_by names)) (slice_get_read uses (length uses) i u refl inside read))

-- a number at which a name comes is one of a place
pub place_inside : (names : Names) (uses : List UseAt) (order : List (List ℕ)) → order ≡ use_names (map (use_by names) uses)
    → (name : List ℕ) (i : ℕ) → first_place order name ≡ Some i → i < length uses
place_inside names uses order is_order name i at =
    omega (arith, (position-Some (same_name name) order i [] at).0, simp length-map at (ap length is_order))

-- the first places, by another table that is the same
pub places_cut : (names others : Names) → others ≡ names → (uses rest : List UseAt) (n : ℕ) → rest ≡ take n uses
    → map (use_by others) rest ≡ take n (map (use_by names) uses)
places_cut names others same uses rest n cut =
    ap (λ t. map (use_by t) rest) same ∙ ap (map (use_by names)) cut ∙ sym (take-map (use_by names) n uses)

pub names_cut : (names others : Names) → others ≡ names → (uses rest : List UseAt) (n : ℕ) → rest ≡ take n uses
    → (order less : List (List ℕ)) → order ≡ use_names (map (use_by names) uses) → less ≡ take n order
    → less ≡ use_names (map (use_by others) rest)
names_cut names others same uses rest n cut order less is_order is_less =
    is_less ∙ ap (take n) is_order ∙ take-map (λ (u : Use). u.name) n (map (use_by names) uses)
    ∙ sym (ap use_names (places_cut names others same uses rest n cut))

-- the places from a number on
pub places_from : (names : Names) (slice uses : List UseAt) (n : ℕ) → slice ≡ uses
    → map (use_by names) (take (length slice - n) (drop n slice)) ≡ drop n (map (use_by names) uses)
places_from names slice uses n same =
    let whole : take (length slice - n) (drop n slice) ≡ drop n slice = take_all (length slice - n) (drop n slice) (omega (arith, length-drop n slice)) in
    ap (map (use_by names)) whole ∙ ap (λ s. map (use_by names) (drop n s)) same ∙ sym (drop-map (use_by names) n uses)

-- the names of the places behind COST in two lists
pub cost_names-append : (a b : List Use) → cost_names (a ++ b) ≡ cost_names a ++ cost_names b
cost_names-append a b =
    ap use_names (filter-append (λ (u : Use). is_cost u.role) a b)
    ∙ map-append (λ (u : Use). u.name) (filter (λ u. is_cost u.role) a) (filter (λ u. is_cost u.role) b)

-- those of the places up to a number and from it on
pub costs_from : (names : Names) (uses : List Use) (slice : List UseAt) (from i : ℕ) → map (use_by names) slice ≡ drop from uses → length slice ≤ i
    → (before after : List (List ℕ)) → before ≡ cost_names (take from uses)
    → after ++ cost_names (map (use_by names) (drop i slice)) ≡ before ++ cost_names (map (use_by names) slice) → after ≡ cost_names uses
costs_from names uses slice from i rest done before after is_before so_far =
    sym (append-nil after) ∙ sym (ap (λ l. after ++ cost_names (map (use_by names) l)) (drop_all i slice done)) ∙ so_far
    ∙ ap (λ l. l ++ cost_names (map (use_by names) slice)) is_before ∙ ap (λ l. cost_names (take from uses) ++ cost_names l) rest
    ∙ sym (cost_names-append (take from uses) (drop from uses)) ∙ ap cost_names (take-append-drop from uses)

-- the first place in two lists
pub first_of_both : (a b : List Use) (name : List ℕ) → first_use (a ++ b) name ≡ option_or (first_use a name) (first_use b name)
first_of_both a b name = find-append (λ (u : Use). same_name name u.name) a b

-- a place in the first list, whether or not the second is in scope
pub first_in_first : (is : Bool) (a b : List Use) (name : List ℕ) (u : Use) → first_use a name ≡ Some u
    → first_use (if is then a ++ b else a) name ≡ Some u
first_in_first true a b name u at = first_of_both a b name ∙ ap (λ o. option_or o (first_use b name)) at
first_in_first false a b name u at = at

-- a name that the first list lacks
pub first_in_second : (a b : List Use) (name : List ℕ) → first_use a name ≡ None → first_use (a ++ b) name ≡ first_use b name
first_in_second a b name none = first_of_both a b name ∙ ap (λ o. option_or o (first_use b name)) none

-- the costs among the first places are the first costs
pub costs_cut : (uses : List Use) (n count : ℕ) → count ≡ length (cost_names (take n uses)) → take count (cost_names uses) ≡ cost_names (take n uses)
costs_cut uses n count is =
    ap (λ k. take k (cost_names uses)) is
    ∙ ap (take (length (cost_names (take n uses)))) (sym (ap cost_names (take-append-drop n uses)) ∙ cost_names-append (take n uses) (drop n uses))
    ∙ take-append_seam (cost_names (take n uses)) (cost_names (drop n uses))
