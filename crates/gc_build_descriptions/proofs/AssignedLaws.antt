-- The values of an assignment: by the values of its aggregates, and on one element more.
use Rattle.std.proofs.Common.{◌≡◌, ap, sym, ◌∙◌, ℕ, ◌+◌, ◌<◌, List, [], ◌∷◌, ◌++◌, length, get_or, take, map}
use Rattle.std.proofs.lemmas.List.{map_more}
use Rattle.gc_build_descriptions.specs.Aggregates.{Aggregation, aggregated, aggregations}
use Rattle.gc_build_descriptions.specs.Assigned.{assigned_values, contexts}
use Rattle.gc_build_numbers.specs.Settings.{Setting}
use Rattle.gc_build_recipe.specs.Recipes.{Assignment}
use Rattle.gc_values.specs.ExprValues.{value_of}
use Rattle.gc_values.specs.declared.val.Val.{Val}

pub values_assigned : (s : Setting) (a : Assignment) (places : List ℕ) (found : List Aggregation) (folded values : List Val)
    → found ≡ aggregations a.value
    → folded ≡ map (aggregated (contexts s places)) found
    → values ≡ map (λ ctx. value_of ctx folded a.value) (contexts s places)
    → values ≡ assigned_values s a places
values_assigned s a places found folded values f g v =
    v ∙ ap (λ vs. map (λ ctx. value_of ctx vs a.value) (contexts s places)) (g ∙ ap (map (aggregated (contexts s places))) f)

-- the values of one element more
pub map_with : {X Y : Type 0} (f : X → Y) (so_far after : List Y) (items : List X) (i : ℕ) (x : X) (y : Y) → i < length items → x ≡ get_or items i x
    → so_far ≡ map f (take i items) → y ≡ f x → after ≡ so_far ++ y ∷ []
    → after ≡ map f (take (i + 1) items)
map_with f so_far after items i x y h e s v a =
    a ∙ ap (λ ys. ys ++ y ∷ []) s ∙ ap (λ z. map f (take i items) ++ z ∷ []) (v ∙ ap f e) ∙ sym (map_more f items i x h)
