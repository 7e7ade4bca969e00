-- The items of an array beside the values that they stand for.
use Rattle.std.proofs.Common.{◌≡◌, ◌&&◌, ◌++◌, ◌∙◌, Bool, List, [], ◌∷◌, Option, Some, None, option_map, refl, sym, ap, append_assoc, length}
use Rattle.std.specs.List.{list_all}
use Rattle.serde_json.specs.Data.{Data}
use Rattle.serde_json.specs.Events.{items_len}
use Rattle.serde_json.proofs.Views.{items_len-items_view}
use Rattle.serde_json.specs.View.{view, items_view}
use Rattle.serde_json.specs.declared.value.Value.{Value}
use Rattle.gc_cert_text.specs.Options.{◌>>=◌, each_of}
use Rattle.gc_cert_text.specs.Shapes.{each_is}

-- each item is so where each value is
pub each_all : (test : Data → Bool) (vs : List Value) → list_all (λ v. test (view v)) vs ≡ each_is test (items_view vs)
each_all test [] = refl
each_all test (v ∷ vs) = ap (λ b. test (view v) && b) (each_all test vs)

-- what items tell, behind others
abbrev pub in_front : {A : Type 0} → List A → Option (List A) → Option (List A)
in_front front o = option_map (λ xs. front ++ xs) o

pub in_front-none : {A : Type 0} (o : Option (List A)) → in_front [] o ≡ o
in_front-none None = refl
in_front-none (Some xs) = refl

pub in_front-more : {A : Type 0} (front : List A) (x : A) (o : Option (List A)) → in_front (front ++ x ∷ []) o ≡ in_front front (o >>= λ xs. Some (x ∷ xs))
in_front-more front x None = refl
in_front-more front x (Some xs) = ap Some (append_assoc front (x ∷ []) xs)

-- one more item tells something
pub told_more : {A : Type 0} (read : Data → Option A) (front now : List A) (v : Value) (vs : List Value) (x : A) → read (view v) ≡ Some x → now ≡ front ++ x ∷ []
    → in_front now (each_of read (items_view vs)) ≡ in_front front (each_of read (items_view (v ∷ vs)))
told_more read front now v vs x is pushed =
    ap (λ ys. in_front ys (each_of read (items_view vs))) pushed
    ∙ in_front-more front x (each_of read (items_view vs))
    ∙ ap (λ o. in_front front (o >>= λ y. each_of read (items_view vs) >>= λ ys. Some (y ∷ ys))) (sym is)

-- how many items there are
pub counted : (vs : List Value) → items_len (items_view vs) ≡ length vs
counted = items_len-items_view
