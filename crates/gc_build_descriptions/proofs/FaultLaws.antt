-- The least fault of rows, one after another.
use Rattle.std.proofs.Common.{◌≡◌, refl, sym, ap, ◌∙◌, ℕ, zero, suc, ◌+◌, ◌<◌, List, [], ◌∷◌, ◌++◌, length, get_or, take, drop, fold, Option, None, slice_get, arith, add-one}
use Rattle.std.specs.List.{flat_map}
use Rattle.std.specs.Option.{option_to_list}
use Rattle.std.proofs.lemmas.Grind.{fold-append}
use Rattle.std.proofs.lemmas.List.{flat_map_more}
use Rattle.std.proofs.Math.Seq.{take-suc}
use Rattle.gc_build_descriptions.specs.Faults.{faults_among, lesser}
use Rattle.gc_build_descriptions.specs.declared.fault.Fault.{Fault}
use Rattle.gc_build_recipe.specs.Recipes.{Assignment}
use Rattle.gc_values.specs.declared.val.Val.{Val}
use Rattle.gc_values.specs.declared.val.Val.TheVariants.{Set, Element, Walked, Undefined}

none_among : (a : Assignment) (places : List ℕ) → faults_among a places [] ≡ []
none_among a [] = refl
none_among a (place ∷ places) = refl

-- the faults from a row on are that of the row and those after it
among_step : (a : Assignment) (places : List ℕ) (values : List Val) (i : ℕ) → i < length places
    → faults_among a (drop i places) (drop i values)
    ≡ faults_among a (get_or places i 0 ∷ []) (option_to_list (slice_get values i)) ++ faults_among a (drop (suc i) places) (drop (suc i) values)
among_step a [] values i h = absurd (omega (arith, h))
among_step a (p ∷ ps) [] zero h = sym (none_among a ps)
among_step a (p ∷ ps) [] (suc i) h = none_among a (drop i ps) ∙ sym (none_among a (drop (suc i) ps))
among_step a (p ∷ ps) (Set x ∷ vs) zero h = refl
among_step a (p ∷ ps) (Element x ∷ vs) zero h = refl
among_step a (p ∷ ps) (Walked ∷ vs) zero h = refl
among_step a (p ∷ ps) (Undefined x ∷ vs) zero h = refl
among_step a (p ∷ ps) (v ∷ vs) (suc i) h = among_step a ps vs i (omega (arith, h))

pub least_next : (a : Assignment) (least after : Option Fault) (places : List ℕ) (values : List Val) (i : ℕ) → i < length places
    → after ≡ fold lesser least (faults_among a (get_or places i 0 ∷ []) (option_to_list (slice_get values i)))
    → fold lesser after (faults_among a (drop (i + 1) places) (drop (i + 1) values)) ≡ fold lesser least (faults_among a (drop i places) (drop i values))
least_next a least after places values i h e =
    let here = faults_among a (get_or places i 0 ∷ []) (option_to_list (slice_get values i)) in
    let later = faults_among a (drop (suc i) places) (drop (suc i) values) in
    rw add-one
    (ap (λ f. fold lesser f later) e
    ∙ sym (fold-append lesser least here later)
    ∙ ap (fold lesser least) (sym (among_step a places values i h)))

-- with the faults of one element more
pub least_with : {X : Type 0} (faults : X → List Fault) (least after : Option Fault) (elements : List X) (i : ℕ) (x : X) → i < length elements → x ≡ get_or elements i x
    → least ≡ fold lesser None (flat_map faults (take i elements))
    → after ≡ fold lesser least (faults x)
    → after ≡ fold lesser None (flat_map faults (take (i + 1) elements))
least_with faults least after elements i x h e l a =
    rw add-one
    (a
    ∙ ap (λ f. fold lesser f (faults x)) l
    ∙ sym (fold-append lesser None (flat_map faults (take i elements)) (faults x))
    ∙ ap (fold lesser None) (flat_map_more faults [] (take i elements) x)
    ∙ ap (λ xs. fold lesser None (flat_map faults xs)) (ap (λ y. take i elements ++ y ∷ []) e ∙ sym (take-suc elements i x h)))
