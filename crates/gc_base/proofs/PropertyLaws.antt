-- Properties stay properties when one goes in or comes out.
use Rattle.std.proofs.Common.{◌≡◌, true, false, List, [], ◌∷◌, length, ◌<◌, refl, subst, sym, arith, OnOk, OnErr, Result, Ok, Err, ◌∙◌}
use Rattle.std.specs.Cmp.{IsTotalOrder, on_total}
use Rattle.std.specs.Cmp.Lexicographic.{nat_list_cmp_total}
use Rattle.gc_base.specs.Ascending.{with_item, without_item}
use Rattle.gc_base.specs.PropertyLists.{AreProperties, IsProperty, property_order, is_nil}
use Rattle.gc_base.specs.declared.properties.Property.{Property}
use Rattle.gc_base.proofs.SetLaws.{Ascends-filter, AllByRecursion-filter, Ascends-with_item, AllByRecursion-with_item}

pub property_order_total : IsTotalOrder property_order
property_order_total = on_total (λ p. p.name) nat_list_cmp_total

pub AreProperties-without : (ps : List Property) (p : Property) → AreProperties ps → AreProperties (without_item property_order ps p)
AreProperties-without ps p h = record {
  ascend = Ascends-filter property_order property_order_total _ ps h.ascend;
  each = AllByRecursion-filter IsProperty _ ps h.each;
}

pub AreProperties-with : (ps : List Property) (p : Property) → AreProperties ps → IsProperty p → AreProperties (with_item property_order ps p)
AreProperties-with ps p h one = record {
  ascend = Ascends-with_item property_order property_order_total ps p h.ascend;
  each = AllByRecursion-with_item property_order IsProperty ps p h.each one;
}

-- a list with a length above 0 is not empty
pub is_nil-nonempty : {X : Type 0} (xs : List X) → 0 < length xs → is_nil xs ≡ false
is_nil-nonempty [] h = absurd (omega arith)
is_nil-nonempty (x ∷ xs) h = refl

pub is_nil-empty : {X : Type 0} (xs : List X) → length xs ≡ 0 → is_nil xs ≡ true
is_nil-empty [] h = refl
is_nil-empty (x ∷ xs) h = absurd (omega arith)

-- properties that changed to other properties, or stayed where memory is wanting, are properties
pub AreProperties-changed :
    {T E : Type 0} (r : Result T E) (before after changed : List Property)
    → OnOk r (after ≡ changed) → OnErr r (after ≡ before) → AreProperties before → AreProperties changed → AreProperties after
AreProperties-changed (Ok x) before after changed ok err b c = subst AreProperties (sym ok) c
AreProperties-changed (Err e) before after changed ok err b c = subst AreProperties (sym err) b

-- where a list changed to one, it changed to what this one is
pub changed-to : {T E X : Type 0} (r : Result T E) (after changed due : X) → OnOk r (after ≡ changed) → changed ≡ due → OnOk r (after ≡ due)
changed-to (Ok x) after changed due ok e = ok ∙ e
changed-to (Err x) after changed due ok e = ok
