-- The order of literals is total, and only equal literals tie.
use Rattle.std.proofs.Common.{◌≡◌, ℕ, ℤ, pos, Bool, true, false, List, [], refl, ap, subst}
use Rattle.std.specs.declared.cmp.Ordering.{Ordering}
use Rattle.std.specs.declared.cmp.Ordering.TheVariants.{Less, Equal, Greater}
use Rattle.std.specs.Ordering.{nat_cmp, int_cmp, bool_cmp, on, ordering_then, then_cmp}
use Rattle.std.specs.Cmp.{IsTotalOrder, nat_cmp_total, int_cmp_total, bool_cmp_total, on_total, then_total}
use Rattle.std.specs.Cmp.Lexicographic.{nat_list_cmp_total}
use Rattle.std.specs.FinMap.{IsAntisymmetric, int_cmp-IsAntisymmetric, nat_cmp-IsAntisymmetric, slice_cmp-IsAntisymmetric}
use Rattle.gc_base.specs.Literals.{literal_order, kind_number, text_order}
use Rattle.gc_base.specs.declared.literal.Literal.{Literal}
use Rattle.gc_base.specs.declared.literal.Literal.TheVariants.{Truth, Number, Text}

abbrev truth_part : Literal → Bool
truth_part (Truth t) = t
truth_part a = false

abbrev number_part : Literal → ℤ
number_part (Number n) = n
number_part a = pos 0

abbrev text_part : Literal → List ℕ
text_part (Text t) = t
text_part a = []

-- the same order by kind, truth, number and text
abbrev by_parts : Literal → Literal → Ordering
by_parts = then_cmp (on kind_number nat_cmp) (then_cmp (on truth_part bool_cmp) (then_cmp (on number_part int_cmp) (on text_part text_order)))

then_equal : (o : Ordering) → ordering_then o Equal ≡ o
then_equal Less = refl
then_equal Equal = refl
then_equal Greater = refl

same_order : (a b : Literal) → by_parts a b ≡ literal_order a b
same_order (Truth s) (Truth t) = then_equal (bool_cmp s t)
same_order (Truth s) (Number n) = refl
same_order (Truth s) (Text t) = refl
same_order (Number m) (Truth t) = refl
same_order (Number m) (Number n) = then_equal (int_cmp m n)
same_order (Number m) (Text t) = refl
same_order (Text s) (Truth t) = refl
same_order (Text s) (Number n) = refl
same_order (Text s) (Text t) = refl

pub literal_order_total : IsTotalOrder literal_order
literal_order_total =
    subst IsTotalOrder (λ i a b. same_order a b i)
    (then_total (on_total kind_number nat_cmp_total)
    (then_total (on_total truth_part bool_cmp_total) (then_total (on_total number_part int_cmp_total) (on_total text_part nat_list_cmp_total))))

truths_differ : (s t : Bool) → bool_cmp s t ≡ Equal → s ≡ t
truths_differ true true h = refl
truths_differ true false h = cc
truths_differ false true h = cc
truths_differ false false h = refl

pub text_order_exact : IsAntisymmetric text_order
text_order_exact = slice_cmp-IsAntisymmetric nat_cmp-IsAntisymmetric

pub literal_order_exact : IsAntisymmetric literal_order
literal_order_exact (Truth s) (Truth t) h = ap Truth (truths_differ s t h)
literal_order_exact (Truth s) (Number n) h = cc
literal_order_exact (Truth s) (Text t) h = cc
literal_order_exact (Number m) (Truth t) h = cc
literal_order_exact (Number m) (Number n) h = ap Number (int_cmp-IsAntisymmetric m n h)
literal_order_exact (Number m) (Text t) h = cc
literal_order_exact (Text s) (Truth t) h = cc
literal_order_exact (Text s) (Number n) h = cc
literal_order_exact (Text s) (Text t) h = ap Text (text_order_exact s t h)
