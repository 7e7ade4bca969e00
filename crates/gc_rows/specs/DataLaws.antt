-- The order of data is total, and only equal data tie.
use Rattle.std.proofs.Common.{◌≡◌, ℕ, List, [], ◌∷◌, length, map, refl, ap, subst}
use Rattle.std.specs.declared.cmp.Ordering.{Ordering}
use Rattle.std.specs.declared.cmp.Ordering.TheVariants.{Less, Equal, Greater}
use Rattle.std.specs.Ordering.{nat_cmp, on, ordering_then, then_cmp}
use Rattle.std.specs.Cmp.{IsTotalOrder, nat_cmp_total, on_total, then_total}
use Rattle.std.specs.Cmp.Lexicographic.{slice_cmp, nat_list_cmp_total, lists_total}
use Rattle.std.specs.FinMap.{IsAntisymmetric, nat_cmp-IsAntisymmetric, slice_cmp-IsAntisymmetric}
use Rattle.gc_base.specs.Walks.{edges_of}
use Rattle.gc_base.specs.Literals.{literal_order}
use Rattle.gc_base.specs.LiteralLaws.{literal_order_total, literal_order_exact}
use Rattle.gc_base.specs.declared.literal.Literal.{Literal}
use Rattle.gc_base.specs.declared.walk.Step.{Step}
use Rattle.gc_base.specs.declared.walk.Walk.{Walk}
use Rattle.gc_rows.specs.declared.datum.Datum.{Datum}
use Rattle.gc_rows.specs.declared.datum.Datum.TheVariants.{Node, Edge, Stored, Found, Span, Value, PastRange}
use Rattle.gc_rows.specs.Data.{nodes_of, found_order, kind_number, datum_order}

found_order_total : IsTotalOrder found_order
found_order_total =
    then_total (on_total (λ (w : Walk). w.start) nat_cmp_total)
    (then_total (on_total (λ (w : Walk). length w.steps) nat_cmp_total)
    (then_total (on_total edges_of nat_list_cmp_total) (on_total nodes_of nat_list_cmp_total)))

abbrev first_part : Datum → ℕ
first_part (Node a) = a
first_part (Edge a) = a
first_part (Stored a) = a
first_part (Span a b) = a
first_part d = 0

abbrev second_part : Datum → ℕ
second_part (Span a b) = b
second_part d = 0

abbrev walk_part : Datum → Walk
walk_part (Found w) = w
walk_part d = record { start = 0; steps = [] }

abbrev values_part : Datum → List Literal
values_part (Value values) = values
values_part d = []

-- the same order by kind, numbers, walk and values
abbrev by_parts : Datum → Datum → Ordering
by_parts =
    then_cmp (on kind_number nat_cmp)
    (then_cmp (on first_part nat_cmp)
    (then_cmp (on second_part nat_cmp) (then_cmp (on walk_part found_order) (on values_part (slice_cmp literal_order)))))

then_equal : (o : Ordering) → ordering_then o Equal ≡ o
then_equal Less = refl
then_equal Equal = refl
then_equal Greater = refl

same_order : (a b : Datum) → by_parts a b ≡ datum_order a b
same_order (Node a) (Node b) = then_equal (nat_cmp a b)
same_order (Edge a) (Edge b) = then_equal (nat_cmp a b)
same_order (Stored a) (Stored b) = then_equal (nat_cmp a b)
same_order (Found v) (Found w) = then_equal (found_order v w)
same_order (Span a b) (Span c d) = ap (ordering_then (nat_cmp a c)) (then_equal (nat_cmp b d))
same_order (Value a) (Value b) = refl
same_order PastRange (Node b) = refl
same_order PastRange (Edge b) = refl
same_order PastRange (Stored b) = refl
same_order PastRange (Found w) = refl
same_order PastRange (Span c d) = refl
same_order PastRange (Value b) = refl
same_order PastRange PastRange = refl
same_order a b = refl

pub datum_order_total : IsTotalOrder datum_order
datum_order_total =
    subst IsTotalOrder (λ i a b. same_order a b i)
    (then_total (on_total kind_number nat_cmp_total)
    (then_total (on_total first_part nat_cmp_total)
    (then_total (on_total second_part nat_cmp_total)
    (then_total (on_total walk_part found_order_total) (on_total values_part (lists_total literal_order_total))))))

-- both parts of a tie tie
first_ties : (o p : Ordering) → ordering_then o p ≡ Equal → o ≡ Equal
first_ties Less p h = h
first_ties Equal p h = refl
first_ties Greater p h = h

second_ties : (o p : Ordering) → ordering_then o p ≡ Equal → p ≡ Equal
second_ties Less p h = cc
second_ties Equal p h = h
second_ties Greater p h = cc

same_steps : (xs ys : List Step) → map (λ step. step.edge) xs ≡ map (λ step. step.edge) ys → map (λ step. step.node) xs ≡ map (λ step. step.node) ys → xs ≡ ys
same_steps [] [] e n = refl
same_steps [] (y ∷ ys) e n = cc
same_steps (x ∷ xs) [] e n = cc
same_steps (x ∷ xs) (y ∷ ys) e n =
    let edge : x.edge ≡ y.edge = cc in
    let node : x.node ≡ y.node = cc in
    let edges : map (λ (step : Step). step.edge) xs ≡ map (λ (step : Step). step.edge) ys = cc in
    let nodes : map (λ (step : Step). step.node) xs ≡ map (λ (step : Step). step.node) ys = cc in
    let rest : xs ≡ ys = same_steps xs ys edges nodes in
    λ i. record { edge = edge i; node = node i } ∷ rest i

found_order_exact : IsAntisymmetric found_order
found_order_exact v w h =
    let start : v.start ≡ w.start = nat_cmp-IsAntisymmetric _ _ (first_ties _ _ h) in
    let later = second_ties _ _ (second_ties _ _ h) in
    let edges : edges_of v ≡ edges_of w = slice_cmp-IsAntisymmetric nat_cmp-IsAntisymmetric _ _ (first_ties _ _ later) in
    let nodes : nodes_of v ≡ nodes_of w = slice_cmp-IsAntisymmetric nat_cmp-IsAntisymmetric _ _ (second_ties _ _ later) in
    let steps : v.steps ≡ w.steps = same_steps v.steps w.steps edges nodes in
    λ i. record { start = start i; steps = steps i }

pub datum_order_exact : IsAntisymmetric datum_order
datum_order_exact (Node a) (Node b) h = ap Node (nat_cmp-IsAntisymmetric a b h)
datum_order_exact (Edge a) (Edge b) h = ap Edge (nat_cmp-IsAntisymmetric a b h)
datum_order_exact (Stored a) (Stored b) h = ap Stored (nat_cmp-IsAntisymmetric a b h)
datum_order_exact (Found v) (Found w) h = ap Found (found_order_exact v w h)
datum_order_exact (Span a b) (Span c d) h =
    let start : a ≡ c = nat_cmp-IsAntisymmetric a c (first_ties _ _ h) in
    let end : b ≡ d = nat_cmp-IsAntisymmetric b d (second_ties (nat_cmp a c) _ h) in
    λ i. Span (start i) (end i)
datum_order_exact (Value a) (Value b) h = ap Value (slice_cmp-IsAntisymmetric literal_order_exact a b h)
datum_order_exact PastRange PastRange h = refl
datum_order_exact a b h = cc
