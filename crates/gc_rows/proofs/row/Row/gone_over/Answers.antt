use Rattle.std.proofs.Common.{rules, ◌≡◌, ◌<◌, length, sym, subst, ◌∙◌, ap, arith}
use Rattle.std.proofs.lemmas.List.{get_or_default}
use Rattle.std.specs.declared.cmp.Ordering.TheVariants.{Equal, Greater}
use Rattle.std.specs.List.{HoldsAt}
use Rattle.std.specs.Cmp.{nat_cmp_is, nat_cmp_total}
use Rattle.std.specs.Ordering.{nat_cmp}
use Rattle.gc_base.specs.Places.{IsGapFor, IsPlaceOf}
use Rattle.gc_base.proofs.Search.{place_found, rises}
use Rattle.gc_rows.specs.Rows.{IsRow}
use Rattle.gc_rows.proofs.GapLaws.{gap_before, gap_behind}
use Rattle.gc_rows.proofs.row.Row.gone_over.Goals as goal

pub returns-then-binding-var : goal.returns-then-binding-var
returns-then-binding-var c =
    let bs = c.bindings-bindings.result.now in
    let same = c.bindings-bindings.ensures.bindings in
    let up : IsRow bs = subst IsRow (sym same) c.bindings-bindings.ensures.ascends in
    let alike : c.index-bindings-place.result.var.0 ≡ c.args.var.0 = search (rules, arith) in
    let tie : HoldsAt (λ b. nat_cmp b.var.0 c.args.var.0 ≡ Equal) bs c.loop-place.place =
    λ d. ap (λ b. nat_cmp b.var.0 c.args.var.0) (get_or_default bs c.loop-place.place d c.index-bindings-place.result c.loop-place-test.true ∙ sym c.index-bindings-place.is)
    ∙ sym (nat_cmp_is c.index-bindings-place.result.var.0 c.args.var.0 Equal alike) in
    subst (λ xs. IsPlaceOf (λ b. nat_cmp b.var.0 c.args.var.0) xs c.loop-place.place) same
    (place_found _ bs c.loop-place.place (rises (λ b. b.var.0) nat_cmp nat_cmp_total bs c.args.var.0 up) c.loop-place-test.true tie)

pub returns-then-binding-var-2 : goal.returns-then-binding-var-2
returns-then-binding-var-2 c =
    let bs = c.bindings-bindings.result.now in
    let same = c.bindings-bindings.ensures.bindings in
    let up : IsRow bs = subst IsRow (sym same) c.bindings-bindings.ensures.ascends in
    let more : c.args.var.0 < c.index-bindings-place.result.var.0 = search (rules, arith) in
    let above : HoldsAt (λ b. nat_cmp b.var.0 c.args.var.0 ≡ Greater) bs c.loop-place.place =
    λ d. ap (λ b. nat_cmp b.var.0 c.args.var.0) (get_or_default bs c.loop-place.place d c.index-bindings-place.result c.loop-place-test.true ∙ sym c.index-bindings-place.is)
    ∙ sym (nat_cmp_is c.index-bindings-place.result.var.0 c.args.var.0 Greater more) in
    subst (λ xs. IsGapFor (λ b. nat_cmp b.var.0 c.args.var.0) xs c.loop-place.place) same
    (gap_before _ bs c.loop-place.place (rises (λ b. b.var.0) nat_cmp nat_cmp_total bs c.args.var.0 up) c.loop-place-test.true c.loop-place.invariant above)

pub returns : goal.returns
returns c =
    let bs = c.bindings-bindings.result.now in
    let same = c.bindings-bindings.ensures.bindings in
    let up : IsRow bs = subst IsRow (sym same) c.bindings-bindings.ensures.ascends in
    subst (λ xs. IsGapFor (λ b. nat_cmp b.var.0 c.args.var.0) xs (length bs)) same
    (gap_behind _ bs (rises (λ b. b.var.0) nat_cmp nat_cmp_total bs c.args.var.0 up)
    (λ k d from to. c.loop-place.invariant k d from (omega (arith, to, c.loop-place-test.false))))
