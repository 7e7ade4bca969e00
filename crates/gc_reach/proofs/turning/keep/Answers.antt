use Rattle.std.proofs.Common.{◌≡◌, ◌∙◌, Some, ap, map, sym, subst, arith}
use Rattle.std.specs.List.{slice_get}
use Rattle.std.specs.Option.{option_map}
use Rattle.std.proofs.lemmas.List.{take-map}
use Rattle.std.proofs.lemmas.Option.{slice_get-get_or, slice_get-map}
use Rattle.gc_prod.specs.declared.moves.Pair.{Pair}
use Rattle.gc_reach.specs.declared.marks.Spot.{Spot}
use Rattle.gc_reach.specs.Exploring.{AreApart, work}
use Rattle.gc_reach.specs.Marking.{pair_at}
use Rattle.gc_reach.proofs.FoundLaws.{few_more, few_taken}
use Rattle.gc_reach.proofs.turning.keep.Goals as goal

abbrev none : Spot
none = record { place = 0; state = 0 }

pub returns-in_err-keep_pair-clause-few : goal.returns-in_err-keep_pair-clause-few
returns-in_err-keep_pair-clause-few g c =
    let setting = c.args.p.now in
    let f = pair_at c.args.marks.now.nodes in
    let items = c.spots-spot-items.result.now in
    let i = c.loop-spot.spot-index in
    let apart : AreApart (map f items) = subst AreApart (sym c.spots-spot-items.ensures.pairs) c.requires.apart in
    let at : slice_get (map f items) i ≡ Some c.pair.result =
    slice_get-map f items i ∙ (ap (option_map f) (slice_get-get_or items i none c.loop-spot-test.true) ∙ ap (λ (q : Pair). Some q) (sym c.pair.ensures)) in
    omega (arith, c.loop-spot.invariant.few, c.keep_pair.ensures.few, few_more setting c.pair.result (map f items) i apart at, ap (work setting) (take-map f i items))

pub returns-clause-few : goal.returns-clause-few
returns-clause-few g c =
    let setting = c.args.p.now in
    let f = pair_at c.args.marks.now.nodes in
    let items = c.spots-spot-items.result.now in
    let i = c.loop-spot.spot-index in
    let apart : AreApart (map f items) = subst AreApart (sym c.spots-spot-items.ensures.pairs) c.requires.apart in
    omega (arith, c.loop-spot.invariant.few, few_taken setting (map f items) i apart, ap (work setting) (take-map f i items))
