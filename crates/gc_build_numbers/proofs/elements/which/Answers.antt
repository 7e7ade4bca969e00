use Rattle.std.proofs.Common.{◌≡◌, None, replicate, length, fold, ap, ◌∙◌, rules}
use Rattle.gc_build_numbers.specs.Numbers.{with_place}
use Rattle.gc_build_numbers.proofs.WhichLaws.{all_within, next_made, none_made, written}
use Rattle.gc_build_numbers.proofs.elements.which.Goals as goal

pub loop-place-init : goal.loop-place-init
loop-place-init g c = c.in_ok-which.ensures.items_if_clones_equal (λ y h. search rules) ∙ (ap (λ n. replicate n None) c.requires.0 ∙ none_made g.keys)

pub give_place-requires : goal.give_place-requires
give_place-requires g c =
    let e = c.index-elements-place.result in
    let within = all_within g.keys c.args.elements.now c.loop-place.place e c.requires.1 c.loop-place-test.true c.index-elements-place.is c.loop-place.which.items c.loop-place.invariant in
    rw (c.as_slice.ensures, c.deref_mut.ensures.value) within

pub loop-place-preserved : goal.loop-place-preserved
loop-place-preserved g c =
    let e = c.index-elements-place.result in
    let given : c.give_place.new.which ≡ fold (with_place c.loop-place.place) c.loop-place.which.items e.group.rows =
    c.give_place.ensures ∙ (λ j. fold (with_place c.loop-place.place) (c.deref_mut.ensures.value j) (c.as_slice.ensures j)) in
    let made = next_made g.keys c.args.elements.now c.loop-place.place e c.requires.1 c.loop-place-test.true c.index-elements-place.is
    c.loop-place.which.items c.give_place.new.which c.loop-place.invariant given in
    written c.loop-place.which.len c.give_place.new.which c.loop-place.which.items (c.give_place.auto.which ∙ ap length c.deref_mut.ensures.value) c.loop-place.which.ok.0 ∙ made
