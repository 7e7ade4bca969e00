use Rattle.std.proofs.Common.{◌≡◌, ◌∷◌, [], ◌++◌, ap, sym, subst, List, map, set, false, true, length, ◌+◌, ◌*◌, ◌<◌, ◌^◌, ◌∙◌, get_or, arith, rules}
use Rattle.std.specs.List.{AllByRecursion}
use Rattle.std.proofs.Math.Nat.{mul_comm}
use Rattle.std.proofs.lemmas.List.{map-append}
use Rattle.gc_base.proofs.SetLaws.{AllByRecursion-append}
use Rattle.gc_prod.specs.declared.moves.Pair.{Pair}
use Rattle.gc_reach.specs.declared.marks.Spot.{Spot}
use Rattle.gc_reach.specs.Marking.{Marking, IsMarked, IsSpot, pair_at}
use Rattle.gc_reach.proofs.MarkLaws.{mark_within, marked_more}
use Rattle.gc_reach.proofs.NumberLaws.{among_read}
use Rattle.gc_reach.proofs.marks.Marks.mark_from.Goals as goal

pub overflow_add-at : goal.overflow_add-at
overflow_add-at c =
    let nodes = c.self.inside.nodes.now in
    let width = c.self.inside.width in
    let marked = c.self.inside.marked.items in
    let place = c.args.place in
    let state = c.args.state in
    let below : place < length nodes = omega (arith, c.requires.place, ap (λ (m : Marking). length m.nodes) c.self.view_is) in
    let less : state < width = omega (arith, c.requires.state, ap (λ (m : Marking). m.width) c.self.view_is) in
    let starts : c.args.start ≡ state * length nodes = c.requires.start ∙ ap (λ (m : Marking). state * length m.nodes) (sym c.self.view_is) in
    let short : length marked < 2 ^ 64 = search rules in
    omega (arith, starts, short, c.self.invariant.marks.size, mul_comm (length nodes) width, mark_within width (length nodes) state place less below)

pub invariant_of-self-then-not-index : goal.invariant_of-self-then-not-index
invariant_of-self-then-not-index c =
    let nodes = c.self.inside.nodes.now in
    let width = c.self.inside.width in
    let spots = c.self.inside.spots.items in
    let old : Marking = record { nodes = nodes; width = width; pairs = map (pair_at nodes) spots } in
    let marked = c.self.inside.marked.items in
    let place = c.args.place in
    let state = c.args.state in
    let at = state * length nodes + place in
    let s : Spot = record { place = place; state = state } in
    let below : place < length nodes = omega (arith, c.requires.place, ap (λ (m : Marking). length m.nodes) c.self.view_is) in
    let less : state < width = omega (arith, c.requires.state, ap (λ (m : Marking). m.width) c.self.view_is) in
    let starts : c.args.start ≡ state * length nodes = c.requires.start ∙ ap (λ (m : Marking). state * length m.nodes) (sym c.self.view_is) in
    let here : c.args.start + place ≡ at = ap (λ n. n + place) starts in
    let read : false ≡ get_or marked (c.args.start + place) false = subst (λ b. b ≡ get_or marked (c.args.start + place) b) c.if-not-index.true c.index.ensures in
    let fresh : get_or marked at false ≡ false = sym (read ∙ ap (λ n. get_or marked n false) here) in
    let more = marked_more old marked c.self.invariant.marks place state below less fresh (record { node = among_read nodes place below; state = less }) in
    let written = subst (λ n. IsMarked (record { nodes = nodes; width = width; pairs = map (pair_at nodes) spots ++ pair_at nodes s ∷ [] }) (set marked n true)) (sym here) more in
    record {
      marks = subst (λ (pairs : List Pair). IsMarked (record { nodes = nodes; width = width; pairs = pairs }) (set marked (c.args.start + place) true))
          (sym (ap (map (pair_at nodes)) c.in_ok-push.ensures.items ∙ map-append (pair_at nodes) spots (s ∷ []))) written;
      placed = subst (λ (l : List Spot). AllByRecursion (IsSpot nodes width) l) (sym c.in_ok-push.ensures.items)
          (AllByRecursion-append (IsSpot nodes width) spots (s ∷ []) c.self.invariant.placed ((below, less), tt));
    }
