use Rattle.std.proofs.Common.{◌≡◌, ◌<◌, ◌∙◌, ℕ, List, map, length, ap, sym, subst}
use Rattle.std.specs.List.{AllByRecursion}
use Rattle.std.proofs.lemmas.List.{length-map}
use Rattle.std.proofs.lemmas.Result.{IfOk-weaker}
use Rattle.gc_prod.specs.declared.moves.Hop.{Hop}
use Rattle.gc_prod.specs.Groups.{numbered}
use Rattle.gc_prod.specs.Places.{place_in}
use Rattle.gc_prod.proofs.GroupLaws.{numbered_filter}
use Rattle.gc_prod.proofs.PlaceLaws.{places_within, at_place}
use Rattle.gc_prod.proofs.preparing.by_node.Goals as goal

pub of-requires : goal.of-requires
of-requires c =
    let places : c.deref.result.now ≡ map (λ (h : Hop). place_in c.args.nodes.now h.from) c.args.hops.now = c.deref.ensures.value ∙ c.in_ok-places.ensures in
    record {
      lengths = ap length places ∙ length-map c.args.hops.now (λ (h : Hop). place_in c.args.nodes.now h.from);
      below = subst (λ (l : List ℕ). AllByRecursion (λ n. n < length c.args.nodes.now) l) (sym places)
          (places_within (λ (h : Hop). h.from) c.args.nodes.now c.args.hops.now c.requires.there);
    }

pub returns : goal.returns
returns c =
    let nodes = c.args.nodes.now in
    let hops = c.args.hops.now in
    let place : Hop → ℕ = λ h. place_in nodes h.from in
    let places : c.deref.result.now ≡ map place hops = c.deref.ensures.value ∙ c.in_ok-places.ensures in
    IfOk-weaker c.of.result _ _ (λ kept rows node.
    rows (place_in nodes node)
    ∙ (ap (λ l. numbered (place_in nodes node) l hops) places ∙ (numbered_filter place (place_in nodes node) hops ∙ at_place (λ (h : Hop). h.from) nodes node hops c.requires.there)))
    c.of.ensures
