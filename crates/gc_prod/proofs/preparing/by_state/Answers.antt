use Rattle.std.proofs.Common.{◌≡◌, ◌<◌, ◌∙◌, ℕ, List, map, length, ap, sym, subst}
use Rattle.std.specs.List.{AllByRecursion}
use Rattle.std.proofs.lemmas.List.{length-map}
use Rattle.std.proofs.lemmas.Result.{IfOk-weaker}
use Rattle.gc_prod.specs.declared.preparing.Leg.{Leg}
use Rattle.gc_prod.specs.Groups.{numbered}
use Rattle.gc_prod.proofs.BundleLaws.{all_map}
use Rattle.gc_prod.proofs.GroupLaws.{numbered_filter}
use Rattle.gc_prod.proofs.preparing.by_state.Goals as goal

abbrev left : Leg → ℕ
left leg = leg.from

pub of-requires : goal.of-requires
of-requires c =
    let states : c.deref.result.now ≡ map left c.args.legs.now = c.deref.ensures.value ∙ c.in_ok-states.ensures in
    record {
      lengths = ap length states ∙ length-map c.args.legs.now left;
      below = subst (λ (l : List ℕ). AllByRecursion (λ n. n < c.args.width) l) (sym states) (all_map left (λ n. n < c.args.width) c.args.legs.now c.requires);
    }

pub returns : goal.returns
returns c =
    let states : c.deref.result.now ≡ map left c.args.legs.now = c.deref.ensures.value ∙ c.in_ok-states.ensures in
    IfOk-weaker c.of.result _ _ (λ kept rows state. rows state ∙ (ap (λ l. numbered state l c.args.legs.now) states ∙ numbered_filter left state c.args.legs.now)) c.of.ensures
