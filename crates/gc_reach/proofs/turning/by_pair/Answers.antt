use Rattle.std.proofs.Common.{◌≡◌, ◌<◌, ◌∙◌, ℕ, List, map, length, ap, sym, subst}
use Rattle.std.specs.List.{AllByRecursion}
use Rattle.std.proofs.lemmas.List.{length-map}
use Rattle.std.proofs.lemmas.Result.{IfOk-weaker}
use Rattle.gc_prod.specs.Groups.{numbered}
use Rattle.gc_prod.proofs.BundleLaws.{all_map}
use Rattle.gc_prod.proofs.GroupLaws.{numbered_filter}
use Rattle.gc_reach.specs.declared.turning.Turn.{Turn}
use Rattle.gc_reach.proofs.turning.by_pair.Goals as goal

abbrev number : Turn → ℕ
number t = t.number

pub of-requires : goal.of-requires
of-requires c =
    let numbers : c.deref.result.now ≡ map number c.args.kept.now = c.deref.ensures.value ∙ c.in_ok-numbers.ensures in
    record {
      lengths = ap length numbers ∙ length-map c.args.kept.now number;
      below = subst (λ (l : List ℕ). AllByRecursion (λ n. n < c.args.count) l) (sym numbers) (all_map number (λ n. n < c.args.count) c.args.kept.now c.requires);
    }

pub returns : goal.returns
returns c =
    let numbers : c.deref.result.now ≡ map number c.args.kept.now = c.deref.ensures.value ∙ c.in_ok-numbers.ensures in
    IfOk-weaker c.of.result _ _ (λ kept rows key. rows key ∙ (ap (λ l. numbered key l c.args.kept.now) numbers ∙ numbered_filter number key c.args.kept.now)) c.of.ensures
