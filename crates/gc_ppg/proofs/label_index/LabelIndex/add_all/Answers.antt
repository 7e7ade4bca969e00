use Rattle.std.proofs.Common.{◌++◌, List, ℕ, sym, ap, ◌∙◌, subst, arith}
use Rattle.gc_base.specs.Ascending.{Ascends, has}
use Rattle.gc_base.specs.Literals.{text_order}
use Rattle.gc_ppg.specs.LabelPlaces.{place_if, places_of}
use Rattle.gc_ppg.proofs.LabelIndexes.{drop_item, label_gained}
use Rattle.gc_ppg.proofs.label_index.LabelIndex.add_all.Goals as goal

pub loop-label-preserved : goal.loop-label-preserved
loop-label-preserved c =
    let split = drop_item c.args.labels.now c.loop-label.label-index c.label-item.result (omega arith) c.label-item.is in
    let up = subst (Ascends text_order) split c.loop-label.invariant.ascends in
    record {
      whole = λ label. label_gained c.label-item.result label _ c.args.place _ _ _ up (c.in_ok-add.ensures label)
          (ap (λ (xs : List (List ℕ)). places_of c.loop-label.self label ++ place_if (has text_order xs label) c.args.place) (sym split) ∙ c.loop-label.invariant.whole label);
      ascends = up.1;
    }
