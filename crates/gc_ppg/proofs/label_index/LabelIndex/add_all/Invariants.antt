use Rattle.std.proofs.Common.{◌≡◌, ◌++◌, ℕ, List, drop}
use Rattle.gc_base.specs.Ascending.{Ascends, has}
use Rattle.gc_base.specs.Literals.{text_order}
use Rattle.gc_ppg.specs.LabelPlaces.{place_if, places_of}
use Rattle.gc_ppg.proofs.label_index.LabelIndex.add_all.Given as goal

-- what the labels so far gave, with what the others give
abbrev pub invariant-loop-label : goal.invariant-loop-label
invariant-loop-label l = record {
  whole : (label : List ℕ) → places_of l.self label ++ place_if (has text_order (drop l.label-index l.labels) label) l.place ≡ places_of l.initial.self label ++ place_if (has text_order l.labels label) l.place;
  ascends : Ascends text_order (drop l.label-index l.labels);
}
