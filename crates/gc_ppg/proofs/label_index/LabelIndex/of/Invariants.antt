use Rattle.std.proofs.Common.{◌≡◌, ◌++◌, ℕ, List, drop}
use Rattle.gc_ppg.specs.LabelPlaces.{places_of, places_from}
use Rattle.gc_ppg.proofs.label_index.LabelIndex.of.Given as goal

-- the places so far with those of the rest are those of all
abbrev pub invariant-loop-place : goal.invariant-loop-place
invariant-loop-place g l = (label : List ℕ) → places_of l.index label ++ places_from g.T.Labelled.labels_of label l.place (drop l.place l.elements) ≡ places_from g.T.Labelled.labels_of label 0 l.elements
