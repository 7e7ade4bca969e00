use Rattle.std.proofs.Common.{◌≡◌, ◌++◌, drop}
use Rattle.gc_build_reading.specs.Items.{labels_of}
use Rattle.gc_build_reading.proofs.told.add_labels.Given as goal

abbrev pub invariant-loop-label : goal.invariant-loop-label
invariant-loop-label l = l.list ++ labels_of l.var (drop l.label-index l.labels) ≡ l.initial.list ++ labels_of l.var l.labels
