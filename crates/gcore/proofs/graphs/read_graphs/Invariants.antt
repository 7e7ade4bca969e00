use Rattle.std.proofs.Common.{◌≡◌, ◌≤◌, [], length, take, map, Ok}
use Rattle.std.specs.Prelude.{IfSome}
use Rattle.gc_spec.specs.Coherence.{shapes_of}
use Rattle.gcore.specs.GraphSteps.{name_given}
use Rattle.gcore.specs.Outcomes.{free_above, graphs_due}
use Rattle.gcore.proofs.graphs.read_graphs.Given as goal

-- the graphs so far are those of the files so far, and what they stand for is known
abbrev pub invariant-loop-pair : goal.invariant-loop-pair
invariant-loop-pair g l = record {
  due : IfSome (g.F.Folder.files l.folder) (λ files. graphs_due files [] (take l.pair-index l.pairs) ≡ Ok l.catalog.graphs);
  names : l.catalog.names ≡ map name_given (take l.pair-index l.pairs);
  next : l.catalog.next ≡ free_above l.catalog.graphs;
  count : length l.catalog.graphs ≡ l.pair-index;
  seen : l.seen ≡ map shapes_of l.catalog.graphs;
  later : g.F.Folder.faults l.initial.folder ≤ g.F.Folder.faults l.folder;
  kept : g.F.Folder.files l.folder ≡ g.F.Folder.files l.initial.folder;
}
