use Rattle.std.proofs.Common.{◌∙◌, ap, sym, subst}
use Rattle.gc_prod.specs.Segments.{AreSegments}
use Rattle.gc_walks.specs.Databases.{used_segments}
use Rattle.gc_walks.proofs.SearchableTrees.{searchable_parts}
use Rattle.gc_walks.proofs.UsedSegments.{used_are}
use Rattle.gc_walks.proofs.machine.machine_of.Goals as goal

pub returns-in_err-automaton-clause-parts : goal.returns-in_err-automaton-clause-parts
returns-in_err-automaton-clause-parts c = searchable_parts c.args.expression.now c.requires

pub returns-in_err-segments-clause-parts : goal.returns-in_err-segments-clause-parts
returns-in_err-segments-clause-parts c = searchable_parts c.args.expression.now c.requires

pub returns-clause-parts : goal.returns-clause-parts
returns-clause-parts c = searchable_parts c.args.expression.now c.requires

pub returns-clause-there : goal.returns-clause-there
returns-clause-there c = λ graphs g all there.
    subst (AreSegments g) (sym (c.in_ok-segments.ensures ∙ ap (used_segments c.args.table.now c.args.graph) c.as_slice.ensures)) (used_are graphs g c.args.graph there c.args.table.now c.args.views.now all)
