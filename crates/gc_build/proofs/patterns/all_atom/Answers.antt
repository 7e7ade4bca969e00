use Rattle.std.proofs.Common.{ap, ◌∙◌}
use Rattle.std.specs.List.{flat_map}
use Rattle.gc_alg.specs.Trees.{atoms_of}
use Rattle.gc_alg.specs.Views.{part_tree}
use Rattle.gc_build.specs.AllPaths.{first_all}
use Rattle.gc_build.proofs.Atoms.{block_atoms_are}
use Rattle.gc_build.proofs.patterns.all_atom.Goals as goal

pub returns : goal.returns
returns c =
    c.all_in_parts.ensures
    ∙ (λ i. first_all c.args.path (flat_map (λ p. atoms_of (part_tree p)) (c.deref.ensures.value i)))
    ∙ ap (first_all c.args.path) (block_atoms_are c.args.block.now)
