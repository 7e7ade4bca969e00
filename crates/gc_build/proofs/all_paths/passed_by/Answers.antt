use Rattle.std.proofs.Common.{◌∙◌, ap, sym}
use Rattle.std.specs.Option.{option_copied}
use Rattle.gc_alg.specs.Tables.{block_atoms}
use Rattle.gc_alg.specs.Views.{block_tree}
use Rattle.gc_alg.specs.declared.atom.Atom.{Atom}
use Rattle.gc_build.specs.AllPaths.{IsSearchable, is_all_of}
use Rattle.gc_build.proofs.Passing.{found_so}
use Rattle.gc_build.proofs.all_paths.passed_by.Goals as goal

pub passed_in-requires-clause-searchable : goal.passed_in-requires-clause-searchable
passed_in-requires-clause-searchable g c =
    found_so (λ (a : Atom). is_all_of c.args.path a.what) (λ (a : Atom). IsSearchable a.what) (block_atoms (block_tree c.args.patterns.now.block.now)) c.in-Some.atom.now
    (ap option_copied (sym c.in-Some.is) ∙ c.all_atom.ensures) c.requires.searchable
