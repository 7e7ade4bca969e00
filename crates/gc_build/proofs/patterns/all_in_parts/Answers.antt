use Rattle.std.proofs.Common.{sym, ap, ◌∙◌}
use Rattle.std.specs.Option.{option_copied}
use Rattle.gc_alg.specs.Trees.{atoms_of}
use Rattle.gc_alg.specs.Views.{part_tree}
use Rattle.gc_alg.specs.declared.atom.Atom.{Atom}
use Rattle.gc_build.specs.AllPaths.{is_all_of}
use Rattle.gc_build.proofs.Atoms.{found_here, found_later}
use Rattle.gc_build.proofs.patterns.all_in_parts.Goals as goal

pub returns-in-Some : goal.returns-in-Some
returns-in-Some c =
    found_here (λ (a : Atom). is_all_of c.args.path a.what) (λ p. atoms_of (part_tree p)) c.args.parts.now c.loop-part.part-index c.part-item.result
    c.loop-part-test.true c.part-item.is c.in-Some.atom.now (ap option_copied (sym c.in-Some.is) ∙ c.all_in.ensures) c.loop-part.invariant

pub loop-part-preserved : goal.loop-part-preserved
loop-part-preserved c =
    found_later (λ (a : Atom). is_all_of c.args.path a.what) (λ p. atoms_of (part_tree p)) c.args.parts.now c.loop-part.part-index c.part-item.result
    c.loop-part-test.true c.part-item.is (ap option_copied (sym c.in_default.is) ∙ c.all_in.ensures) c.loop-part.invariant
