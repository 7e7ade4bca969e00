use Rattle.std.proofs.Common.{ap, ◌∙◌, sym}
use Rattle.gc_sorts.specs.FileBlocks.{node_by}
use Rattle.gc_sorts.specs.Ways.{next}
use Rattle.gc_sorts.proofs.reached.next.Goals as goal

pub returns-in-Statements : goal.returns-in-Statements
returns-in-Statements c = λ names. c.from_statements.ensures names ∙ ap (λ from. next (node_by names from) c.args.step) (sym c.in-Statements.is)
