use Rattle.std.proofs.Common.{sym, ap, ◌∙◌}
use Rattle.gc_expr.specs.Views.{name_of}
use Rattle.gc_sorts.specs.Blocks.{own_uses}
use Rattle.gc_sorts.specs.FileBlocks.{block_by}
use Rattle.gc_sorts.specs.Variables.{first_sort}
use Rattle.gc_sorts.proofs.following.sort_in_block.Goals as goal

pub returns-in-View : goal.returns-in-View
returns-in-View c =
    c.in_chains.ensures ∙ sym (ap (λ block. first_sort (own_uses (block_by c.args.sought.names.now block)) (name_of c.args.sought.names.now c.args.sought.name)) c.in-View.is)
