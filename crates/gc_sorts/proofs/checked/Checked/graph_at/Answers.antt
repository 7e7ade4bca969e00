use Rattle.std.proofs.Common.{◌∙◌, ap, length}
use Rattle.gc_ast.specs.QueryViews.{file_trees}
use Rattle.gc_ast.specs.Trees.{row}
use Rattle.gc_sorts.specs.declared.checked.Checked.{Checked}
use Rattle.gc_sorts.specs.Collected.{number_of}
use Rattle.gc_sorts.specs.Occurrences.{file_occurrences}
use Rattle.gc_sorts.proofs.ReadLaws.{graph_kept}
use Rattle.gc_sorts.proofs.checked.Checked.graph_at.Goals as goal

pub returns : goal.returns
returns c =
    c.get.ensures ∙ ap (λ (k : Checked). number_of k.found.graphs c.args.token) c.self.view_is
    ∙ graph_kept c.args.self.now.found (length c.args.self.now.file.names) (file_occurrences c.args.self.now.graphs (row (file_trees c.args.self.now.file))) c.args.token c.args.self.now.all_found
