use Rattle.std.proofs.Common.{◌∙◌, sym, ap, length}
use Rattle.gc_ast.specs.QueryViews.{file_trees}
use Rattle.gc_ast.specs.Trees.{row}
use Rattle.gc_sorts.specs.declared.checked.Checked.{Checked}
use Rattle.gc_sorts.specs.Collected.{number_of}
use Rattle.gc_sorts.specs.Occurrences.{file_occurrences}
use Rattle.gc_sorts.proofs.ReadLaws.{hidden_kept}
use Rattle.gc_sorts.proofs.checked.Checked.hidden_at.Goals as goal

pub returns-in-Some : goal.returns-in-Some
returns-in-Some c =
    sym c.in-Some.is ∙ c.get.ensures ∙ ap (λ (k : Checked). number_of k.found.hidden c.args.token) c.self.view_is
    ∙ hidden_kept c.args.self.now.found (length c.args.self.now.file.names) (file_occurrences c.args.self.now.graphs (row (file_trees c.args.self.now.file))) c.args.token c.args.self.now.all_found

pub returns-in-None : goal.returns-in-None
returns-in-None c =
    sym c.in-None.is ∙ c.get.ensures ∙ ap (λ (k : Checked). number_of k.found.hidden c.args.token) c.self.view_is
    ∙ hidden_kept c.args.self.now.found (length c.args.self.now.file.names) (file_occurrences c.args.self.now.graphs (row (file_trees c.args.self.now.file))) c.args.token c.args.self.now.all_found
