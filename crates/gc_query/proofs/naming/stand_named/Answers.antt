use Rattle.std.proofs.Common.{sym, ◌∙◌, subst}
use Rattle.gc_ast.specs.PatternViews.{named}
use Rattle.gc_catalog.specs.AddRefusals.{IsAddRefusal}
use Rattle.gc_query.proofs.FreeWords.{not_taken}
use Rattle.gc_query.proofs.naming.stand_named.Goals as goal

pub unreachable-requires : goal.unreachable-requires
unreachable-requires c =
    not_taken c.args.catalog.now.names (named c.args.checked.now.file.names c.args.name).name c.in-Some.word (sym c.in_ok-word.ensures ∙ c.in-Some.is)
    (subst (IsAddRefusal c.args.catalog.now c.in-Some.word) c.in-Err-NameTaken.field-0-is c.in-Err-NameTaken.ensures.refused)
