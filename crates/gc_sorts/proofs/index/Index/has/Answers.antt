use Rattle.std.proofs.Common.{◌∙◌, ap, is_some}
use Rattle.gc_ast.specs.Names.{same_name}
use Rattle.gc_expr.specs.Views.{name_of}
use Rattle.gc_sorts.proofs.Places.{is_some-position}
use Rattle.gc_sorts.proofs.index.Index.has.Goals as goal

pub returns : goal.returns
returns c =
    c.is_some.ensures ∙ ap is_some c.first.ensures
    ∙ is_some-position (same_name (name_of c.args.self.now.names c.args.sym)) c.args.self.now.order
