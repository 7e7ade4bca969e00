use Rattle.std.proofs.Common.{sym, ap, ◌++◌, ◌∷◌, [], if◌then◌else◌}
use Rattle.gc_ast.proofs.NameLemmas.{name_of_number}
use Rattle.gc_ast.proofs.names.NameTable.intern.Goals as goal

pub returns-in-Some-clause-names : goal.returns-in-Some-clause-names
returns-in-Some-clause-names c =
    ap (λ has. if has then c.args.self.now else c.args.self.now ++ c.args.name.now ∷ []) c.in-Some.ensures.has

pub returns-in-Some-clause-number : goal.returns-in-Some-clause-number
returns-in-Some-clause-number c = name_of_number c.args.self.now c.args.name.now c.in-Some.sym.0 (sym c.in-Some.ensures.number)
