use Rattle.std.proofs.Common.{sym, ap, ◌∙◌}
use Rattle.gc_expr.specs.Views.{name_of}
use Rattle.gc_sorts.specs.Variables.{first_sort}
use Rattle.gc_sorts.proofs.FirstSorts.{found_in, passed}
use Rattle.gc_sorts.proofs.PartSorts.{match_is}
use Rattle.gc_sorts.proofs.following.in_match.Goals as goal

pub returns-in-Some : goal.returns-in-Some
returns-in-Some c =
    let name = name_of c.args.sought.names.now c.args.sought.name in
    found_in _ _ name c.in-Some.sort _ c.in-Some.ensures (sym (ap (λ us. first_sort us name) (match_is c.args.sought.names.now c.args.basic.now)))

pub returns-in-None : goal.returns-in-None
returns-in-None c =
    let name = name_of c.args.sought.names.now c.args.sought.name in
    c.in_optionals.ensures ∙ passed _ _ name _ c.in-None.ensures (sym (ap (λ us. first_sort us name) (match_is c.args.sought.names.now c.args.basic.now)))
