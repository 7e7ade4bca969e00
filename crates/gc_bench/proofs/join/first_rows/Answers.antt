use Rattle.std.proofs.Common.{◌≡◌, true, List, refl, sym, ap, subst, ◌∙◌}
use Rattle.gc_base.specs.declared.place.Sym.{Sym}
use Rattle.gc_rows.specs.Arrays.{is_distinct}
use Rattle.gc_rows.specs.Tables.{Relation}
use Rattle.gc_bench.proofs.join.first_rows.Goals as goal

pub new-rows-requires : goal.new-rows-requires
new-rows-requires c = subst (λ (schema : List Sym). is_distinct schema ≡ true) (sym c.in_ok-schema_of.ensures) refl
