use Rattle.std.proofs.Common.{◌≡◌, ◌==◌, List, refl, sym, ap, ◌∙◌, subst}
use Rattle.std.specs.Bool.{Decides}
use Rattle.std.proofs.lemmas.Bool.Decides.{Decides-eqb}
use Rattle.std.proofs.lemmas.Slice.Eq.{slice_eq-Decides}
use Rattle.gc_base.specs.declared.place.Sym.{Sym}
use Rattle.gc_base.proofs.Search.{AllByRecursion-weaker}
use Rattle.gc_rows.specs.Tables.{AreRowsOver, HasExactly, IsTableOf, Relation}
use Rattle.gc_rows.proofs.RestrictLaws.{projected_same}
use Rattle.gc_exec.proofs.joins.table_over.Goals as goal

same_tells : (a b : Sym) → Decides (a.0 == b.0) (a ≡ b)
same_tells a b = let e = Decides-eqb a.0 b.0 in (λ h. ap (λ n. record { 0 = n }) (e.0 h), λ h. e.1 (ap (λ (x : Sym). x.0) h))

pub returns-then-eq : goal.returns-then-eq
returns-then-eq c =
    let table = c.args.table in
    let seen = (slice_eq-Decides same_tells c.as_slice.result.now c.as_slice-2.result.now c.eq.result c.eq.ensures).0 c.if-eq.true in
    let same : table.schema ≡ c.args.schema = sym (c.as_slice.ensures ∙ (c.schema.ensures.schema ∙ ap (λ (r : Relation). r.schema) c.rows.ensures.rows)) ∙ (seen ∙ c.as_slice-2.ensures) in
    let valid : AreRowsOver c.args.schema table.rows = subst (λ (xs : List Sym). AreRowsOver xs table.rows) same c.rows.ensures.valid in
    let over = AllByRecursion-weaker _ _ (λ row h. h.over) table.rows valid.each in
    record {
      over = same;
      rows = valid;
      exact = subst (λ rows. HasExactly rows table.rows) (sym (projected_same c.args.schema table.rows over)) (record { sound = λ row m. m; complete = λ row m. m });
    }
