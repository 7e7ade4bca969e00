-- What the expression of a term reads is the part of a key for it.
use Rattle.std.proofs.Common.{◌≡◌, ℕ, List, [], Option, None, Some, refl, ap, ◌∙◌}
use Rattle.std.specs.Option.{option_map}
use Rattle.gc_base.specs.declared.place.Sym.{Sym}
use Rattle.gc_expr.specs.Trees as tree
use Rattle.gc_expr.specs.Trees.{TreeOf, AnExpr, At}
use Rattle.gc_group.specs.Folds.{literals_of}
use Rattle.gc_build_numbers.specs.Keys.{read_of, term_part}
use Rattle.gc_build_recipe.specs.declared.variable.Term.{Term}
use Rattle.gc_rows.specs.Rows.{datum_at}
use Rattle.gc_rows.specs.declared.datum.Datum.{Datum}
use Rattle.gc_rows.specs.declared.datum.Datum.TheVariants as datum
use Rattle.gc_values.specs.Contexts.{Context}
use Rattle.gc_values.specs.Descriptions.{property_of, variable_described}
use Rattle.gc_values.specs.ExprValues.{value_of, node_value}

property_read : (ctx : Context) (x : Sym) (name : List ℕ) → value_of ctx [] (At 0 (tree.Property (At 0 (tree.Var x)) name)) ≡ property_of (variable_described ctx x) name
unfolding value_of node_value
property_read ctx x name = refl

read_by : (ctx : Context) (x : Sym) (property : Option (List ℕ)) (e : TreeOf Sym AnExpr) (d : Datum)
    → Some e ≡ option_map (λ name. At 0 (tree.Property (At 0 (tree.Var x)) name)) property
    → datum.Value (literals_of (value_of ctx [] e)) ≡ read_of ctx x property d
read_by ctx x None e d h = cc
read_by ctx x (Some name) e d h =
    let same : e ≡ At 0 (tree.Property (At 0 (tree.Var x)) name) = cc in
    ap (λ v. datum.Value (literals_of v)) (ap (value_of ctx []) same ∙ property_read ctx x name)

pub part_read : (ctx : Context) (t : Term) (e : TreeOf Sym AnExpr) (d : Datum)
    → Some e ≡ option_map (λ name. At 0 (tree.Property (At 0 (tree.Var t.var)) name)) t.property
    → Some d ≡ datum_at ctx.row t.var
    → Some (datum.Value (literals_of (value_of ctx [] e))) ≡ term_part ctx t
part_read ctx t e d h there = ap Some (read_by ctx t.var t.property e d h) ∙ ap (option_map (read_of ctx t.var t.property)) there
