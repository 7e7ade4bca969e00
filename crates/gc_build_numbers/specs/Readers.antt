-- What the terms of a key are read by.
use Rattle.std.specs.Prelude.{◌≡◌, List, [], Option}
use Rattle.std.specs.Option.{option_map}
use Rattle.gc_base.specs.declared.place.Sym.{Sym}
use Rattle.gc_expr.specs.Trees as tree
use Rattle.gc_expr.specs.Trees.{TreeOf, AnExpr, At}
use Rattle.gc_expr.specs.Views.{numbered_expr}
use Rattle.gc_expr.specs.declared.expr.Expr.{Expr}
use Rattle.gc_build_recipe.specs.declared.variable.Grouping.{Grouping}
use Rattle.gc_build_recipe.specs.declared.variable.Grouping.TheVariants as by
use Rattle.gc_build_recipe.specs.declared.variable.Term.{Term}

-- the expression `x.k`, if a term is a property
abbrev pub property_tree : Term → Option (TreeOf Sym AnExpr)
property_tree t = option_map (λ name. At 0 (tree.Property (At 0 (tree.Var t.var)) name)) t.property

-- an expression reads a term where it is its property
abbrev pub Reads : Term → Option Expr → Type 0
Reads t expr = option_map numbered_expr expr ≡ property_tree t

-- the terms of a grouping
abbrev pub terms_of : Grouping → List Term
terms_of (by.Terms terms) = terms
terms_of (by.Link source target terms) = terms
terms_of grouping = []
