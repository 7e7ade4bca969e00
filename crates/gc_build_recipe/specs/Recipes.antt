-- What a CONSTRUCT asks to be made, as plain records, with expressions as trees over variables.
use Rattle.std.specs.Prelude.{ℕ, List, Option}
use Rattle.std.specs.Coded.{Coded, codes}
use Rattle.gc_base.specs.declared.place.Sym.{Sym}
use Rattle.gc_expr.specs.Trees.{TreeOf, AnExpr}
use Rattle.gc_build_recipe.specs.ExpressionCodes.{expression_code}
use Rattle.gc_build_recipe.specs.declared.change.LabelOf.{LabelOf}
use Rattle.gc_build_recipe.specs.declared.change.PropertyOf.{PropertyOf}
use Rattle.gc_build_recipe.specs.declared.variable.Variable.{Variable}

-- a property that a variable is given; its token is the property's word
pub record Assignment : Type 0 where
  pub var : Sym
  pub token : ℕ
  pub property : List ℕ
  pub value : TreeOf Sym AnExpr

-- a chain, which has one instance for each row: the variables of its nodes, edges and stored paths, the paths of which it takes the
-- nodes and edges alone, and its WHEN
pub record Chain : Type 0 where
  pub places : List Sym
  pub projected : List Sym
  pub condition : Option (TreeOf Sym AnExpr)

-- what a CONSTRUCT asks for: its variables; the labels and properties that they are given, and those that they lose after all else;
-- its chains, and the graphs that are items
pub record Recipe : Type 0 where
  pub variables : List Variable
  pub labels : List LabelOf
  pub assignments : List Assignment
  pub lost_labels : List LabelOf
  pub lost_properties : List PropertyOf
  pub chains : List Chain
  pub graphs : List ℕ

-- codes, by which proofs tell them apart
pub assignment_code : Coded Assignment
assignment_code = hlevel (expression_code, codes)

pub chain_code : Coded Chain
chain_code = hlevel (expression_code, codes)

pub recipe_code : Coded Recipe
recipe_code = hlevel (assignment_code, chain_code, codes)
