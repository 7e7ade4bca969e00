-- What contracts see of the checker's types: a name table, and what is held by the numbers in it.
use Rattle.std.specs.Prelude.{List}
use Rattle.gc_expr.specs.Views.{Names}
use Rattle.gc_sorts.specs.Constructs.{Made, Making}
use Rattle.gc_sorts.specs.Expressions.{Standing}
use Rattle.gc_sorts.specs.Links.{Link}
use Rattle.gc_sorts.specs.SortRules.{Sights}
use Rattle.gc_sorts.specs.Variables.{Use}

-- where an expression stands
pub record HeldPlace : Type 0 where
  pub names : Names
  pub at : Standing

-- what a CONSTRUCT names
pub record HeldMade : Type 0 where
  pub names : Names
  pub all : Made

-- the same beside what the MATCH binds
pub record HeldMaking : Type 0 where
  pub names : Names
  pub all : Making

-- what a MATCH binds, and its links
pub record HeldLinks : Type 0 where
  pub names : Names
  pub uses : List Use
  pub links : List Link

-- what is in scope
pub record HeldSights : Type 0 where
  pub names : Names
  pub at : Sights
