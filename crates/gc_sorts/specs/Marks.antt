-- Where places of variables, and those behind COST among them, ended.
use Rattle.std.specs.Prelude.{◌≡◌, List, length}
use Rattle.gc_sorts.specs.declared.checker.Mark.{Mark}
use Rattle.gc_sorts.specs.Variables.{Use, cost_names}

-- a mark tells how many places there are, and how many of them are costs
pub record IsMark (mark : Mark) (uses : List Use) : Type 0 where
  pub places : mark.places ≡ length uses
  pub costs : mark.costs ≡ length (cost_names uses)
