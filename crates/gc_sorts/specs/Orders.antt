-- Names in the order in which they came, as bytes, with the table that numbers them.
use Rattle.std.specs.Prelude.{ℕ, List, Bool, Option, min, nat_eq}
use Rattle.std.specs.List.{position}
use Rattle.gc_base.specs.declared.place.Sym.{Sym}
use Rattle.gc_expr.specs.Views.{Names}
use Rattle.gc_ast.specs.Names.{same_name}

-- a name table, and names in order
pub record Order : Type 0 where
  pub names : Names
  pub order : List (List ℕ)

-- where a name stands first
abbrev pub first_place : List (List ℕ) → List ℕ → Option ℕ
first_place order name = position (same_name name) order

-- the slot of a number: itself where the table of so many names has it, else the one behind them
abbrev pub slot : ℕ → Sym → ℕ
slot count sym = min sym.0 count

-- whether a number has a slot
abbrev pub has_slot : ℕ → ℕ → Sym → Bool
has_slot count k sym = nat_eq k (slot count sym)
