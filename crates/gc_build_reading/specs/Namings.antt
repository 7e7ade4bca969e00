-- What the names and the tokens of a checked file stand for.
use Rattle.gc_base.specs.declared.place.Sym.{Sym}
use Rattle.gc_expr.specs.Views.{Names, name_of}
use Rattle.gc_lower.specs.Namings.{scope_of}
use Rattle.gc_lower.specs.Scopes.{Scope, variable_of}
use Rattle.gc_build_reading.specs.declared.naming.Naming.{Naming}

-- graphs are not named by ON in a CONSTRUCT, so that any number does for those without it
abbrev pub scope : Naming → Scope
scope n = scope_of n.checked.now 0

-- the name table
abbrev pub names_of : Naming → Names
names_of n = n.checked.now.file.names

-- the variable of a name, by its number in the file
abbrev pub variable_in : Naming → Sym → Sym
variable_in n sym = variable_of (scope n) (name_of (names_of n) sym)
