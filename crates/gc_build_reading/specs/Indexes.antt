-- What is found of a variable by its number.
use Rattle.std.specs.Prelude.{◌≡◌, ◌==◌, List, [], Option, Bool, nat_eq}
use Rattle.std.specs.List.{list_any}
use Rattle.std.specs.Option.{unwrap_or}
use Rattle.indexmap.specs.IndexMap.{get}
use Rattle.indexmap.specs.IndexSet.{contains}
use Rattle.gc_base.specs.declared.place.Sym.{Sym}
use Rattle.gc_build_recipe.specs.declared.variable.Term.{Term}
use Rattle.gc_build_reading.specs.Namings.{scope}
use Rattle.gc_lower.specs.Scopes.{is_found_in}
use Rattle.gc_build_reading.specs.Variables.{Makings}
use Rattle.gc_build_reading.specs.declared.index.Copies.{Copies}
use Rattle.gc_build_reading.specs.declared.index.Index.{Index}
use Rattle.gc_build_reading.specs.declared.index.Terms.{Terms}
use Rattle.gc_build_reading.specs.declared.index.Vars.{Vars}
use Rattle.gc_build_reading.specs.declared.place.Place.{Place}

-- whether a set has a variable
abbrev pub has : Vars → Sym → Bool
has vars x = contains nat_eq vars.numbers x.0

-- a set has exactly the variables of places
abbrev pub AreSeen : Vars → List Place → Type 0
AreSeen vars places = (x : Sym) → has vars x ≡ list_any (λ p. p.var.0 == x.0) places

-- the terms of a variable
abbrev pub terms_in : Terms → Sym → List Term
terms_in terms x = unwrap_or (get nat_eq terms.lists x.0) []

-- the variable that a variable copies
abbrev pub copied_in : Copies → Sym → Option Sym
copied_in copies x = get nat_eq copies.copied x.0

abbrev pub makings_in : Index → Makings
makings_in i = record {
  is_bound = has i.bound;
  is_found = is_found_in (scope i.naming.now) i.block.0;
  terms = terms_in i.terms;
  copied = copied_in i.copies;
}
