-- What a catalog refuses. Want of memory is free.
use Rattle.std.specs.Prelude.{ℕ, List, IsSome, ⊤}
use Rattle.gc_catalog.specs.NamedGraphs.{NamedGraphs, number_of}
use Rattle.gc_catalog.specs.declared.catalog.AddRefusal.{AddRefusal}
use Rattle.gc_catalog.specs.declared.catalog.AddRefusal.TheVariants.{NameTaken, Memory}

-- a graph is refused where its name is there
abbrev pub IsAddRefusal : NamedGraphs → List ℕ → AddRefusal → Type 0
IsAddRefusal c name NameTaken = IsSome (number_of c.names name)
IsAddRefusal c name Memory = ⊤
