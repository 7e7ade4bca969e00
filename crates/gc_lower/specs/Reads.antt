-- The graphs in which variables are read.
use Rattle.std.specs.Prelude.{ℕ, Bool, ◌||◌, ◌==◌, List, map, filter}
use Rattle.std.specs.List.{flat_map, list_any}
use Rattle.gc_base.specs.declared.place.Sym.{Sym}
use Rattle.gc_values.specs.declared.reads.ReadUse.{ReadUse}
use Rattle.gc_alg.specs.Instances.{variables_of}
use Rattle.gc_alg.specs.declared.atom.Atom.{Atom}

-- a variable is read in the graph of the first atom that has it; of several entries the first counts
abbrev pub read_in : (graph : ℕ) → Sym → ReadUse
read_in graph x = record { var = x; own = graph; walk = graph }

abbrev pub reads_of_atom : Atom → List ReadUse
reads_of_atom a = map (read_in a.graph) (variables_of a.what)

abbrev pub reads_of : List Atom → List ReadUse
reads_of atoms = flat_map reads_of_atom atoms

-- whether a variable is among those that are read
abbrev pub has_read : List ReadUse → Sym → Bool
has_read reads x = list_any (λ r. r.var.0 == x.0) reads

-- what the EXISTS queries of a part see: the variables around its block and those of its own patterns, each read where the first
-- of the block's entries says
abbrev pub seen : (around own reads : List ReadUse) → List ReadUse
seen around own reads = filter (λ r. has_read around r.var || has_read own r.var) reads
