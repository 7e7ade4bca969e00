-- Which variables have to be bound before a condition is tested.
use Rattle.std.specs.Prelude.{Bool, List, ◌++◌, length, map, nat_lt, if◌then◌else◌}
use Rattle.std.specs.List.{filter, flat_map}
use Rattle.gc_base.specs.declared.place.Sym.{Sym}
use Rattle.gc_alg.specs.Instances.{variables_of}
use Rattle.gc_alg.specs.Mentions.{in_conjunct}
use Rattle.gc_alg.specs.Trees.{Tree, APart, AConjunct, ConjunctOf, items, atoms_of, conjuncts_of}

-- Take `(n)-[e]->(m) WHERE EXISTS (CONSTRUCT () MATCH (n)-[f]->(k))`: the condition needs n.

-- the variables of the atoms of a part
abbrev pub part_variables : Tree APart → List Sym
part_variables part = flat_map (λ a. variables_of a.what) (atoms_of part)

-- whether a condition asks an EXISTS query
abbrev pub asks_queries : Tree AConjunct → Bool
asks_queries (ConjunctOf condition queries) = nat_lt 0 (length (items queries))

-- what occurs in a condition: of an EXISTS query the variables of the part alone count, and else also those of the blocks around it
abbrev pub needed : (vars given : List Sym) → Tree AConjunct → List Sym
needed vars given c = filter (λ x. in_conjunct x c) (if asks_queries c then vars else vars ++ given)

abbrev pub needs_of : Tree APart → (given : List Sym) → List (List Sym)
needs_of part given = map (needed (part_variables part) given) (items (conjuncts_of part))
