-- How a block reads the variables that it sees of the parts around it.
use Rattle.std.specs.Prelude.{ℕ, zero, suc, List, [], ◌∷◌, ◌++◌, Option, Some, None}
use Rattle.gc_ast.specs.Trees.{Tree, ABasic, ABlock}
use Rattle.gc_sorts.specs.Blocks.{Around, part_of}
use Rattle.gc_values.specs.declared.reads.ReadUse.{ReadUse}
use Rattle.gc_lower.specs.Blocks.{block_atoms}
use Rattle.gc_lower.specs.Reads.{reads_of, seen}
use Rattle.gc_lower.specs.Scopes.{Scope}

-- Take `MATCH (n) OPTIONAL (n)-[e]->(m) ON g WHERE EXISTS (..)`: the EXISTS query sees n, e and m, of which n is read in the first graph,
-- where its first atom stands, and the others in g.

-- what a part of a MATCH reads, and what the parts before it read
abbrev pub reads_if : Scope → Option (Tree ABlock) → List ReadUse
reads_if s None = []
reads_if s (Some block) = reads_of (block_atoms s block)

abbrev pub part_reads : Scope → Tree ABasic → (part : ℕ) → List ReadUse
part_reads s basic part = reads_if s (part_of basic part)

abbrev pub reads_before : Scope → Tree ABasic → (part : ℕ) → List ReadUse
reads_before s basic zero = []
reads_before s basic (suc n) = reads_before s basic n ++ part_reads s basic n

-- what the EXISTS queries of a part see, around whose MATCH variables are read so
abbrev pub part_sight : Scope → (around : List ReadUse) → Around → List ReadUse
part_sight s around a = seen around (part_reads s a.basic a.part) ((around ++ reads_before s a.basic a.part) ++ part_reads s a.basic a.part)

-- the same of parts within one another, from the outermost on
abbrev pub around_reads : Scope → (around : List ReadUse) → List Around → List ReadUse
around_reads s around [] = around
around_reads s around (part ∷ parts) = around_reads s (part_sight s around part) parts
