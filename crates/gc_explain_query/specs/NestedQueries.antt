-- The EXISTS queries of a block in the order of the text: behind each stand those in its own block.
use Rattle.std.specs.Prelude.{List, [], ◌∷◌, ◌++◌}
use Rattle.gc_base.specs.declared.place.Sym.{Sym}
use Rattle.gc_alg.specs.Trees.{Kind, Tree, ABlock, BlockOf, PartOf, ConjunctOf, ExistsOf, none, more}
use Rattle.gc_explain.specs.WholePlans.{seen}

-- Take `(n) WHERE EXISTS (.. MATCH (m) WHERE EXISTS (.. MATCH (k)))`: the first has n around it, the second m and n.

-- an EXISTS query where it stands: the variables around it, and its block
pub record NestedQuery : Type 0 where
  pub around : List Sym
  pub block : Tree ABlock

unfoldable pub nested : (around : List Sym) → {k : Kind} → Tree k → List NestedQuery
nested around (BlockOf parts reads) = nested around parts
nested around (PartOf atoms conjuncts) = nested (seen around (PartOf atoms conjuncts)) conjuncts
nested around (ConjunctOf condition queries) = nested around queries
nested around (ExistsOf outer block text) = record { around = around; block = block } ∷ nested around block
nested around none = []
nested around (more t ts) = nested around t ++ nested around ts
