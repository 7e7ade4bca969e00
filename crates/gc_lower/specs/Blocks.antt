-- What the blocks of a query file ask for, as plain trees of the algebra.
use Rattle.std.specs.Prelude.{Bool, false, ◌||◌, List, [], ◌∷◌, ◌++◌, map, filter}
use Rattle.std.specs.List.{list_any}
use Rattle.gc_base.specs.declared.place.Sym.{Sym}
use Rattle.gc_rows.specs.Rows.{each_once, lists}
use Rattle.gc_values.specs.declared.reads.ReadUse.{ReadUse}
use Rattle.gc_ast.specs.Trees as tree
use Rattle.gc_ast.specs.Trees.{AQuery, ATerm, AFormula, ABasic, AnOptional, APattern}
use Rattle.gc_alg.specs.Instances.{variables_of}
use Rattle.gc_alg.specs.Matches.{text_tree}
use Rattle.gc_alg.specs.Mentions.{in_conjunct}
use Rattle.gc_alg.specs.Trees.{Tree, ABlock, APart, AConjunct, AnExists, RowOf, BlockOf, PartOf, ExistsOf, none, more, row}
use Rattle.gc_alg.specs.declared.atom.Atom.{Atom}
use Rattle.gc_lower.specs.Chains.{atoms_of, view_atoms}
use Rattle.gc_lower.specs.Conditions.{and_parts, dealt}
use Rattle.gc_lower.specs.Reads.{reads_of, seen}
use Rattle.gc_lower.specs.Scopes.{Scope, variable_of}
use Rattle.gc_expr.specs.Trees.{renamed}

-- whether a variable occurs in a block: in an atom or in a conjunct
abbrev pub in_conjuncts : Sym → Tree (RowOf AConjunct) → Bool
in_conjuncts x none = false
in_conjuncts x (more conjunct later) = in_conjunct x conjunct || in_conjuncts x later

abbrev pub in_atom : Sym → Atom → Bool
in_atom x a = lists (variables_of a.what) x

abbrev pub in_part : Sym → Tree APart → Bool
in_part x (PartOf atoms conjuncts) = list_any (in_atom x) atoms || in_conjuncts x conjuncts

abbrev pub in_parts : Sym → Tree (RowOf APart) → Bool
in_parts x none = false
in_parts x (more part later) = in_part x part || in_parts x later

abbrev pub occurs_in : Tree ABlock → Sym → Bool
occurs_in (BlockOf parts reads) x = in_parts x parts

-- of the variables around a block those that occur in it, each once
abbrev pub outer_of : (around : List ReadUse) → Tree ABlock → List Sym
outer_of around block = filter (occurs_in block) (each_once (map (λ r. r.var) around))

-- the EXISTS query of a block, with the tree of the block in the order of the text
abbrev pub exists_of : (around : List ReadUse) → Tree ABlock → Tree AnExists
exists_of around block = ExistsOf (outer_of around block) block (text_tree block)

-- the atoms of a block, and how the variables of OPTIONAL blocks are read
abbrev pub block_atoms : Scope → tree.Tree tree.ABlock → List Atom
block_atoms s (tree.Block patterns filter) = atoms_of s patterns

abbrev pub optional_reads : Scope → tree.Tree (tree.RowOf AnOptional) → List ReadUse
optional_reads s tree.none = []
optional_reads s (tree.more (tree.Optional token block) later) = reads_of (block_atoms s block) ++ optional_reads s later

-- what the EXISTS queries of a part of these atoms see, before which variables are read so
abbrev pub sight : (around before : List ReadUse) → List Atom → List ReadUse
sight around before atoms = seen around (reads_of atoms) (before ++ reads_of atoms)

unfoldable mutual
  -- the block of a MATCH with its OPTIONAL blocks, around which other blocks read variables: a part for each, in the order of the text
  pub block_of : Scope → (around : List ReadUse) → tree.Tree ABasic → Tree ABlock
  block_of s around (tree.Basic token items main optionals) =
      BlockOf
      (row (part_of s around around main ∷ optional_parts s around (around ++ reads_of (block_atoms s main)) optionals))
      ((around ++ reads_of (block_atoms s main)) ++ optional_reads s optionals)

  pub optional_parts : Scope → (around before : List ReadUse) → tree.Tree (tree.RowOf AnOptional) → List (Tree APart)
  optional_parts s around before tree.none = []
  optional_parts s around before (tree.more (tree.Optional token block) later) =
      part_of s around before block ∷ optional_parts s around (before ++ reads_of (block_atoms s block)) later

  -- a part, before which variables are read so: its patterns as atoms, and the conjuncts of its WHERE, if it has one
  pub part_of : Scope → (around before : List ReadUse) → tree.Tree tree.ABlock → Tree APart
  part_of s around before (tree.Block patterns filter) =
      PartOf (atoms_of s patterns) (row (where_conjuncts s (sight around before (atoms_of s patterns)) filter))

  pub where_conjuncts : Scope → (around : List ReadUse) → tree.Tree (tree.RowOf AFormula) → List (Tree AConjunct)
  where_conjuncts s around tree.none = []
  where_conjuncts s around (tree.more (tree.Formula condition queries) others) = dealt 0 (and_parts (renamed (variable_of s) condition)) (queries_of s around queries)

  -- the EXISTS queries of a condition, each by the block of its MATCH
  pub queries_of : Scope → (around : List ReadUse) → tree.Tree (tree.RowOf AQuery) → List (Tree AnExists)
  queries_of s around tree.none = []
  queries_of s around (tree.more query queries) = exists_of around (query_block s around query) ∷ queries_of s around queries

  pub query_block : Scope → (around : List ReadUse) → tree.Tree AQuery → Tree ABlock
  query_block s around (tree.Query heads first later) = term_block s around first

  -- a query without CONSTRUCT, which EXISTS does not take, would have the block without parts
  pub term_block : Scope → (around : List ReadUse) → tree.Tree ATerm → Tree ABlock
  term_block s around (tree.BasicTerm basic) = block_of s around basic
  term_block s around (tree.GraphTerm g) = BlockOf none around
  term_block s around (tree.QueryTerm query) = BlockOf none around

-- the block of a view: one part, of its chains and its WHERE
abbrev pub view_block : Scope → tree.Tree (tree.RowOf (tree.RowOf APattern)) → tree.Tree (tree.RowOf AFormula) → Tree ABlock
view_block s chains filter =
    BlockOf (row (PartOf (view_atoms s chains) (row (where_conjuncts s (sight [] [] (view_atoms s chains)) filter)) ∷ [])) (reads_of (view_atoms s chains))
