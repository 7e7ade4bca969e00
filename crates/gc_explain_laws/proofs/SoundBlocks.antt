-- The blocks of a query file are sound.
use Rattle.std.proofs.Common.{ℕ, zero, suc, ◌+◌, List, [], ◌∷◌, ◌++◌, take, drop}
use Rattle.gc_base.specs.declared.place.Sym.{Sym}
use Rattle.gc_expr.specs.Trees.{TreeOf, AnExpr, renamed}
use Rattle.gc_values.specs.declared.reads.ReadUse.{ReadUse}
use Rattle.gc_ast.specs.Trees as tree
use Rattle.gc_ast.specs.Trees.{ABasic, AFormula, AnOptional, APattern, AQuery, ATerm, Named}
use Rattle.gc_alg.specs.declared.atom.Atom.{Atom}
use Rattle.gc_alg.specs.Trees.{Tree, AnExists, PartOf, ExistsOf, none, row}
use Rattle.gc_explain.specs.WholePlans.{AreSound, AreSoundQueries, HaveSoundQueries, IsSound, IsSoundPart, seen}
use Rattle.gc_lower.specs.Blocks.{block_atoms, block_of, optional_parts, part_of, queries_of, query_block, sight, term_block, view_block, where_conjuncts}
use Rattle.gc_lower.specs.Chains.{atoms_of, view_atoms}
use Rattle.gc_lower.specs.Conditions.{and_parts, dealt, exists_count}
use Rattle.gc_lower.specs.Reads.{reads_of}
use Rattle.gc_lower.specs.Scopes.{Scope, variable_of}
use Rattle.gc_explain_laws.specs.NodeBlocks.{HasNodes}
use Rattle.gc_explain_laws.proofs.Linked.{block_has_atom, block_linked, view_has_atom, view_linked}
use Rattle.gc_explain_laws.proofs.Occurring.{AreRead, AreReadIn, outer_kept, read_before, sight_read}

-- queries that are dealt out stay sound
first_sound : (around : List Sym) (n : ℕ) (queries : List (Tree AnExists)) → AreSoundQueries around (row queries)
    → AreSoundQueries around (row (take n queries))
unfolding IsSound
first_sound around zero queries h = tt
first_sound around (suc n) [] h = tt
first_sound around (suc n) (ExistsOf outer block text ∷ queries) h = (h.0, h.1, first_sound around n queries h.2)

rest_sound : (around : List Sym) (n : ℕ) (queries : List (Tree AnExists)) → AreSoundQueries around (row queries)
    → AreSoundQueries around (row (drop n queries))
unfolding IsSound
rest_sound around zero queries h = h
rest_sound around (suc n) [] h = tt
rest_sound around (suc n) (ExistsOf outer block text ∷ queries) h = rest_sound around n queries h.2

dealt_sound : (around : List Sym) (before : ℕ) (es : List (TreeOf Sym AnExpr)) (queries : List (Tree AnExists)) → AreSoundQueries around (row queries)
    → HaveSoundQueries around (row (dealt before es queries))
unfolding IsSound
dealt_sound around before [] queries h = tt
dealt_sound around before (e ∷ es) queries h =
    let n : ℕ = exists_count e in
    (first_sound around n queries h, dealt_sound around (before + n) es (drop n queries) (rest_sound around n queries h))

module _ (s : Scope) where
  -- what is read before a block is read before the next one
  behind : (reads before : List ReadUse) (block : tree.Tree tree.ABlock) → AreReadIn reads before → AreReadIn reads (before ++ reads_of (block_atoms s block))
  behind reads before block all = read_before reads before (reads_of (block_atoms s block)) all

  mutual
    unfolding block_of IsSound HasNodes

    block_sound : (reads : List ReadUse) (around : List Sym) → AreRead reads around → (basic : tree.Tree ABasic) → HasNodes basic
        → IsSound around (block_of s reads basic)
    block_sound reads around read (tree.Basic token items main optionals) h = (
      part_sound reads reads around read (λ x there. there) main h.0,
      optionals_sound reads (reads ++ reads_of (block_atoms s main)) around read (behind reads reads main (λ x there. there)) optionals h.1,
    )

    optionals_sound : (reads before : List ReadUse) (around : List Sym) → AreRead reads around → AreReadIn reads before
        → (optionals : tree.Tree (tree.RowOf AnOptional)) → HasNodes optionals → AreSound around (row (optional_parts s reads before optionals))
    optionals_sound reads before around read all tree.none h = tt
    optionals_sound reads before around read all (tree.more (tree.Optional token block) later) h = (
      part_sound reads before around read all block h.0,
      optionals_sound reads (before ++ reads_of (block_atoms s block)) around read (behind reads before block all) later h.1,
    )

    part_sound : (reads before : List ReadUse) (around : List Sym) → AreRead reads around → AreReadIn reads before
        → (block : tree.Tree tree.ABlock) → HasNodes block → IsSoundPart around (part_of s reads before block)
    part_sound reads before around read all (tree.Block patterns filter) h =
        let atoms : List Atom = atoms_of s patterns in
        let sees : List ReadUse = sight reads before atoms in (
          block_linked s patterns (row (where_conjuncts s sees filter)),
          block_has_atom s patterns h.0,
          conjuncts_sound sees (seen around (PartOf atoms none)) (sight_read reads before around atoms none read all) filter h.1,
        )

    conjuncts_sound : (reads : List ReadUse) (around : List Sym) → AreRead reads around → (filter : tree.Tree (tree.RowOf AFormula)) → HasNodes filter
        → HaveSoundQueries around (row (where_conjuncts s reads filter))
    conjuncts_sound reads around read tree.none h = tt
    conjuncts_sound reads around read (tree.more (tree.Formula condition queries) others) h =
        dealt_sound around 0 (and_parts (renamed (variable_of s) condition)) (queries_of s reads queries) (queries_sound reads around read queries h.0)

    queries_sound : (reads : List ReadUse) (around : List Sym) → AreRead reads around → (queries : tree.Tree (tree.RowOf AQuery)) → HasNodes queries
        → AreSoundQueries around (row (queries_of s reads queries))
    queries_sound reads around read tree.none h = tt
    queries_sound reads around read (tree.more query queries) h = (
      λ x there occurs. outer_kept reads (query_block s reads query) x (read x there) occurs,
      query_sound reads around read query h.0,
      queries_sound reads around read queries h.1,
    )

    query_sound : (reads : List ReadUse) (around : List Sym) → AreRead reads around → (query : tree.Tree AQuery) → HasNodes query
        → IsSound around (query_block s reads query)
    query_sound reads around read (tree.Query heads first later) h = term_sound reads around read first h.1

    term_sound : (reads : List ReadUse) (around : List Sym) → AreRead reads around → (term : tree.Tree ATerm) → HasNodes term
        → IsSound around (term_block s reads term)
    term_sound reads around read (tree.BasicTerm basic) h = block_sound reads around read basic h
    term_sound reads around read (tree.GraphTerm g) h = tt
    term_sound reads around read (tree.QueryTerm query) h = tt

  pub match_sound : (basic : tree.Tree ABasic) → HasNodes basic → IsSound [] (block_of s [] basic)
  match_sound basic h = block_sound [] [] (λ x there. there) basic h

  pub view_sound : (name : Named) (chains : tree.Tree (tree.RowOf (tree.RowOf APattern))) (filter cost : tree.Tree (tree.RowOf AFormula))
      → HasNodes (tree.PathHead name chains filter cost) → IsSound [] (view_block s chains filter)
  unfolding IsSound HasNodes
  view_sound name chains filter cost h =
      let atoms : List Atom = view_atoms s chains in
      let sees : List ReadUse = sight [] [] atoms in (
        (
          view_linked s chains (row (where_conjuncts s sees filter)),
          view_has_atom s chains h.0,
          conjuncts_sound sees (seen [] (PartOf atoms none)) (sight_read [] [] [] atoms none (λ x there. there) (λ x there. there)) filter h.1,
        ),
        tt,
      )
