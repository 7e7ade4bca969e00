-- A block of one pattern.
use Rattle.std.proofs.Common.{◌≡◌, List, [], ◌∷◌, ◌++◌, Vec, Global, map, sym, ap, ◌∙◌, subst, append-nil, rules}
use Rattle.std.specs.List.{AllByRecursion, flat_map}
use Rattle.gc_alg.specs.Trees.{BlockOf, PartOf, atoms_of, items, row}
use Rattle.gc_alg.specs.Views.{block_tree, conjunct_tree, part_tree}
use Rattle.gc_alg.specs.declared.atom.Atom.{Atom}
use Rattle.gc_alg.specs.declared.block.Block.{roll-Block, the_lemmas}
use Rattle.gc_alg.specs.declared.block.Conjunct.{Conjunct}
use Rattle.gc_alg.specs.declared.block.Part.{Part, roll-Part}
use Rattle.gc_alg.proofs.Items.{items_row}
use Rattle.gc_values.specs.declared.reads.ReadUse.{ReadUse}
use Rattle.gc_build.specs.AllPaths.{AreSearchable, IsSearchable}

block_is : (parts : Vec Part Global) (reads : List ReadUse) → block_tree (roll-Block (record { parts = parts; reads = reads })) ≡ BlockOf (row (map part_tree parts.items)) reads
unfolding block_tree part_tree
block_is parts reads = search (rules, the_lemmas)

part_is : (atoms : Vec Atom Global) (conjuncts : Vec Conjunct Global) → part_tree (roll-Part (record { atoms = atoms; conjuncts = conjuncts })) ≡ PartOf atoms.items (row (map conjunct_tree conjuncts.items))
unfolding part_tree conjunct_tree
part_is atoms conjuncts = search (rules, the_lemmas)

pub searchable_alone : (parts : Vec Part Global) (reads : List ReadUse) (atoms : Vec Atom Global) (conjuncts : Vec Conjunct Global) (a : Atom) (no_parts : List Part) (no_atoms : List Atom)
    → no_parts ≡ [] → no_atoms ≡ [] → parts.items ≡ no_parts ++ roll-Part (record { atoms = atoms; conjuncts = conjuncts }) ∷ [] → atoms.items ≡ no_atoms ++ a ∷ [] → IsSearchable a.what
    → AreSearchable (block_tree (roll-Block (record { parts = parts; reads = reads })))
searchable_alone parts reads atoms conjuncts a no_parts no_atoms np na p e h =
    let part : Part = roll-Part (record { atoms = atoms; conjuncts = conjuncts }) in
    let one : flat_map atoms_of (items (row (map part_tree parts.items))) ≡ a ∷ [] =
    ap (flat_map atoms_of) (items_row (map part_tree parts.items) ∙ ap (map part_tree) (p ∙ ap (λ ps. ps ++ part ∷ []) np))
    ∙ (append-nil (atoms_of (part_tree part)) ∙ (ap atoms_of (part_is atoms conjuncts) ∙ (e ∙ ap (λ xs. xs ++ a ∷ []) na))) in
    subst AreSearchable (sym (block_is parts reads)) (subst (λ (xs : List Atom). AllByRecursion (λ c. IsSearchable c.what) xs) (sym one) (h, tt))
