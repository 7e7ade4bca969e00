-- The ALL patterns of a block whose expressions all have automata.
use Rattle.std.proofs.Common.{◌≡◌, ◌&&◌, true, List, [], ◌∷◌, ◌++◌}
use Rattle.std.specs.Prelude.{flat_map}
use Rattle.std.specs.List.{AllByRecursion, list_all}
use Rattle.gc_alg.specs.Trees.{Tree, ABlock, APart, RowOf, BlockOf, PartOf, none, more, items, atoms_of}
use Rattle.gc_alg.specs.declared.atom.Atom.{Atom}
use Rattle.gc_alg.specs.declared.atom.AtomWhat.{AtomWhat}
use Rattle.gc_alg.specs.declared.atom.AtomWhat.TheVariants as atom
use Rattle.gc_build.specs.AllPaths.{AreSearchable, IsSearchable}
use Rattle.gc_query.specs.Built.{are_searched, is_searched}
use Rattle.gc_query.proofs.PlanRuns.{left, right}

of_what : (what : AtomWhat) → is_searched what ≡ true → IsSearchable what
of_what (atom.Node x labels) h = tt
of_what (atom.Edge x e y way labels) h = tt
of_what (atom.Property x kind name v) h = tt
of_what (atom.Stored x p y labels) h = tt
of_what (atom.Reach x y regex views) h = tt
of_what (atom.Found x p y k cost regex views) h = tt
of_what (atom.All x p y regex views) h = h

abbrev Searched : List Atom → Type 0
Searched atoms = AllByRecursion (λ a. IsSearchable a.what) atoms

of_atoms : (atoms : List Atom) → list_all (λ a. is_searched a.what) atoms ≡ true → Searched atoms
of_atoms [] h = tt
of_atoms (a ∷ atoms) h =
    (of_what a.what (left (is_searched a.what) (list_all (λ b. is_searched b.what) atoms) h), of_atoms atoms (right (is_searched a.what) (list_all (λ b. is_searched b.what) atoms) h))

both : (xs ys : List Atom) → Searched xs → Searched ys → Searched (xs ++ ys)
both [] ys h k = k
both (x ∷ xs) ys h k = (h.0, both xs ys h.1 k)

of_parts : (parts : Tree (RowOf APart)) → are_searched parts ≡ true → Searched (flat_map atoms_of (items parts))
unfolding are_searched items
of_parts none h = tt
of_parts (more (PartOf atoms cs) later) h =
    both atoms (flat_map atoms_of (items later))
    (of_atoms atoms (left (list_all (λ a. is_searched a.what) atoms) (are_searched cs) (left (list_all (λ a. is_searched a.what) atoms && are_searched cs) (are_searched later) h)))
    (of_parts later (right (list_all (λ a. is_searched a.what) atoms && are_searched cs) (are_searched later) h))

pub all_searched : (block : Tree ABlock) → are_searched block ≡ true → AreSearchable block
unfolding are_searched
all_searched (BlockOf parts reads) h = of_parts parts h
