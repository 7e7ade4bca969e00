-- The patterns of found paths of a block whose expressions all have automata.
use Rattle.std.proofs.Common.{◌≡◌, ◌&&◌, ◌==◌, true, false, ℕ, List, [], ◌∷◌, ◌++◌, if◌then◌else◌}
use Rattle.std.specs.Prelude.{flat_map}
use Rattle.std.specs.List.{AllByRecursion, list_all}
use Rattle.gc_base.proofs.SetLaws.{AllByRecursion-append}
use Rattle.gc_alg.specs.Trees.{Tree, ABlock, APart, RowOf, BlockOf, PartOf, none, more, items, atoms_of}
use Rattle.gc_alg.specs.declared.atom.Atom.{Atom}
use Rattle.gc_alg.specs.declared.atom.AtomWhat.{AtomWhat}
use Rattle.gc_alg.specs.declared.atom.AtomWhat.TheVariants as atom
use Rattle.gc_cert_searches.specs.Patterns.{AreSearchable, IsSearchable, Pattern, pattern_by, pattern_of}
use Rattle.gc_query.specs.Built.{are_searched, is_searched}
use Rattle.gc_query.proofs.PlanRuns.{left, right}

abbrev Searched : List Pattern → Type 0
Searched patterns = AllByRecursion IsSearchable patterns

of_what : (graph : ℕ) (what : AtomWhat) → is_searched what ≡ true → Searched (pattern_of graph what)
of_what graph (atom.Node x labels) h = tt
of_what graph (atom.Edge x e y way labels) h = tt
of_what graph (atom.Property x kind name v) h = tt
of_what graph (atom.Stored x p y labels) h = tt
of_what graph (atom.Reach x y regex views) h = tt
of_what graph (atom.Found x p y k cost regex views) h =
    elim (k == 1) as (λ t. Searched (if t then record { path = p; expression = regex; graph = graph; views = views } ∷ [] else [])) [
      | true ↦ (h, tt)
      | false ↦ tt
    ]
of_what graph (atom.All x p y regex views) h = tt

of_atoms : (atoms : List Atom) → list_all (λ a. is_searched a.what) atoms ≡ true → Searched (flat_map pattern_by atoms)
of_atoms [] h = tt
of_atoms (a ∷ atoms) h =
    AllByRecursion-append IsSearchable (pattern_by a) (flat_map pattern_by atoms) (of_what a.graph a.what (left (is_searched a.what) (list_all (λ b. is_searched b.what) atoms) h))
    (of_atoms atoms (right (is_searched a.what) (list_all (λ b. is_searched b.what) atoms) h))

flat_both : (xs ys : List Atom) → Searched (flat_map pattern_by xs) → Searched (flat_map pattern_by ys) → Searched (flat_map pattern_by (xs ++ ys))
flat_both [] ys h k = k
flat_both (x ∷ xs) ys h k =
    let parts = split (pattern_by x) (flat_map pattern_by xs) h in
    AllByRecursion-append IsSearchable (pattern_by x) (flat_map pattern_by (xs ++ ys)) parts.0 (flat_both xs ys parts.1 k)
  where
    split : (front bs : List Pattern) → Searched (front ++ bs) → Searched front × Searched bs
    split [] bs h = (tt, h)
    split (a ∷ front) bs h = let rest = split front bs h.1 in ((h.0, rest.0), rest.1)

of_parts : (parts : Tree (RowOf APart)) → are_searched parts ≡ true → Searched (flat_map pattern_by (flat_map atoms_of (items parts)))
unfolding are_searched items
of_parts none h = tt
of_parts (more (PartOf atoms cs) later) h =
    flat_both atoms (flat_map atoms_of (items later))
    (of_atoms atoms (left (list_all (λ a. is_searched a.what) atoms) (are_searched cs) (left (list_all (λ a. is_searched a.what) atoms && are_searched cs) (are_searched later) h)))
    (of_parts later (right (list_all (λ a. is_searched a.what) atoms && are_searched cs) (are_searched later) h))

pub patterns_searched : (block : Tree ABlock) → are_searched block ≡ true → AreSearchable block
unfolding are_searched
patterns_searched (BlockOf parts reads) h = of_parts parts h
