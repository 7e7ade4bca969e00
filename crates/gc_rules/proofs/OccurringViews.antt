-- What occurs in blocks, parts, conjuncts and EXISTS queries in memory.
use Rattle.std.proofs.Common.{◌≡◌, List, [], ◌∷◌, ◌++◌, append_assoc, map, refl, sym, ap, ◌∙◌, Result, Ok, Err, OnOk}
use Rattle.gc_base.specs.declared.place.Sym.{Sym}
use Rattle.gc_alg.specs.declared.atom.Atom.{Atom}
use Rattle.std.specs.List.{flat_map}
use Rattle.gc_expr.specs.Views.{numbered_expr}
use Rattle.gc_alg.specs.Instances.{variables_of}
use Rattle.gc_alg.specs.Trees.{Kind, Tree, row}
use Rattle.gc_alg.specs.Views.{block_tree, conjunct_tree, exists_tree, part_tree}
use Rattle.gc_alg.specs.declared.block.Block.{Block, out-Block}
use Rattle.gc_alg.specs.declared.block.Conjunct.{Conjunct, out-Conjunct}
use Rattle.gc_alg.specs.declared.block.ExistsBlock.{ExistsBlock, out-ExistsBlock}
use Rattle.gc_alg.specs.declared.block.Part.{Part, out-Part}
use Rattle.gc_alg.proofs.Layers.{block_is, conjunct_is, exists_is, part_is}
use Rattle.gc_rules.specs.ExpressionVariables.{in_expression}
use Rattle.gc_rules.specs.Occurrences.{occurring}

-- what occurs in a row of trees
row_occurs : {X : Type 0} {k : Kind} (tree_of : X → Tree k) (xs : List X) → occurring (row (map tree_of xs)) ≡ flat_map (λ x. occurring (tree_of x)) xs
unfolding occurring
row_occurs tree_of [] = refl
row_occurs tree_of (x ∷ xs) = ap (λ vars. occurring (tree_of x) ++ vars) (row_occurs tree_of xs)

pub block_occurs : (b : Block) → occurring (block_tree b) ≡ flat_map (λ p. occurring (part_tree p)) (out-Block b).parts.items
unfolding occurring
block_occurs b = ap occurring (block_is b) ∙ row_occurs part_tree (out-Block b).parts.items

pub part_occurs : (p : Part) → occurring (part_tree p) ≡ flat_map (λ a. variables_of a.what) (out-Part p).atoms.items ++ flat_map (λ c. occurring (conjunct_tree c)) (out-Part p).conjuncts.items
unfolding occurring
part_occurs p =
    ap occurring (part_is p) ∙ ap (λ vars. flat_map (λ a. variables_of a.what) (out-Part p).atoms.items ++ vars) (row_occurs conjunct_tree (out-Part p).conjuncts.items)

pub conjunct_occurs : (c : Conjunct) → occurring (conjunct_tree c)
    ≡ in_expression (numbered_expr (out-Conjunct c).condition) ++ flat_map (λ q. occurring (exists_tree q)) (out-Conjunct c).subqueries.items
unfolding occurring
conjunct_occurs c =
    ap occurring (conjunct_is c)
    ∙ ap (λ vars. in_expression (numbered_expr (out-Conjunct c).condition) ++ vars) (row_occurs exists_tree (out-Conjunct c).subqueries.items)

pub query_occurs : (e : ExistsBlock) → occurring (exists_tree e) ≡ (out-ExistsBlock e).outer ++ occurring (block_tree (out-ExistsBlock e).block)
unfolding occurring
query_occurs e = ap occurring (exists_is e)

pub on_ok : {A E P Q : Type 0} → (P → Q) → (r : Result A E) → OnOk r P → OnOk r Q
on_ok f (Ok x) h = f h
on_ok f (Err e) h = tt

-- what is added for one, in two steps
pub conjunct_next : (c : Conjunct) (old mid new : List Sym) (queries : List ExistsBlock) → mid ≡ old ++ in_expression (numbered_expr (out-Conjunct c).condition) → queries ≡ (out-Conjunct c).subqueries.items
    → new ≡ mid ++ flat_map (λ q. occurring (exists_tree q)) queries → new ≡ old ++ occurring (conjunct_tree c)
conjunct_next c old mid new queries m q n =
    n ∙ ((λ j. m j ++ flat_map (λ e. occurring (exists_tree e)) (q j)) ∙ (append_assoc old _ _ ∙ ap (λ vars. old ++ vars) (sym (conjunct_occurs c))))

pub part_next : (p : Part) (old mid new : List Sym) (atoms : List Atom) (conjuncts : List Conjunct) → atoms ≡ (out-Part p).atoms.items → mid ≡ old ++ flat_map (λ a. variables_of a.what) atoms
    → conjuncts ≡ (out-Part p).conjuncts.items → new ≡ mid ++ flat_map (λ c. occurring (conjunct_tree c)) conjuncts → new ≡ old ++ occurring (part_tree p)
part_next p old mid new atoms conjuncts a m c n =
    n ∙ ((λ j. (m ∙ (λ i. old ++ flat_map (λ x. variables_of x.what) (a i))) j ++ flat_map (λ d. occurring (conjunct_tree d)) (c j))
    ∙ (append_assoc old _ _ ∙ ap (λ vars. old ++ vars) (sym (part_occurs p))))

pub query_next : (e : ExistsBlock) (old mid new outer : List Sym) → outer ≡ (out-ExistsBlock e).outer → mid ≡ old ++ outer
    → new ≡ mid ++ occurring (block_tree (out-ExistsBlock e).block) → new ≡ old ++ occurring (exists_tree e)
query_next e old mid new outer o m n =
    n ∙ ((λ j. (m ∙ (λ i. old ++ o i)) j ++ occurring (block_tree (out-ExistsBlock e).block)) ∙ (append_assoc old _ _ ∙ ap (λ vars. old ++ vars) (sym (query_occurs e))))
