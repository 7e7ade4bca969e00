-- The atoms of a block, part by part.
use Rattle.std.proofs.Common.{◌≡◌, ℕ, suc, ◌+◌, ◌<◌, Bool, List, [], ◌∷◌, ◌++◌, map, length, get_or, drop, None, Some, refl, sym, ap, ◌∙◌, add-one}
use Rattle.std.proofs.Math.Seq.{drop-cons}
use Rattle.std.proofs.lemmas.List.Folds.{find-append}
use Rattle.std.specs.List.{find, flat_map}
use Rattle.std.specs.Option.{option_or}
use Rattle.gc_alg.specs.Tables.{block_atoms}
use Rattle.gc_alg.specs.Trees.{atoms_of}
use Rattle.gc_alg.specs.Views.{block_tree, part_tree}
use Rattle.gc_alg.specs.declared.block.Block.{Block, out-Block}
use Rattle.gc_alg.specs.declared.block.Part.{Part}
use Rattle.gc_alg.proofs.Items.{parts_are}

of_parts : (parts : List Part) → flat_map (λ p. atoms_of (part_tree p)) parts ≡ flat_map atoms_of (map part_tree parts)
of_parts [] = refl
of_parts (p ∷ parts) = ap (λ atoms. atoms_of (part_tree p) ++ atoms) (of_parts parts)

-- the atoms of a block are those of its parts
pub block_atoms_are : (b : Block) → flat_map (λ p. atoms_of (part_tree p)) (out-Block b).parts.items ≡ block_atoms (block_tree b)
block_atoms_are b = of_parts (out-Block b).parts.items ∙ sym (ap (flat_map atoms_of) (parts_are b))

-- what is found among the items that a list of lists has, one after another
module _ {X Y : Type 0} (p : Y → Bool) (g : X → List Y) (xs : List X) (i : ℕ) (x : X) (within : i < length xs) (is : x ≡ get_or xs i x) where
  next_items : flat_map g (drop i xs) ≡ g x ++ flat_map g (drop (i + 1) xs)
  next_items =
      ap (flat_map g) (drop-cons xs i x within)
      ∙ ((λ j. g (sym is j) ++ flat_map g (drop (suc i) xs)) ∙ ap (λ n. g x ++ flat_map g (drop n xs)) (sym (add-one i)))

  found_next : find p (flat_map g (drop i xs)) ≡ option_or (find p (g x)) (find p (flat_map g (drop (i + 1) xs)))
  found_next = ap (find p) next_items ∙ find-append p (g x) (flat_map g (drop (i + 1) xs))

  pub found_here : (y : Y) → Some y ≡ find p (g x) → find p (flat_map g (drop i xs)) ≡ find p (flat_map g xs) → Some y ≡ find p (flat_map g xs)
  found_here y e so_far = ap (λ o. option_or o (find p (flat_map g (drop (i + 1) xs)))) e ∙ (sym found_next ∙ so_far)

  pub found_later : None ≡ find p (g x) → find p (flat_map g (drop i xs)) ≡ find p (flat_map g xs) → find p (flat_map g (drop (i + 1) xs)) ≡ find p (flat_map g xs)
  found_later e so_far = ap (λ o. option_or o (find p (flat_map g (drop (i + 1) xs)))) e ∙ (sym found_next ∙ so_far)
