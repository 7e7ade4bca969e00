-- The texts of the parts of a list.
use Rattle.std.proofs.Common.{◌≡◌, ℕ, zero, suc, ◌+◌, List, [], ◌∷◌, ◌++◌, map, refl, sym, ap, add-one, ◌∙◌, arith, ◌<◌, length, drop, get_or, append_assoc, codes, Vec, Box, Global}
use Rattle.std.specs.List.{flat_map, join_with_byte}
use Rattle.std.proofs.lemmas.List.{append-nil}
use Rattle.std.proofs.Math.Seq.{drop-cons}
use Rattle.gc_regx.specs.Trees.{RegexTree, ARegex, row}
use Rattle.gc_regx.specs.Views.{regex_tree}
use Rattle.gc_regx.proofs.PartTrees.{cat_tree, alt_tree, star_tree}
use Rattle.gc_regx.specs.declared.regex.Regex.{Regex, Cat, Alt, Star}
use Rattle.gc_print.specs.declared.looseness.Looseness.{Looseness}
use Rattle.gc_print.specs.declared.looseness.Looseness.TheVariants as loose
use Rattle.gc_print.specs.RegexTexts.{byte_before, enclosed, part_of, text_of, regex_text}

-- the texts of a row are those of its expressions
pub row_texts : {X : Type 0} (most : Looseness) (tree : X → RegexTree ARegex) (xs : List X)
    → map (enclosed most) (text_of (row (map tree xs))) ≡ map (λ x. enclosed most (part_of (tree x))) xs
unfolding text_of
row_texts most tree [] = refl
row_texts most tree (x ∷ xs) = ap (λ texts. enclosed most (part_of (tree x)) ∷ texts) (row_texts most tree xs)

-- lists from one of this number on, joined by a byte: the first of all has none before it
abbrev pub joined_from : ℕ → ℕ → List (List ℕ) → List ℕ
joined_from zero c texts = join_with_byte c texts
joined_from (suc i) c texts = flat_map (λ text. c ∷ text) texts

joined_first : (c : ℕ) (text : List ℕ) (texts : List (List ℕ)) → join_with_byte c (text ∷ texts) ≡ text ++ flat_map (λ other. c ∷ other) texts
joined_first c text [] = rw append-nil refl
joined_first c text (other ∷ texts) = ap (λ rest. text ++ (c ∷ rest)) (joined_first c other texts)

-- one of them, and those behind it
pub joined_next : (i c : ℕ) (text : List ℕ) (texts : List (List ℕ)) → joined_from i c (text ∷ texts) ≡ byte_before i c ++ (text ++ joined_from (i + 1) c texts)
joined_next zero c text texts = joined_first c text texts
joined_next (suc i) c text texts = rw add-one refl

-- what stands in a list of parts
abbrev pub part_text : Looseness → Regex → List ℕ
part_text most part = enclosed most (part_of (regex_tree part))

pub cat_text : (parts : Vec Regex Global) → join_with_byte 32 (map (part_text loose.Star) parts.items) ≡ regex_text (regex_tree (Cat parts))
unfolding text_of
cat_text parts = ap (join_with_byte 32) (sym (row_texts loose.Star regex_tree parts.items)) ∙ ap regex_text (sym (cat_tree parts))

pub alt_text : (parts : Vec Regex Global) → join_with_byte 124 (map (part_text loose.Juxtaposition) parts.items) ≡ regex_text (regex_tree (Alt parts))
unfolding text_of
alt_text parts = ap (join_with_byte 124) (sym (row_texts loose.Juxtaposition regex_tree parts.items)) ∙ ap regex_text (sym (alt_tree parts))

pub star_text : (part : Box Regex Global) → part_text loose.Unit part.value ++ codes "*" ≡ regex_text (regex_tree (Star part))
unfolding text_of
star_text part = ap regex_text (sym (star_tree part))

-- what is left, one part on
rest_next : (parts : List Regex) (i : ℕ) (most : Looseness) (c : ℕ) (part : Regex) → i < length parts → part ≡ get_or parts i part
    → joined_from i c (map (part_text most) (drop i parts))
    ≡ byte_before i c ++ (part_text most part ++ joined_from (i + 1) c (map (part_text most) (drop (i + 1) parts)))
rest_next parts i most c part within read =
    let next : suc i ≡ i + 1 = omega arith in
    let split : drop i parts ≡ part ∷ drop (i + 1) parts = drop-cons parts i part within ∙ (λ j. sym read j ∷ drop (next j) parts) in
    ap (λ rest. joined_from i c (map (part_text most) rest)) split ∙ joined_next i c (part_text most part) (map (part_text most) (drop (i + 1) parts))

-- a turn of the loop over parts writes the byte and the part
pub parts_turn : (parts : List Regex) (i : ℕ) (most : Looseness) (c : ℕ) (part : Regex) (old between new : List ℕ) → i < length parts → part ≡ get_or parts i part
    → between ≡ old ++ byte_before i c → new ≡ between ++ part_text most part
    → new ++ joined_from (i + 1) c (map (part_text most) (drop (i + 1) parts)) ≡ old ++ joined_from i c (map (part_text most) (drop i parts))
parts_turn parts i most c part old between new within read first second =
    rw (second, first, append_assoc, append_assoc) (ap (λ rest. old ++ rest) (sym (rest_next parts i most c part within read)))
