-- Documents that come one after another.
use Rattle.std.proofs.Common.{◌≡◌, ℕ, ◌+◌, ◌<◌, List, [], ◌∷◌, ◌++◌, length, map, get_or, take, refl, sym, ap, ◌∙◌, subst, append_assoc}
use Rattle.std.specs.List.{AllByRecursion, Contains, flat_map}
use Rattle.std.specs.Prelude.{Result, Ok, Err, OnOk}
use Rattle.std.proofs.lemmas.List.{append-nil, take_more}
use Rattle.std.proofs.lemmas.List.Concat.{flat_map-append}
use Rattle.gc_base.proofs.SetLaws.{AllByRecursion-append}
use Rattle.gc_rows.proofs.Members.{of_part, to_flat_map}
use Rattle.gc_alg.specs.Trees.{atoms_of}
use Rattle.gc_alg.specs.Views.{block_tree, part_tree}
use Rattle.gc_alg.specs.declared.block.Block.{Block, out-Block}
use Rattle.gc_alg.specs.declared.block.Part.{Part, out-Part}
use Rattle.gc_alg.proofs.Items.{atoms_are, parts_are}
use Rattle.gc_cert.specs.declared.document.SearchDoc.{SearchDoc}
use Rattle.gc_cert_searches.specs.Found.{AreAdded, AreFirstBy}
use Rattle.gc_cert_searches.specs.Patterns.{Pattern, pattern_by, patterns_of}
use Rattle.gc_cert_searches.specs.Searches.{Matched, AreSearchesInTurn, IsAccepted, AreLow}

pub none_added : (m : Matched) (old : List SearchDoc) → AreAdded m [] old old
none_added m old = record { added = []; whole = sym (append-nil old); told = λ h. refl; accepted = tt; low = tt }

in_turn : (m : Matched) (fs gs : List Pattern) (xs ys : List SearchDoc) → AreSearchesInTurn m fs xs → AreSearchesInTurn m gs ys → AreSearchesInTurn m (fs ++ gs) (xs ++ ys)
in_turn m [] gs xs ys h k = subst (λ zs. AreSearchesInTurn m gs (zs ++ ys)) (sym h) k
in_turn m (f ∷ fs) gs xs ys h k = record {
  first = h.first;
  later = h.later ++ ys;
  whole = ap (λ zs. zs ++ ys) h.whole ∙ append_assoc h.first h.later ys;
  ours = h.ours;
  others = in_turn m fs gs h.later ys h.others k;
}

front_of : (P : Pattern → Type 0) (fs gs : List Pattern) → AllByRecursion P (fs ++ gs) → AllByRecursion P fs
front_of P [] gs h = tt
front_of P (f ∷ fs) gs h = (h.0, front_of P fs gs h.1)

back_of : (P : Pattern → Type 0) (fs gs : List Pattern) → AllByRecursion P (fs ++ gs) → AllByRecursion P gs
back_of P [] gs h = h
back_of P (f ∷ fs) gs h = back_of P fs gs h.1

pub then_added : (m : Matched) (fs gs : List Pattern) (old middle now : List SearchDoc) → AreAdded m fs old middle → AreAdded m gs middle now → AreAdded m (fs ++ gs) old now
then_added m fs gs old middle now h k = record {
  added = h.added ++ k.added;
  whole = k.whole ∙ (ap (λ zs. zs ++ k.added) h.whole ∙ append_assoc old h.added k.added);
  told = λ all. in_turn m fs gs h.added k.added (h.told (front_of (AreFirstBy m) fs gs all)) (k.told (back_of (AreFirstBy m) fs gs all));
  accepted = AllByRecursion-append IsAccepted h.added k.added h.accepted k.accepted;
  low = AllByRecursion-append AreLow h.added k.added h.low k.low;
}

-- the patterns of a part
abbrev pub patterns_in : Part → List Pattern
patterns_in p = flat_map pattern_by (out-Part p).atoms.items

of_parts : (parts : List Part) → flat_map pattern_by (flat_map atoms_of (map part_tree parts)) ≡ flat_map patterns_in parts
of_parts [] = refl
of_parts (p ∷ parts) =
    flat_map-append pattern_by (atoms_of (part_tree p)) (flat_map atoms_of (map part_tree parts))
    ∙ (ap (λ atoms. flat_map pattern_by atoms ++ flat_map pattern_by (flat_map atoms_of (map part_tree parts))) (atoms_are p) ∙ ap (λ fs. patterns_in p ++ fs) (of_parts parts))

-- those of a block are those of its parts in turn
pub block_patterns : (b : Block) → patterns_of (block_tree b) ≡ flat_map patterns_in (out-Block b).parts.items
block_patterns b = ap (λ ps. flat_map pattern_by (flat_map atoms_of ps)) (parts_are b) ∙ of_parts (out-Block b).parts.items

-- what follows where there is no error
pub on_ok : {A E : Type 0} (r : Result A E) (P Q : Type 0) → (P → Q) → OnOk r P → OnOk r Q
on_ok (Ok x) P Q f h = f h
on_ok (Err e) P Q f h = h

-- the patterns of one more part, or atom, behind others
pub more_patterns : {X : Type 0} (f : X → List Pattern) (xs : List X) (i : ℕ) (x : X) → i < length xs → x ≡ get_or xs i x → flat_map f (take i xs) ++ f x ≡ flat_map f (take (i + 1) xs)
more_patterns f xs i x within is =
    let one : flat_map f (x ∷ []) ≡ f x = append-nil (f x) in
    sym (ap (λ fs. flat_map f (take i xs) ++ fs) one) ∙ (sym (flat_map-append f (take i xs) (x ∷ []))
    ∙ ap (flat_map f) (ap (λ y. take i xs ++ y ∷ []) is ∙ sym (take_more xs i x within)))

-- what holds of the patterns of all holds of those of each
pub patterns_each : {X : Type 0} (P : Pattern → Type 0) (f : X → List Pattern) (xs : List X) (x : X) → AllByRecursion P (flat_map f xs) → Contains xs x → AllByRecursion P (f x)
patterns_each P f xs x all among = of_part P (flat_map f xs) (f x) (λ q m. to_flat_map f xs x q among m) all
