-- Texts written piece by piece.
use Rattle.std.proofs.Common.{◌≡◌, ℕ, zero, suc, ◌+◌, ◌<◌, List, [], ◌∷◌, ◌++◌, length, get_or, refl, sym, ap, ◌∙◌, arith, codes, append_assoc, map, drop, take, add-one}
use Rattle.std.specs.List.{flat_map}
use Rattle.std.proofs.Common.{Result, Ok, Err}
use Rattle.std.specs.Prelude.{OnOk}
use Rattle.std.proofs.lemmas.List.{append-nil}
use Rattle.std.proofs.Math.Seq.{drop-cons}
use Rattle.gc_lex.specs.declared.token.Mark.TheVariants as mark
use Rattle.gc_print_query.specs.ExpressionPieces.{word, mark_piece}
use Rattle.gc_print_query.specs.QueryPieces.{braced, listed, grouped}
use Rattle.gc_print_query.specs.Pieces.{Piece, Blank, last_behind, with_piece, written, joined, before_list}

pub written_append : (text : List ℕ) (xs ys : List Piece) → written text (xs ++ ys) ≡ written (written text xs) ys
written_append text [] ys = refl
written_append text (x ∷ xs) ys = written_append (with_piece text x) xs ys

last_get_from : (c : ℕ) (xs : List ℕ) → last_behind c xs ≡ get_or (c ∷ xs) (length xs) 0
last_get_from c [] = refl
last_get_from c (x ∷ xs) = last_get_from x xs

pub last_get : (xs : List ℕ) (i : ℕ) → i + 1 ≡ length xs → last_behind 0 xs ≡ get_or xs i 0
last_get [] i is = absurd (omega (arith, is))
last_get (x ∷ xs) i is = last_get_from x xs ∙ ap (λ k. get_or (x ∷ xs) k 0) (let e : length xs ≡ i = omega (arith, is) in e)

-- ---- loops that write a list after another

-- the lists from one of this number on, with something between all of them
abbrev pub joined_from : ℕ → List Piece → List (List Piece) → List Piece
joined_from zero between lists = joined between lists
joined_from (suc i) between lists = flat_map (λ list. between ++ list) lists

joined_first : (between first : List Piece) (lists : List (List Piece)) → joined between (first ∷ lists) ≡ first ++ flat_map (λ list. between ++ list) lists
joined_first between first [] = sym (append-nil first)
joined_first between first (other ∷ lists) =
    ap (λ rest. first ++ (between ++ rest)) (joined_first between other lists)
    ∙ ap (λ rest. first ++ rest) (sym (append_assoc between other (flat_map (λ list. between ++ list) lists)))

joined_next : (i : ℕ) (between list : List Piece) (lists : List (List Piece)) → joined_from i between (list ∷ lists) ≡ before_list i between ++ (list ++ joined_from (i + 1) between lists)
joined_next zero between list lists = joined_first between list lists
joined_next (suc i) between list lists = rw add-one (append_assoc between list (flat_map (λ other. between ++ other) lists))

-- the item at a place, and those behind it
dropped : {X : Type 0} (xs : List X) (i : ℕ) (x : X) → i < length xs → x ≡ get_or xs i x → drop i xs ≡ x ∷ drop (i + 1) xs
dropped xs i x within read = let next : suc i ≡ i + 1 = omega arith in drop-cons xs i x within ∙ (λ j. sym read j ∷ drop (next j) xs)

-- a turn writes what stands between and a list
pub joined_turn : {X : Type 0} (f : X → List Piece) (between : List Piece) (xs : List X) (i : ℕ) (x : X) (old middle new : List ℕ) → i < length xs → x ≡ get_or xs i x
    → middle ≡ written old (before_list i between) → new ≡ written middle (f x)
    → written new (joined_from (i + 1) between (map f (drop (i + 1) xs))) ≡ written old (joined_from i between (map f (drop i xs)))
joined_turn f between xs i x old middle new within read first second =
    ap (λ t. written t (joined_from (i + 1) between (map f (drop (i + 1) xs)))) (second ∙ ap (λ t. written t (f x)) first)
    ∙ sym (written_append (written old (before_list i between)) (f x) (joined_from (i + 1) between (map f (drop (i + 1) xs))))
    ∙ sym (written_append old (before_list i between) (f x ++ joined_from (i + 1) between (map f (drop (i + 1) xs))))
    ∙ ap (written old) (sym (joined_next i between (f x) (map f (drop (i + 1) xs))) ∙ ap (λ rest. joined_from i between (map f rest)) (sym (dropped xs i x within read)))

-- a turn writes a list
pub flat_turn : {X : Type 0} (f : X → List Piece) (xs : List X) (i : ℕ) (x : X) (old new : List ℕ) → i < length xs → x ≡ get_or xs i x → new ≡ written old (f x)
    → written new (flat_map f (drop (i + 1) xs)) ≡ written old (flat_map f (drop i xs))
flat_turn f xs i x old new within read first =
    ap (λ t. written t (flat_map f (drop (i + 1) xs))) first
    ∙ sym (written_append old (f x) (flat_map f (drop (i + 1) xs)))
    ∙ ap (λ rest. written old (flat_map f rest)) (sym (dropped xs i x within read))

pub row_joined : {X Y : Type 0} (f : Y → List Piece) (g : X → Y) (xs : List X) → map f (map g xs) ≡ map (λ x. f (g x)) xs
row_joined f g [] = refl
row_joined f g (x ∷ xs) = ap (λ ys. f (g x) ∷ ys) (row_joined f g xs)

-- ---- one after another

-- what is written first, and what is written behind it
pub then : (t0 : List ℕ) (xs ys : List Piece) (t1 t2 : List ℕ) → t1 ≡ written t0 xs → t2 ≡ written t1 ys → t2 ≡ written t0 (xs ++ ys)
then t0 xs ys t1 t2 first second = second ∙ ap (λ t. written t ys) first ∙ sym (written_append t0 xs ys)

-- the same of what may want memory
pub on_ok : {A E : Type 0} (P Q : Type 0) (r : Result A E) → (P → Q) → OnOk r P → OnOk r Q
on_ok P Q (Ok a) f h = f h
on_ok P Q (Err e) f h = tt

pub then_last : {A E : Type 0} (r : Result A E) (t0 : List ℕ) (xs ys : List Piece) (t1 t2 : List ℕ) → t1 ≡ written t0 xs → OnOk r (t2 ≡ written t1 ys) → OnOk r (t2 ≡ written t0 (xs ++ ys))
then_last (Ok a) t0 xs ys t1 t2 first second = then t0 xs ys t1 t2 first second
then_last (Err e) t0 xs ys t1 t2 first second = tt

-- of the same pieces by another name
pub renamed_last : {A E : Type 0} (r : Result A E) (t0 : List ℕ) (xs ys : List Piece) (t1 : List ℕ) → xs ≡ ys → OnOk r (t1 ≡ written t0 xs) → OnOk r (t1 ≡ written t0 ys)
renamed_last (Ok a) t0 xs ys t1 are h = h ∙ ap (written t0) are
renamed_last (Err e) t0 xs ys t1 are h = tt

-- what has braces, and what is grouped by, of lists with items
pub braced_some : {X : Type 0} (f : X → List Piece) (xs : List X) → (length xs ≡ 0 → ⊥) → braced (map f xs) ≡ (Blank ∷ mark_piece mark.OpenBrace ∷ listed (map f xs)) ++ mark_piece mark.CloseBrace ∷ []
braced_some f [] some = absurd (some refl)
braced_some f (x ∷ xs) some = refl

pub braced_none : {X : Type 0} (f : X → List Piece) (xs : List X) → length xs ≡ 0 → braced (map f xs) ≡ []
braced_none f [] none = refl
braced_none f (x ∷ xs) none = absurd (omega (arith, none))

pub grouped_some : {X : Type 0} (f : X → List Piece) (xs : List X) → (length xs ≡ 0 → ⊥) → grouped (map f xs) ≡ Blank ∷ word (codes "GROUP") ∷ Blank ∷ listed (map f xs)
grouped_some f [] some = absurd (some refl)
grouped_some f (x ∷ xs) some = refl

-- the results so far with one more
pub take_turn : {X Y : Type 0} (f : X → Y) (xs : List X) (i : ℕ) (x : X) → i < length xs → x ≡ get_or xs i x → map f (take (suc i) xs) ≡ map f (take i xs) ++ f x ∷ []
take_turn f [] i x within is = absurd (omega (arith, within))
take_turn f (y ∷ ys) zero x within is = ap (λ z. f z ∷ []) (sym is)
take_turn f (y ∷ ys) (suc i) x within is = ap (λ zs. f y ∷ zs) (take_turn f ys i x (omega (arith, within)) is)

pub mapped_twice : {X Y Z : Type 0} (f : Y → Z) (g : X → Y) (xs : List X) → map f (map g xs) ≡ map (λ x. f (g x)) xs
mapped_twice f g [] = refl
mapped_twice f g (x ∷ xs) = ap (λ ys. f (g x) ∷ ys) (mapped_twice f g xs)

pub flat_mapped : {X Y : Type 0} (f : Y → List Piece) (g : X → Y) (xs : List X) → flat_map f (map g xs) ≡ flat_map (λ x. f (g x)) xs
flat_mapped f g [] = refl
flat_mapped f g (x ∷ xs) = ap (λ ps. f (g x) ++ ps) (flat_mapped f g xs)
