-- Whole query files: what the reader of files gives for them.
use Rattle.std.proofs.Common.{◌≡◌, refl, sym, ap, subst, ◌∙◌, ℕ, zero, suc, ◌+◌, ◌-◌, List, [], ◌∷◌, ◌++◌, length, take, drop, Result, Ok, Err, Some, None, slice_get}
use Rattle.gc_ast.specs.Trees.{Tree, AStatement}
use Rattle.gc_lex.specs.declared.token.Token.{Token}
use Rattle.gc_parse_readers.specs.Readers.{Got, Stuck}
use Rattle.gc_grammar.specs.Queries.{SpellsFile, start}
use Rattle.gc_parse_source.specs.declared.refusal.Refusal.{Refusal}
use Rattle.gc_parse_source.specs.declared.refusal.Refusal.TheVariants as refusal
use Rattle.gc_parse.specs.declared.refusal.ParseRefusal.TheVariants as whole
use Rattle.gc_parse.specs.declared.refusal.ParseRefusal.{ParseRefusal}
use Rattle.gc_parse.specs.Depths.{depth_fault_in}
use Rattle.gc_parse.specs.Parses.{IsWhole, IsDueWhole, IsDueParse, parsed, read_whole, unless_deep}
use Rattle.gc_parse_readers.specs.QueryReaders.{file_reading}
use Rattle.gc_parse_readers.specs.QueryReaders.{nested, read_file}
use Rattle.gc_parse_source.specs.Results.{Gives}
use Rattle.gc_parse_readers.specs.Points.{bare}
use Rattle.gc_parse.specs.Parses.{as_parse_refusal}
use Rattle.gc_base.specs.declared.place.Place.{Place}
use Rattle.gc_parse_source.proofs.Prefixes.{take_snoc}
use Rattle.gc_parse_readers.proofs.FileRight.{file_sound, file_refused, file_alone}
use native.Mathlib.Omega.{arith}

-- what is read is the one list of statements
pub file_found : (ts : List Token) (room end : ℕ) (trees : List (Tree AStatement)) → room ≡ length ts + 1
    → read_file room (nested (room - 1)) start ts ≡ Got trees (bare end) (drop end ts)
    → SpellsFile ts trees × ((others : List (Tree AStatement)) → SpellsFile ts others → others ≡ trees)
file_found ts room end trees room_is got =
    let spelled = (file_sound room ts (drop end ts) trees (bare end) (omega (arith, room_is)) got).1 in
    (spelled, λ others other. file_alone ts others trees other spelled)

-- what the reader gives is due
pub file_due : (ts : List Token) (room end : ℕ) (trees : List (Tree AStatement)) → room ≡ length ts + 1
    → read_file room (nested (room - 1)) start ts ≡ Got trees (bare end) (drop end ts) → read_whole (file_reading (length ts + 1) ts) ≡ Ok trees
file_due ts room end trees room_is got = ap read_whole (subst (λ n. read_file n (nested (n - 1)) start ts ≡ Got trees (bare end) (drop end ts)) room_is got)

-- what is not read is refused where the reader is stuck
pub file_exits : {T : Type 0} (view : T → List (Tree AStatement)) (ts : List Token) (room : ℕ) (refused : Refusal) (result : Result T Refusal) → room ≡ length ts + 1
    → (x : Refusal) × (result ≡ Err x) × (x ≡ refused) → Gives view ts (Err refused) (read_file room (nested (room - 1)) start ts)
    → IsWhole SpellsFile view ts result × IsDueWhole view (read_whole (file_reading (length ts + 1) ts)) result
file_exits view ts room (refusal.Syntax k) result room_is exit stuck =
    subst (λ r. IsWhole SpellsFile view ts r × IsDueWhole view (read_whole (file_reading (length ts + 1) ts)) r) (sym (exit.1 ∙ ap Err exit.2)) (
      file_refused room k ts (omega (arith, room_is)) stuck,
      ap read_whole (subst (λ n. read_file n (nested (n - 1)) start ts ≡ Stuck k) room_is stuck),
    )
file_exits view ts room refusal.Memory result room_is exit stuck =
    subst (λ r. IsWhole SpellsFile view ts r × IsDueWhole view (read_whole (file_reading (length ts + 1) ts)) r) (sym (exit.1 ∙ ap Err exit.2)) (tt, tt)

-- the same of equal lists and equal trees
pub same_whole : (ts us : List Token) (trees others : List (Tree AStatement)) → us ≡ ts → trees ≡ others
    → SpellsFile us trees × ((a : List (Tree AStatement)) → SpellsFile us a → a ≡ trees)
    → SpellsFile ts others × ((a : List (Tree AStatement)) → SpellsFile ts a → a ≡ others)
same_whole ts us trees others same alike whole =
    subst (λ vs. SpellsFile vs others × ((a : List (Tree AStatement)) → SpellsFile vs a → a ≡ others)) same
    (subst (λ t. SpellsFile us t × ((a : List (Tree AStatement)) → SpellsFile us a → a ≡ t)) alike whole)

-- where a bracket is too deep, that is due
pub deep_is_due : (ts : List Token) (k : ℕ) → depth_fault_in ts ≡ Some k → parsed ts ≡ Err (whole.TooDeep k)
unfolding parsed
deep_is_due ts k deep = ap (λ d. unless_deep d (read_whole (file_reading (length ts + 1) ts))) deep

-- where none is, what the reader gives is due
pub reading_is_due : (ts : List Token) → depth_fault_in ts ≡ None → parsed ts ≡ read_whole (file_reading (length ts + 1) ts)
unfolding parsed
reading_is_due ts deep = ap (λ d. unless_deep d (read_whole (file_reading (length ts + 1) ts))) deep

-- a refusal of the whole list is the one that is due
pub refusal_is_due : {T : Type 0} (view : T → List (Tree AStatement)) (ts : List Token) (refused : Refusal) (result : Result T ParseRefusal)
    → (x : ParseRefusal) × (result ≡ Err x) × (x ≡ as_parse_refusal refused) → depth_fault_in ts ≡ None
    → IsDueWhole view (read_whole (file_reading (length ts + 1) ts)) (Err refused) → IsDueParse view (parsed ts) result
refusal_is_due view ts (refusal.Syntax k) result exit deep due =
    subst (IsDueParse view (parsed ts)) (sym (exit.1 ∙ ap Err exit.2)) (reading_is_due ts deep ∙ due)
refusal_is_due view ts refusal.Memory result exit deep due = subst (IsDueParse view (parsed ts)) (sym (exit.1 ∙ ap Err exit.2)) tt

take_whole : {A : Type 0} (xs : List A) (n : ℕ) → length xs ≡ n → take n xs ≡ xs
take_whole [] zero is = refl
take_whole [] (suc n) is = absurd (omega (arith, is))
take_whole (x ∷ xs) zero is = absurd (omega (arith, is))
take_whole (x ∷ xs) (suc n) is = ap (λ rest. x ∷ rest) (take_whole xs n (omega (arith, is)))

-- the places of the tokens, and the one of the end
pub places_are_whole : (all places : List Place) (end last : Place) (n m : ℕ) → length all ≡ n + 1 → m ≡ n → slice_get all m ≡ Some last → places ≡ take n all → end ≡ last
    → places ++ end ∷ [] ≡ all
places_are_whole all places end last n m long same at front is =
    (λ j. front j ++ is j ∷ [])
    ∙ sym (take_snoc all n last (subst (λ i. slice_get all i ≡ Some last) same at))
    ∙ take_whole all (n + 1) long
