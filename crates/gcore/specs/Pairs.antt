-- Graph files under names: `N=F ..`.
use Rattle.std.specs.Prelude.{ℕ, ◌==◌, ◌&&◌, Bool, true, not, List, [], ◌∷◌, length, nat_eq, nat_lt, nat_le, if◌then◌else◌, Some, None, Option}
use Rattle.std.specs.Option.{option_map, option_and_then}
use Rattle.std.specs.List.{before_first, after_first, position_or_len, list_any}
use Rattle.std.specs.Cmp.Lexicographic.{pointwise}
use Rattle.gc_base.specs.Words.{is_word, is_reserved}
use Rattle.gc_base.specs.PropertyLists.{is_nil}
use Rattle.gcore.specs.declared.pair.Pair.{Pair}

-- a name is a word that is not reserved
abbrev pub is_name : List ℕ → Bool
is_name word = is_word word && not (is_reserved word)

-- the sign between a name and its file
abbrev pub is_equals_sign : ℕ → Bool
is_equals_sign c = c == 61

-- a name, and the word of a file, which is not empty
abbrev pub named_file : List ℕ → List ℕ → Option Pair
named_file name file = if is_name name && not (is_nil file) then Some (record { name = name; file = file }) else None

-- a pair word is split at its first equals sign
abbrev pub pair_of : List ℕ → Option Pair
pair_of word =
    if nat_lt (position_or_len is_equals_sign word) (length word)
    then named_file (before_first is_equals_sign word) (after_first is_equals_sign word)
    else None

-- the pairs of some words, where each is a pair
abbrev pub pairs_of : List (List ℕ) → Option (List Pair)
pairs_of [] = Some []
pairs_of (word ∷ words) = option_and_then (λ pair. option_map (λ pairs. pair ∷ pairs) (pairs_of words)) (pair_of word)

-- whether a name is among those of some pairs
abbrev pub has_name : List Pair → List ℕ → Bool
has_name pairs name = list_any (λ pair. pointwise nat_eq pair.name name) pairs

-- whether no name comes twice
abbrev pub names_differ : List Pair → Bool
names_differ [] = true
names_differ (pair ∷ pairs) = not (has_name pairs pair.name) && names_differ pairs

-- the graph files of a command: one to eight, under names that differ
abbrev pub are_graphs : List Pair → Bool
are_graphs pairs = (nat_lt 0 (length pairs) && nat_le (length pairs) 8) && names_differ pairs

abbrev pub graphs_in : List (List ℕ) → Option (List Pair)
graphs_in words = option_and_then (λ pairs. if are_graphs pairs then Some pairs else None) (pairs_of words)
