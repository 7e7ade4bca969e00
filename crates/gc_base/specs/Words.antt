-- Words, names and the reserved list.
use Rattle.std.specs.Prelude.{ℕ, Bool, false, ◌&&◌, ◌||◌, ◌==◌, List, [], ◌∷◌, codes, nat_eq}
use Rattle.std.specs.Char.{is_ascii_alphabetic, is_ascii_alphanumeric}
use Rattle.std.specs.List.{list_all, list_any}
use Rattle.std.specs.Cmp.Lexicographic.{pointwise}

-- a letter, a digit or the low line
abbrev pub is_word_part : ℕ → Bool
is_word_part c = is_ascii_alphanumeric c || c == 95

-- a word: an ASCII letter, and then letters, digits and low lines
abbrev pub is_word : List ℕ → Bool
is_word [] = false
is_word (c ∷ cs) = is_ascii_alphabetic c && list_all is_word_part cs

-- the words that are no names
abbrev pub reserved_words : List (List ℕ)
reserved_words =
    codes "ALL" ∷ codes "AND" ∷ codes "AS" ∷ codes "COLLECT" ∷ codes "CONSTRUCT" ∷ codes "COST" ∷ codes "COUNT"
    ∷ codes "EXISTS" ∷ codes "FALSE" ∷ codes "GRAPH" ∷ codes "GROUP" ∷ codes "IN" ∷ codes "INTERSECT" ∷ codes "MATCH"
    ∷ codes "MAX" ∷ codes "MIN" ∷ codes "MINUS" ∷ codes "NOT" ∷ codes "ON" ∷ codes "OPTIONAL" ∷ codes "OR" ∷ codes "PATH"
    ∷ codes "REMOVE" ∷ codes "SET" ∷ codes "SHORTEST" ∷ codes "SUBSET" ∷ codes "SUM" ∷ codes "TRUE" ∷ codes "UNION"
    ∷ codes "VIEW" ∷ codes "WHEN" ∷ codes "WHERE" ∷ codes "edges" ∷ codes "length" ∷ codes "nodes" ∷ []

-- whether a word is on the list
abbrev pub is_reserved : List ℕ → Bool
is_reserved word = list_any (pointwise nat_eq word) reserved_words
