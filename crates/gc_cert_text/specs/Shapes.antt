-- The shape of the document of a certificate. Of numbers, texts, costs and graphs nothing is asked here.
use Rattle.std.specs.Prelude.{ℕ, ◌&&◌, ◌||◌, ◌==◌, ◌%◌, Bool, true, false, List, [], ◌∷◌, codes}
use Rattle.std.specs.List.{list_all}
use Rattle.std.specs.Option.{is_some, option_map_or}
use Rattle.serde_json.specs.Data.{Data, Items, no_items, item}
use Rattle.serde_json.specs.Events.{items_len}
use Rattle.serde_json.specs.Find.{get, as_array, as_object}
use Rattle.gc_json.specs.JsonValues.{is_object_of, is_one, number_at}
use Rattle.gc_cert_text.specs.Options.{array_at}

-- whether a value is an object with exactly these keys
abbrev pub has_keys : List (List ℕ) → Data → Bool
has_keys keys d = is_object_of keys (as_object d) && list_all (λ key. is_some (get key d)) keys

-- whether each item of an array is so
abbrev pub each_is : (Data → Bool) → Items → Bool
each_is test no_items = true
each_is test (item d ds) = test d && each_is test ds

-- whether there is an array that is so at a key
abbrev pub has_array : List ℕ → (Items → Bool) → Data → Bool
has_array key test d = option_map_or test (array_at key d) false

-- an array of any length, one of three items, and one of an odd number of items
abbrev pub of_any_length : Items → Bool
of_any_length ds = true

abbrev pub is_triple : Items → Bool
is_triple ds = items_len ds == 3

abbrev pub is_odd : Items → Bool
is_odd ds = items_len ds % 2 == 1

-- a potential: `[node, state, "cost"]`
abbrev pub has_potential_shape : Data → Bool
has_potential_shape d = option_map_or is_triple (as_array d) false

-- a segment: `{"cost":"c","view":"v","walk":[..]}`
abbrev pub has_segment_shape : Data → Bool
has_segment_shape d = has_keys (codes "cost" ∷ codes "view" ∷ codes "walk" ∷ []) d && has_array (codes "walk") of_any_length d

-- a move: `{"to":q}`, `{"edge":e,"to":q}` or `{"segment":i,"to":q}`
abbrev pub has_move_shape : Data → Bool
has_move_shape d =
    has_keys (codes "to" ∷ []) d || (has_keys (codes "edge" ∷ codes "to" ∷ []) d || has_keys (codes "segment" ∷ codes "to" ∷ []) d)

-- a walk: `{"cost":"c","run":[..],"walk":[..]}`, whose nodes and edges are an odd number together
abbrev pub has_walk_shape : Data → Bool
has_walk_shape d =
    has_keys (codes "cost" ∷ codes "run" ∷ codes "walk" ∷ []) d
    && (has_array (codes "run") (each_is has_move_shape) d && has_array (codes "walk") is_odd d)

-- the keys of a search
abbrev pub search_keys : List (List ℕ)
search_keys =
    codes "expression" ∷ codes "graph" ∷ codes "potentials" ∷ codes "segments" ∷ codes "start" ∷ codes "walks" ∷ []

abbrev pub has_search_arrays : Data → Bool
has_search_arrays d =
    has_array (codes "potentials") (each_is has_potential_shape) d
    && (has_array (codes "segments") (each_is has_segment_shape) d && has_array (codes "walks") (each_is has_walk_shape) d)

abbrev pub has_search_shape : Data → Bool
has_search_shape d = has_keys search_keys d && has_search_arrays d

-- a document: `{"gcore_cert":1,"searches":[..]}`
abbrev pub has_document_shape : Data → Bool
has_document_shape d =
    has_keys (codes "gcore_cert" ∷ codes "searches" ∷ []) d
    && (is_one (number_at (codes "gcore_cert") d) && has_array (codes "searches") (each_is has_search_shape) d)
