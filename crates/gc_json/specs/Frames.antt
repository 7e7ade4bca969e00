-- The frame of a file: what its object has at each key, but for the items of its lists.
use Rattle.std.specs.Prelude.{ℕ, ◌+◌, ◌-◌, ◌^◌, ◌==◌, ◌&&◌, min, List, [], ◌∷◌, codes, Bool, true, false, if◌then◌else◌}
use Rattle.std.specs.Prelude.{Option, Some, None, option_map, option_and_then, Result, Ok, Err}
use Rattle.std.specs.Str.{bytes_eq}
use Rattle.serde_json.specs.Data.{Data, Items, no_items}
use Rattle.serde_json.specs.Events.{items_len}
use Rattle.serde_json.specs.Find.{as_number, as_u64, as_array}
use Rattle.gc_json.specs.Entries.{Entries, count_of, last_at}
use Rattle.gc_json.specs.GraphFiles.{FileLists, file_keys, whole}
use Rattle.gc_json.specs.JsonValues.{is_key_among, is_one}
use Rattle.gc_json.specs.declared.frame.Frame.{Frame}
use Rattle.gc_json.specs.declared.frame.ListPlace.{ListPlace}
use Rattle.gc_json.specs.declared.refusal.GraphRefusal.{GraphRefusal}
use Rattle.gc_json.specs.declared.refusal.GraphRefusal.TheVariants.{NotJson, WrongShape}

-- how many items an array has
abbrev pub len_of : Data → Option ℕ
len_of d = option_map items_len (as_array d)

-- without its key a list is empty
abbrev pub len_at : Option Data → Option ℕ
len_at None = Some 0
len_at (Some d) = len_of d

-- whether a length is there and is 0
abbrev pub is_zero : Option ℕ → Bool
is_zero None = false
is_zero (Some n) = n == 0

-- whether a value is the version 1
abbrev pub is_version_1 : Data → Bool
is_version_1 d = is_one (option_and_then as_u64 (as_number d))

abbrev pub has_version_1 : Option Data → Bool
has_version_1 o = is_one (option_and_then as_u64 (option_and_then as_number o))

-- whether each key is one of a file
abbrev pub all_known : Entries → Bool
all_known [] = true
all_known (e ∷ es) = is_key_among file_keys e.0 && all_known es

-- how often the key of a list comes, and how long its last value is
abbrev pub place_of : List ℕ → Entries → ListPlace
place_of key es = record { times = count_of key es; len = len_at (last_at key es) }

abbrev pub frame_of : Entries → Frame
frame_of es =
    record {
      nodes = place_of (codes "nodes") es;
      edges = place_of (codes "edges") es;
      paths = place_of (codes "paths") es;
      is_version_1 = has_version_1 (last_at (codes "gcore") es);
      is_known = all_known es;
    }

-- the frame of a whole text, or its first refusal
abbrev pub text_frame : Option (Option Entries) → Result Frame GraphRefusal
text_frame None = Err NotJson
text_frame (Some None) = Err (WrongShape whole)
text_frame (Some (Some es)) = Ok (frame_of es)

-- the refusal of a text that is no object
abbrev pub refusal_of_other : Option Data → GraphRefusal
refusal_of_other None = NotJson
refusal_of_other (Some d) = WrongShape whole

-- how many items the lists have together; None where the file is of another shape
abbrev pub total_of : Option ℕ → Option ℕ → Option ℕ → Option ℕ
total_of nodes edges paths = option_and_then (λ n. option_and_then (λ m. option_map (λ p. min (2 ^ 64 - 1) (n + m + p)) paths) edges) nodes

abbrev pub frame_count : Frame → Option ℕ
frame_count f = if f.is_known && f.is_version_1 then total_of f.nodes.len f.edges.len f.paths.len else None

-- the items of an array; another value has none
abbrev pub items_or_none : Option Items → Items
items_or_none None = no_items
items_or_none (Some ds) = ds

abbrev pub listed : Option Data → Items
listed o = items_or_none (option_and_then as_array o)

-- the lists of an object, the last at each key
abbrev pub entry_lists : Entries → FileLists
entry_lists es =
    record {
      nodes = listed (last_at (codes "nodes") es);
      edges = listed (last_at (codes "edges") es);
      paths = listed (last_at (codes "paths") es);
    }

-- a place after one more value at its key
abbrev pub next_place : ListPlace → Data → ListPlace
next_place place d = record { times = place.times + 1; len = len_of d }

-- a place after one more member
abbrev pub place_after : List ℕ → ListPlace → List ℕ → Data → ListPlace
place_after key place k d = if bytes_eq k key then next_place place d else place

-- a frame after one more member
abbrev pub frame_after : Frame → List ℕ → Data → Frame
frame_after f k d =
    record {
      nodes = place_after (codes "nodes") f.nodes k d;
      edges = place_after (codes "edges") f.edges k d;
      paths = place_after (codes "paths") f.paths k d;
      is_version_1 = if bytes_eq k (codes "gcore") then is_version_1 d else f.is_version_1;
      is_known = f.is_known && is_key_among file_keys k;
    }
