-- Places in a text.
use Rattle.std.specs.Prelude.{ℕ, ◌+◌, List, length, take, count_by}
use Rattle.std.specs.List.{after_last}
use Rattle.gc_base.specs.declared.place.Place.{Place}
use Rattle.gc_lex.specs.Characters.{is_line_feed}

-- the place just after these bytes: one more than their line feeds, and one more than the bytes
-- after the last of them
abbrev pub place_after : List ℕ → Place
place_after before = record {
  line = count_by is_line_feed before + 1;
  column = length (after_last is_line_feed before) + 1;
}

-- the place of an offset of a text
abbrev pub place_at : List ℕ → ℕ → Place
place_at text at = place_after (take at text)
