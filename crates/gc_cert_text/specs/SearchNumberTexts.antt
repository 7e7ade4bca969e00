-- The numbers of a search, but for those of its graph and its segments.
use Rattle.std.specs.Prelude.{codes, if◌then◌else◌, Option, Some, None}
use Rattle.serde_json.specs.Data.{Data}
use Rattle.serde_json.specs.Find.{get}
use Rattle.gc_cert_text.specs.Numbers.{id_in, potential_in, walk_doc_in, has_segment_numbers}
use Rattle.gc_cert_text.specs.Options.{◌>>=◌, list_at}
use Rattle.gc_cert_text.specs.Shapes.{each_is, has_array}
use Rattle.gc_cert_text.specs.declared.search_numbers.SearchNumbers.{SearchNumbers}

abbrev pub numbers_of : Data → Option SearchNumbers
numbers_of d =
    list_at potential_in (codes "potentials") d >>= λ potentials. get (codes "start") d >>= id_in
    >>= λ start. list_at walk_doc_in (codes "walks") d
    >>= λ walks. Some (record { potentials = potentials; start = start; walks = walks })

-- they are there where those of the segments are written as they should, too
abbrev pub numbers_in : Data → Option SearchNumbers
numbers_in d = if has_array (codes "segments") (each_is has_segment_numbers) d then numbers_of d else None
