-- The labels of an element in a graph file.
use Rattle.std.specs.Prelude.{ℕ, List, map, if◌then◌else◌, Result, Ok, Err}
use Rattle.gc_base.specs.Literals.{text_order}
use Rattle.gc_base.specs.Words.{is_word}
use Rattle.serde_json.specs.Data.{Data, Items}
use Rattle.serde_json.specs.Find.{as_str}
use Rattle.gc_json.specs.Gathering.{all_or_first, data_of, set_of}
use Rattle.gc_json.specs.Reading.{◌>>=◌, or_refused}
use Rattle.gc_json.specs.declared.fault.Fault.{Fault}
use Rattle.gc_json.specs.declared.fault.Fault.TheVariants.{BadLabel}

-- a text of the form of a word
abbrev pub word_of : List ℕ → Result (List ℕ) Fault
word_of text = if is_word text then Ok text else Err BadLabel

-- a label is a text of the form of a word
abbrev pub label_of : Data → Result (List ℕ) Fault
label_of d = or_refused BadLabel (as_str d) >>= word_of

-- the labels of an array: ascending, each once
abbrev pub labels_of : Items → Result (List (List ℕ)) Fault
labels_of ds = all_or_first (map label_of (data_of ds)) >>= λ labels. Ok (set_of text_order labels)
