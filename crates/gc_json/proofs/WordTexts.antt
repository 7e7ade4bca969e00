-- A word is ASCII, and so it is UTF-8.
use Rattle.std.proofs.Common.{◌≡◌, ℕ, true, List}
use Rattle.std.proofs.lemmas.Str.{IsUtf8-from_ascii}
use Rattle.std.specs.Str.{IsUtf8}
use Rattle.gc_base.specs.Words.{is_word}
use Rattle.gc_base.proofs.WordLaws.{word_ascii}

pub IsUtf8-word : (cs : List ℕ) → is_word cs ≡ true → IsUtf8 cs
IsUtf8-word cs h = IsUtf8-from_ascii cs (word_ascii cs h)
