-- What a file has behind a statement, a statement at a time.
use Rattle.std.specs.Prelude.{Bool, true, false, List, [], ◌∷◌, Option, Some, None, if◌then◌else◌}
use Rattle.gc_lex.specs.declared.token.Token.{Token}
use Rattle.gc_lex.specs.declared.token.Mark.TheVariants as mark
use Rattle.gc_parse_readers.specs.Readers.{Reader, Got, then_read, read_behind, read_mark}

-- no token is left
abbrev pub ended : List Token → Bool
ended [] = true
ended (token ∷ ts) = false

-- a reader where a token is left
abbrev pub read_unless_ended : {A : Type 0} → Reader A → Reader (Option A)
read_unless_ended p start ts = if ended ts then Got None start ts else then_read (p start ts) (λ a. λ end rest. Got (Some a) end rest)

-- the next statement of a file: none at the end, with or without a last `;`
abbrev pub read_next : {A : Type 0} → Reader A → Reader (Option A)
read_next statement start ts =
    if ended ts then Got None start ts else read_behind (read_mark mark.Semicolon) (read_unless_ended statement) start ts
