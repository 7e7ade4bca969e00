-- What a query file says, by its bytes and the names of the graphs, or what is wrong with it first.
use Rattle.std.specs.Prelude.{◌≡◌, ℕ, List, [], ◌∷◌, ◌++◌, slice_get, Option, Some, None, Result, Ok, Err, ⊤}
use Rattle.std.specs.Option.{unwrap_or}
use Rattle.gc_base.specs.declared.place.Place.{Place}
use Rattle.gc_lex.specs.declared.refusal.LexRefusal.{LexRefusal}
use Rattle.gc_lex.specs.declared.refusal.LexRefusal.TheVariants as lex
use Rattle.gc_lex.specs.Lexis.{TokenList, lexed}
use Rattle.gc_ast.specs.Trees.{Tree, AStatement, row}
use Rattle.gc_parse.specs.declared.refusal.ParseRefusal.{ParseRefusal}
use Rattle.gc_parse.specs.declared.refusal.ParseRefusal.TheVariants as parse
use Rattle.gc_lower.specs.Namings.{QueryFile, file_of}
use Rattle.gc_parse.specs.Parses.{parsed}
use Rattle.gc_parse_source.specs.Sources.{names_among}
use Rattle.gc_sorts.specs.declared.breach.Breach.{Breach}
use Rattle.gc_sorts.specs.declared.checked.Checked.{Checked}
use Rattle.gc_sorts.specs.SortRules.{first_breach}
use Rattle.gcore.specs.declared.stop.Stop.{Stop}
use Rattle.gcore.specs.declared.stop.Stop.TheVariants.{Text, Sorts, OutOfMemory}
use Rattle.gcore.specs.declared.text_refusal.TextRefusal.TheVariants.{NotUtf8, BadCharacter, OpenText, NumberTooLarge, TooDeep, Syntax}

-- the place before the first byte
abbrev pub first_place : Place
first_place = record { line = 1; column = 1 }

-- the place of the token of a number, and at the number of tokens that of the end of the text
abbrev pub token_place : List Place → ℕ → Place
token_place places k = unwrap_or (slice_get places k) first_place

-- the last place, which is that of the end of the text
abbrev pub end_place : List Place → Place
end_place [] = first_place
end_place (place ∷ []) = place
end_place (place ∷ next ∷ places) = end_place (next ∷ places)

-- the place of the token of a number, and that of the end of the text behind the last
abbrev pub place_at : List Place → ℕ → Place
place_at places token = unwrap_or (slice_get places token) (end_place places)

-- the place of the token at which a sort rule is broken
abbrev pub breach_place : List Place → Breach → Place
breach_place places breach = place_at places breach.token

-- a text that has no tokens, as a stop
abbrev pub stop_of_lex : LexRefusal → Stop
stop_of_lex (lex.NotUtf8 place) = Text (NotUtf8 place)
stop_of_lex (lex.BadCharacter place) = Text (BadCharacter place)
stop_of_lex (lex.OpenText place) = Text (OpenText place)
stop_of_lex (lex.NumberTooLarge place) = Text (NumberTooLarge place)
stop_of_lex lex.Memory = OutOfMemory

-- tokens at these places that are no query file, as a stop
abbrev pub stop_of_parse : List Place → ParseRefusal → Stop
stop_of_parse places (parse.TooDeep k) = Text (TooDeep (token_place places k))
stop_of_parse places (parse.Syntax k) = Text (Syntax (token_place places k))
stop_of_parse places parse.Memory = OutOfMemory

-- a query file, with the places of its tokens and that of its end behind them
pub record PlacedFile : Type 0 where
  pub file : QueryFile
  pub places : List Place

-- a checked file, as it is read
abbrev pub placed : Checked → PlacedFile
placed checked = record { file = file_of checked; places = checked.file.places ++ checked.file.end ∷ [] }

-- a query file of tokens at these places, where it breaks no sort rule, or its first breach
abbrev pub unless_broken : List Place → QueryFile → Option Breach → Result PlacedFile Stop
unless_broken places file None = Ok (record { file = file; places = places })
unless_broken places file (Some breach) = Err (Sorts breach.rule (breach_place places breach))

abbrev pub sorted_at : List Place → QueryFile → Result PlacedFile Stop
sorted_at places file = unless_broken places file (first_breach file.graphs (row file.statements))

-- statements over graphs of these names, with the names among their tokens
abbrev pub file_over : (graphs names : List (List ℕ)) → List (Tree AStatement) → QueryFile
file_over graphs names statements = record { graphs = graphs; names = names; statements = statements }

-- what a parse of tokens at these places gives, over graphs of these names
abbrev pub query_file_at : (graphs names : List (List ℕ)) → List Place → Result (List (Tree AStatement)) ParseRefusal → Result PlacedFile Stop
query_file_at graphs names places (Ok statements) = sorted_at places (file_over graphs names statements)
query_file_at graphs names places (Err refusal) = Err (stop_of_parse places refusal)

-- the query file of the tokens of a text, if it has tokens
abbrev pub query_file_in : List (List ℕ) → Result TokenList LexRefusal → Result PlacedFile Stop
query_file_in graphs (Ok list) = query_file_at graphs (names_among list.tokens) list.places (parsed list.tokens)
query_file_in graphs (Err refusal) = Err (stop_of_lex refusal)

-- the query file of a text over graphs of these names: it has to have tokens, they have to be those of a query file, and this
-- may break no sort rule
abbrev pub query_file_of : List (List ℕ) → List ℕ → Result PlacedFile Stop
query_file_of graphs text = query_file_in graphs (lexed text)

-- the query file that is due is given, or the refusal that is due is told; want of memory is free
abbrev pub IsFileOf : Result PlacedFile Stop → Result Checked Stop → Type 0
IsFileOf due (Ok checked) = due ≡ Ok (placed checked)
IsFileOf due (Err (Text refusal)) = due ≡ Err (Text refusal)
IsFileOf due (Err (Sorts rule place)) = due ≡ Err (Sorts rule place)
IsFileOf due (Err OutOfMemory) = ⊤
IsFileOf due (Err stop) = ⊥
