-- What a parse of a token list is.
use Rattle.std.specs.Prelude.{◌≡◌, ◌+◌, List, [], ◌∷◌, length, Option, Result, Ok, Err, Some, None, ℕ}
use Rattle.gc_lex.specs.declared.token.Token.{Token}
use Rattle.gc_parse.specs.declared.refusal.ParseRefusal.{ParseRefusal}
use Rattle.gc_parse.specs.declared.refusal.ParseRefusal.TheVariants.{TooDeep, Syntax, Memory}
use Rattle.gc_parse_source.specs.declared.refusal.Refusal.{Refusal}
use Rattle.gc_parse_source.specs.declared.refusal.Refusal.TheVariants as refusal
use Rattle.gc_ast.specs.Trees.{Tree, AStatement}
use Rattle.gc_grammar.specs.Queries.{start}
use Rattle.gc_grammar.specs.Regexes.{Expression}
use Rattle.gc_parse_readers.specs.Readers.{Reading, Got, Stuck}
use Rattle.gc_parse_readers.specs.QueryReaders.{file_reading}
use Rattle.gc_parse_readers.specs.RegexReaders.{read_regex}
use Rattle.gc_parse_readers.specs.Refusals.{IsRefusedAt}
use Rattle.gc_regx.specs.Trees.{RegexTree, ARegex}
use Rattle.gc_parse.specs.Depths.{IsDepthFault, depth_fault_in}

-- a result is the parse of a list, by what lists spell and what a result's tree is: brackets that are
-- too deep are refused before all else; then a tree is given where the list spells one, and it is the
-- only one; or the place is given of the first token with which no list begins so that spells a tree
abbrev pub IsParse : {T A : Type 0} → (List Token → A → Type 0) → (T → A) → List Token → Result T ParseRefusal → Type 0
IsParse {A = A} Spells view ts (Ok t) =
    IsDepthFault ts None × Spells ts (view t) × ((a : A) → Spells ts a → a ≡ view t)
IsParse Spells view ts (Err (TooDeep k)) = IsDepthFault ts (Some k)
IsParse Spells view ts (Err (Syntax k)) =
    IsDepthFault ts None × IsRefusedAt Spells ts k
IsParse Spells view ts (Err Memory) = Unit {0}

-- the same without brackets that are too deep
abbrev pub IsWhole : {T A : Type 0} → (List Token → A → Type 0) → (T → A) → List Token → Result T Refusal → Type 0
IsWhole {A = A} Spells view ts (Ok t) = Spells ts (view t) × ((a : A) → Spells ts a → a ≡ view t)
IsWhole Spells view ts (Err (refusal.Syntax k)) =
    IsRefusedAt Spells ts k
IsWhole Spells view ts (Err refusal.Memory) = Unit {0}

-- what a reading of a whole file means: its statements, or the token that it cannot go past
abbrev pub read_whole : Reading (List (Tree AStatement)) → Result (List (Tree AStatement)) ParseRefusal
read_whole (Got statements end rest) = Ok statements
read_whole (Stuck k) = Err (Syntax k)

-- what a reading of a whole expression means: the expression where no token is left; else the first token that is left, or
-- the one that it cannot go past
abbrev pub read_expression : Reading Expression → Result (RegexTree ARegex) ParseRefusal
read_expression (Got e end []) = Ok e.tree
read_expression (Got e end (token ∷ rest)) = Err (Syntax end.token)
read_expression (Stuck k) = Err (Syntax k)

-- where the brackets are not too deep, a reading counts
abbrev pub unless_deep : {A : Type 0} → Option ℕ → Result A ParseRefusal → Result A ParseRefusal
unless_deep (Some k) due = Err (TooDeep k)
unless_deep None due = due

-- the statements of a query file, or its refusal
unfoldable pub parsed : List Token → Result (List (Tree AStatement)) ParseRefusal
parsed ts = unless_deep (depth_fault_in ts) (read_whole (file_reading (length ts + 1) ts))

-- a regular path expression, or its refusal
unfoldable pub parsed_regex : List Token → Result (RegexTree ARegex) ParseRefusal
parsed_regex ts = unless_deep (depth_fault_in ts) (read_expression (read_regex (length ts + 1) start ts))

-- what is due is given, but for want of memory
abbrev pub IsDueParse : {T A : Type 0} → (T → A) → Result A ParseRefusal → Result T ParseRefusal → Type 0
IsDueParse view due (Ok t) = due ≡ Ok (view t)
IsDueParse view due (Err (TooDeep k)) = due ≡ Err (TooDeep k)
IsDueParse view due (Err (Syntax k)) = due ≡ Err (Syntax k)
IsDueParse view due (Err Memory) = Unit {0}

-- the same where no bracket is too deep
abbrev pub IsDueWhole : {T A : Type 0} → (T → A) → Result A ParseRefusal → Result T Refusal → Type 0
IsDueWhole view due (Ok t) = due ≡ Ok (view t)
IsDueWhole view due (Err (refusal.Syntax k)) = due ≡ Err (Syntax k)
IsDueWhole view due (Err refusal.Memory) = Unit {0}

-- the refusal of a production as that of a whole file
abbrev pub as_parse_refusal : Refusal → ParseRefusal
as_parse_refusal (refusal.Syntax k) = Syntax k
as_parse_refusal refusal.Memory = Memory
