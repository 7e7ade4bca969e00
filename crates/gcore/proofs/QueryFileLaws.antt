-- What a query file asks for, by the statements that its tokens spell or the place of its refusal.
use Rattle.std.proofs.Common.{◌≡◌, ℕ, List, Option, Some, None, Result, Ok, Err, refl, ap, ◌∙◌, arith, slice_get}
use Rattle.gc_base.specs.declared.place.Place.{Place}
use Rattle.gc_lex.specs.declared.refusal.LexRefusal.{LexRefusal}
use Rattle.gc_lex.specs.declared.refusal.LexRefusal.TheVariants as lex
use Rattle.gc_lex.specs.Lexis.{TokenList, lexed}
use Rattle.gc_lex.specs.declared.token.Token.{Token}
use Rattle.gc_ast.specs.Trees.{Tree, AStatement, row}
use Rattle.gc_grammar.specs.Queries.{SpellsFile}
use Rattle.gc_parse.specs.declared.refusal.ParseRefusal.{ParseRefusal}
use Rattle.gc_parse.specs.declared.refusal.ParseRefusal.TheVariants as parse
use Rattle.gc_parse.specs.Depths.{IsDepthFault}
use Rattle.gc_parse_readers.specs.Refusals.{IsRefusedAt}
use Rattle.gc_parse.specs.Parses.{parsed}
use Rattle.gc_sorts.specs.declared.breach.Breach.{Breach}
use Rattle.gc_sorts.specs.declared.breach.SortRule.{SortRule}
use Rattle.gc_sorts.specs.SortRules.{first_breach}
use Rattle.gcore.specs.QueryFiles.{PlacedFile, breach_place, file_over, first_place, query_file_at, query_file_in, query_file_of, sorted_at, token_place, unless_broken}
use Rattle.gc_lower.specs.Namings.{QueryFile}
use Rattle.gc_parse_source.specs.Sources.{names_among}
use Rattle.gcore.specs.declared.stop.Stop.TheVariants.{Sorts, Text}
use Rattle.gcore.specs.declared.text_refusal.TextRefusal.{TextRefusal}
use Rattle.gcore.specs.declared.text_refusal.TextRefusal.TheVariants.{TooDeep, Syntax}
use Rattle.gcore.proofs.TextPlaces.{places_count, item_there, deep_within}

-- what the parse of tokens says of them
pub record Parses : Type 0 where
  pub spelled : (ts : List Token) (statements : List (Tree AStatement)) → IsDepthFault ts None → SpellsFile ts statements → parsed ts ≡ Ok statements
  pub spells : (ts : List Token) (statements : List (Tree AStatement)) → parsed ts ≡ Ok statements → IsDepthFault ts None × SpellsFile ts statements
  pub deep : (ts : List Token) (k : ℕ) → parsed ts ≡ Err (parse.TooDeep k) → IsDepthFault ts (Some k)
  pub refused : (ts : List Token) (k : ℕ) → parsed ts ≡ Err (parse.Syntax k) → IsRefusedAt SpellsFile ts k

abbrev at_places : List Place → QueryFile → PlacedFile
at_places places file = record { file = file; places = places }

sorted_no_text : (places : List Place) (file : QueryFile) (found : Option Breach) (refusal : TextRefusal) → unless_broken places file found ≡ Err (Text refusal) → ⊥
sorted_no_text places file None refusal h = cc
sorted_no_text places file (Some breach) refusal h = cc

module _ (parses : Parses) (graphs : List (List ℕ)) where
  deep_parse : (names : List (List ℕ)) (places : List Place) (r : Result (List (Tree AStatement)) ParseRefusal) (place : Place) → query_file_at graphs names places r ≡ Err (Text (TooDeep place))
      → (k : ℕ) × (r ≡ Err (parse.TooDeep k)) × (token_place places k ≡ place)
  deep_parse names places (Ok statements) place h = absurd (sorted_no_text places (file_over graphs names statements) (first_breach graphs (row statements)) (TooDeep place) h)
  deep_parse names places (Err (parse.TooDeep k)) place h = (k, refl, cc)
  deep_parse names places (Err (parse.Syntax k)) place h = absurd (cc)
  deep_parse names places (Err parse.Memory) place h = absurd (cc)

  refused_parse : (names : List (List ℕ)) (places : List Place) (r : Result (List (Tree AStatement)) ParseRefusal) (place : Place) → query_file_at graphs names places r ≡ Err (Text (Syntax place))
      → (k : ℕ) × (r ≡ Err (parse.Syntax k)) × (token_place places k ≡ place)
  refused_parse names places (Ok statements) place h = absurd (sorted_no_text places (file_over graphs names statements) (first_breach graphs (row statements)) (Syntax place) h)
  refused_parse names places (Err (parse.TooDeep k)) place h = absurd (cc)
  refused_parse names places (Err (parse.Syntax k)) place h = (k, refl, cc)
  refused_parse names places (Err parse.Memory) place h = absurd (cc)

  breach_of : (places : List Place) (file : QueryFile) (found : Option Breach) (rule : SortRule) (place : Place) → unless_broken places file found ≡ Err (Sorts rule place)
      → (breach : Breach) × (found ≡ Some breach) × (rule ≡ breach.rule) × (place ≡ breach_place places breach)
  breach_of places file None rule place h = absurd (cc)
  breach_of places file (Some breach) rule place h = (breach, refl, cc, cc)

  broken_parse : (names : List (List ℕ)) (places : List Place) (r : Result (List (Tree AStatement)) ParseRefusal) (rule : SortRule) (place : Place) → query_file_at graphs names places r ≡ Err (Sorts rule place)
      → (statements : List (Tree AStatement)) × (breach : Breach) × (r ≡ Ok statements) × (first_breach graphs (row statements) ≡ Some breach) × (rule ≡ breach.rule) × (place ≡ breach_place places breach)
  broken_parse names places (Ok statements) rule place h =
      let found = breach_of places (file_over graphs names statements) (first_breach graphs (row statements)) rule place h in
      (statements, found.0, refl, found.1, found.2, found.3)
  broken_parse names places (Err (parse.TooDeep k)) rule place h = absurd (cc)
  broken_parse names places (Err (parse.Syntax k)) rule place h = absurd (cc)
  broken_parse names places (Err parse.Memory) rule place h = absurd (cc)

  deep_tokens : (l : Result TokenList LexRefusal) (place : Place) → query_file_in graphs l ≡ Err (Text (TooDeep place))
      → (list : TokenList) × (l ≡ Ok list) × ((k : ℕ) × (parsed list.tokens ≡ Err (parse.TooDeep k)) × (token_place list.places k ≡ place))
  deep_tokens (Ok list) place h = (list, refl, deep_parse (names_among list.tokens) list.places (parsed list.tokens) place h)
  deep_tokens (Err (lex.NotUtf8 p)) place h = absurd (cc)
  deep_tokens (Err (lex.BadCharacter p)) place h = absurd (cc)
  deep_tokens (Err (lex.OpenText p)) place h = absurd (cc)
  deep_tokens (Err (lex.NumberTooLarge p)) place h = absurd (cc)
  deep_tokens (Err lex.Memory) place h = absurd (cc)

  refused_tokens : (l : Result TokenList LexRefusal) (place : Place) → query_file_in graphs l ≡ Err (Text (Syntax place))
      → (list : TokenList) × (l ≡ Ok list) × ((k : ℕ) × (parsed list.tokens ≡ Err (parse.Syntax k)) × (token_place list.places k ≡ place))
  refused_tokens (Ok list) place h = (list, refl, refused_parse (names_among list.tokens) list.places (parsed list.tokens) place h)
  refused_tokens (Err (lex.NotUtf8 p)) place h = absurd (cc)
  refused_tokens (Err (lex.BadCharacter p)) place h = absurd (cc)
  refused_tokens (Err (lex.OpenText p)) place h = absurd (cc)
  refused_tokens (Err (lex.NumberTooLarge p)) place h = absurd (cc)
  refused_tokens (Err lex.Memory) place h = absurd (cc)

  broken_tokens : (l : Result TokenList LexRefusal) (rule : SortRule) (place : Place) → query_file_in graphs l ≡ Err (Sorts rule place)
      → (list : TokenList) × (statements : List (Tree AStatement)) × (breach : Breach) × (l ≡ Ok list) × (parsed list.tokens ≡ Ok statements) × (first_breach graphs (row statements) ≡ Some breach) × (rule ≡ breach.rule) × (place ≡ breach_place list.places breach)
  broken_tokens (Ok list) rule place h =
      let found = broken_parse (names_among list.tokens) list.places (parsed list.tokens) rule place h in
      (list, found.0, found.1, refl, found.2, found.3, found.4, found.5)
  broken_tokens (Err (lex.NotUtf8 p)) rule place h = absurd (cc)
  broken_tokens (Err (lex.BadCharacter p)) rule place h = absurd (cc)
  broken_tokens (Err (lex.OpenText p)) rule place h = absurd (cc)
  broken_tokens (Err (lex.NumberTooLarge p)) rule place h = absurd (cc)
  broken_tokens (Err lex.Memory) rule place h = absurd (cc)

  -- the statements that are spelled are tested against the sort rules
  asked_as_sorted : (text : List ℕ) (list : TokenList) (statements : List (Tree AStatement)) → lexed text ≡ Ok list → IsDepthFault list.tokens None → SpellsFile list.tokens statements
      → query_file_of graphs text ≡ sorted_at list.places (file_over graphs (names_among list.tokens) statements)
  asked_as_sorted text list statements h none spelled =
      ap (query_file_in graphs) h ∙ ap (query_file_at graphs (names_among list.tokens) list.places) (parses.spelled list.tokens statements none spelled)

  -- the laws of query files
  pub asked_as_spelled : (text : List ℕ) (list : TokenList) (statements : List (Tree AStatement)) → lexed text ≡ Ok list → IsDepthFault list.tokens None → SpellsFile list.tokens statements
      → first_breach graphs (row statements) ≡ None → query_file_of graphs text ≡ Ok (at_places list.places (file_over graphs (names_among list.tokens) statements))
  asked_as_spelled text list statements h none spelled sorted =
      asked_as_sorted text list statements h none spelled ∙ ap (unless_broken list.places (file_over graphs (names_among list.tokens) statements)) sorted

  pub told_as_broken : (text : List ℕ) (list : TokenList) (statements : List (Tree AStatement)) (breach : Breach) → lexed text ≡ Ok list → IsDepthFault list.tokens None → SpellsFile list.tokens statements
      → first_breach graphs (row statements) ≡ Some breach → query_file_of graphs text ≡ Err (Sorts breach.rule (breach_place list.places breach))
  told_as_broken text list statements breach h none spelled broken =
      asked_as_sorted text list statements h none spelled ∙ ap (unless_broken list.places (file_over graphs (names_among list.tokens) statements)) broken

  pub broken_as_told : (text : List ℕ) (rule : SortRule) (place : Place) → query_file_of graphs text ≡ Err (Sorts rule place)
      → (list : TokenList) × (statements : List (Tree AStatement)) × (breach : Breach) × (lexed text ≡ Ok list) × IsDepthFault list.tokens None × SpellsFile list.tokens statements
      × (first_breach graphs (row statements) ≡ Some breach) × (rule ≡ breach.rule) × (place ≡ breach_place list.places breach)
  broken_as_told text rule place h =
      let found = broken_tokens (lexed text) rule place h in
      let spells = parses.spells found.0.tokens found.1 found.4 in
      (found.0, found.1, found.2, found.3, spells.0, spells.1, found.5, found.6, found.7)

  pub asked_too_deep : (text : List ℕ) (place : Place) → query_file_of graphs text ≡ Err (Text (TooDeep place))
      → (list : TokenList) × (k : ℕ) × (lexed text ≡ Ok list) × (slice_get list.places k ≡ Some place) × IsDepthFault list.tokens (Some k)
  asked_too_deep text place h =
      let found = deep_tokens (lexed text) place h in
      let list = found.0 in
      let k = found.2.0 in
      let fault = parses.deep list.tokens k found.2.1 in
      let within = deep_within list.tokens k fault in
      let count = places_count text list found.1 in
      (list, k, found.1, item_there list.places k place first_place (omega (arith, count, within)) found.2.2, fault)

  pub asked_refused : (text : List ℕ) (place : Place) → query_file_of graphs text ≡ Err (Text (Syntax place))
      → (list : TokenList) × (k : ℕ) × (lexed text ≡ Ok list) × (slice_get list.places k ≡ Some place) × IsRefusedAt SpellsFile list.tokens k
  asked_refused text place h =
      let found = refused_tokens (lexed text) place h in
      let list = found.0 in
      let k = found.2.0 in
      let refused = parses.refused list.tokens k found.2.1 in
      let within = refused.0 in
      let count = places_count text list found.1 in
      (list, k, found.1, item_there list.places k place first_place (omega (arith, count, within)) found.2.2, refused)
