-- A query file that is read is built.
use Rattle.std.proofs.Common.{◌≡◌, ℕ, List, Option, Some, None, Result, Ok, Err, refl, subst}
use Rattle.std.specs.Prelude.{IfOk}
use Rattle.gc_base.specs.declared.place.Place.{Place}
use Rattle.gc_lex.specs.declared.refusal.LexRefusal.{LexRefusal}
use Rattle.gc_lex.specs.declared.token.Token.{Token}
use Rattle.gc_lex.specs.Lexis.{TokenList, lexed}
use Rattle.gc_ast.specs.Trees.{Tree, AStatement, row}
use Rattle.gc_parse.specs.declared.refusal.ParseRefusal.{ParseRefusal}
use Rattle.gc_parse.specs.Parses.{parsed}
use Rattle.gc_parse.specs.Depths.{IsDepthFault}
use Rattle.gc_parse_source.specs.Sources.{names_among}
use Rattle.gc_sorts.specs.declared.breach.Breach.{Breach}
use Rattle.gc_sorts.specs.declared.checked.Checked.{Checked}
use Rattle.gc_sorts.specs.SortRules.{first_breach}
use Rattle.gc_grammar.specs.Queries.{SpellsFile}
use Rattle.gc_lower.specs.Namings.{QueryFile, file_of}
use Rattle.gc_query.specs.Built.{AreBuilt}
use Rattle.gc_query.specs.Expressions.{EachHasParts}
use Rattle.gc_query.specs.InOrder.{IsInOrder}
use Rattle.gcore.specs.QueryFiles.{IsFileOf, PlacedFile, file_over, placed, query_file_at, query_file_in, query_file_of, unless_broken}
use Rattle.gcore.specs.declared.stop.Stop.{Stop}
use Rattle.gcore.proofs.SpelledOrder.{Widens, spelled_order}
use Rattle.gcore.proofs.SpelledQueries.{spelled_parts}

same_given : (a b : PlacedFile) → ◌≡◌ {A = Result PlacedFile Stop} (Ok a) (Ok b) → a ≡ b
same_given a b h = cc

-- what is parsed is spelled
abbrev pub Spells : Type 0
Spells = (ts : List Token) (statements : List (Tree AStatement)) → parsed ts ≡ Ok statements → IsDepthFault ts None × SpellsFile ts statements

-- a file that breaks no rule is built
abbrev pub Builds : Type 0
Builds = (f : QueryFile) (upto : ℕ) → EachHasParts (row f.statements) → IsInOrder f.names 0 (row f.statements) upto → first_breach f.graphs (row f.statements) ≡ None → AreBuilt f

-- a query file that is read is built
abbrev pub ReadsBuilt : Type 0
ReadsBuilt = (graphs : List (List ℕ)) (text : List ℕ) (query : PlacedFile) → query_file_of graphs text ≡ Ok query → AreBuilt query.file

module _ (spells : Spells) (builds : Builds) (widens : Widens) (graphs : List (List ℕ)) where
  sorted_built : (names : List (List ℕ)) (places : List Place) (statements : List (Tree AStatement)) (found : Option Breach) → first_breach graphs (row statements) ≡ found → EachHasParts (row statements)
      → (upto : ℕ) → IsInOrder names 0 (row statements) upto → (query : PlacedFile) → unless_broken places (file_over graphs names statements) found ≡ Ok query → AreBuilt query.file
  sorted_built names places statements None is parts upto order query h =
      let file = file_over graphs names statements in
      subst (λ (q : PlacedFile). AreBuilt q.file) (same_given (record { file = file; places = places }) query h) (builds file upto parts order is)
  sorted_built names places statements (Some breach) is parts upto order query h = absurd (cc)

  parse_built : (places : List Place) (tokens : List Token) (r : Result (List (Tree AStatement)) ParseRefusal) → parsed tokens ≡ r → (query : PlacedFile)
      → query_file_at graphs (names_among tokens) places r ≡ Ok query → AreBuilt query.file
  parse_built places tokens (Ok statements) is query h =
      let spelled = spells tokens statements is in
      let order = spelled_order widens tokens statements spelled.1 in
      sorted_built (names_among tokens) places statements (first_breach graphs (row statements)) refl (spelled_parts tokens statements spelled.1) order.0 order.1 query h
  parse_built places tokens (Err refusal) is query h = absurd (cc)

  tokens_built : (l : Result TokenList LexRefusal) (query : PlacedFile) → query_file_in graphs l ≡ Ok query → AreBuilt query.file
  tokens_built (Ok list) query h = parse_built list.places list.tokens (parsed list.tokens) refl query h
  tokens_built (Err refusal) query h = absurd (cc)

  -- the law of query files
  pub query_built : (text : List ℕ) (query : PlacedFile) → query_file_of graphs text ≡ Ok query → AreBuilt query.file
  query_built text query h = tokens_built (lexed text) query h

-- the file of a text
pub file_is_built : ReadsBuilt → (graphs : List (List ℕ)) (text : List ℕ) (r : Result Checked Stop) → IsFileOf (query_file_of graphs text) r → IfOk r (λ checked. AreBuilt (file_of checked))
file_is_built built graphs text (Ok checked) h = built graphs text (placed checked) h
file_is_built built graphs text (Err stop) h = tt
