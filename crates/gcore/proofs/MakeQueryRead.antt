-- The text of the query that is asked of a made graph is read: it has tokens, they spell one statement, and it breaks no sort rule.
use Rattle.std.proofs.Common.{◌≡◌, ℕ, zero, suc, ◌<◌, ◌&&◌, Bool, true, false, nat_lt, List, [], ◌∷◌, ◌++◌, length, Result, Ok, Err, is_ok, refl, ap, ◌∙◌, subst, arith}
use Rattle.std.specs.Prelude.{slice_index}
use Rattle.std.specs.List.{list_all}
use Rattle.std.specs.Str.{IsAscii, is_utf8}
use Rattle.std.proofs.lemmas.Bool.Decides.{nat_tests}
use Rattle.std.proofs.lemmas.Str.{IsUtf8-from_ascii, is_utf8-from_IsUtf8}
use Rattle.gc_automata.specs.Automata.{automaton_of}
use Rattle.gc_lex.specs.Lexis.{lexed, tokens_within}
use Rattle.gc_parse.specs.Parses.{parsed}
use Rattle.gc_parse_readers.specs.ConstructReaders.{read_assign, read_assigns, read_assigns_if, read_group, read_new_label, read_new_labels, read_celement, read_cnode, read_clink, read_cchain, read_sub, read_chain_item, read_item}
use Rattle.gc_parse_readers.specs.ExpressionReaders.{read_literal, read_prim, read_suffix, read_post, read_neg, read_prod, read_sum, read_cmp, read_not, read_and, read_expr, read_formula}
use Rattle.gc_parse_readers.specs.PatternReaders.{read_labels, read_label_groups, read_property_uses, read_name_if, read_element, read_node, read_angled, read_count, read_reach, read_cost_if, read_found, read_pathbody, read_in_slashes, read_path, read_link, read_linked, read_chain, read_on_if, read_located}
use Rattle.gc_parse_readers.specs.QueryReaders.{read_condition_if, read_where, read_block, read_optional_block, read_basic, read_term, read_head, read_next_term, read_query, nested, read_statement, read_unless_end, read_later, read_file}
use Rattle.gc_parse_readers.specs.RegexReaders.{read_label, read_atom, read_star, read_cat, read_alt, read_regex}
use Rattle.gc_sorts.specs.Blocks.{blocks}
use Rattle.gc_sorts.specs.Expressions.{expression_breaches}
use Rattle.gc_sorts.specs.Occurrences.{occurrences}
use Rattle.gc_sorts.specs.Scopes.{behind}
use Rattle.gc_sorts.specs.SortRules.{breaches}
use Rattle.gcore.specs.MakeQueries.{made_name, make_query}
use Rattle.gc_sorts.specs.declared.checked.Checked.{Checked}
use Rattle.gcore.specs.QueryFiles.{IsFileOf, PlacedFile, query_file_in, query_file_of}
use Rattle.gcore.specs.declared.stop.Stop.{Stop}
use Rattle.gcore.specs.declared.stop.Stop.TheVariants.{Usage, Unread, TooLarge, Refused, Text, Sorts, Certificate, Rejected, Faulted, Unwritten, OutOfMemory}

-- whether a byte is ASCII
is_low : ℕ → Bool
is_low b = nat_lt b 128

split : (a b : Bool) → (a && b) ≡ true → (a ≡ true) × (b ≡ true)
split true b h = (refl, h)
split false b h = absurd (cc)

are_low : (bytes : List ℕ) → list_all is_low bytes ≡ true → IsAscii bytes
unfolding is_low
are_low [] h i = omega arith
are_low (b ∷ bytes) h zero = let low = (split (is_low b) (list_all is_low bytes) h).0 in grind (arith, nat_tests)
are_low (b ∷ bytes) h (suc i) = are_low bytes (split (is_low b) (list_all is_low bytes) h).1 i

query_is_utf8 : is_utf8 make_query ≡ true
unfolding make_query is_low
query_is_utf8 = is_utf8-from_IsUtf8 make_query (IsUtf8-from_ascii make_query (are_low make_query refl))

lexed_whole : lexed make_query ≡ tokens_within (length make_query) make_query 0
unfolding lexed
lexed_whole = rw query_is_utf8 refl

read_well : is_ok (query_file_in (made_name ∷ []) (tokens_within (length make_query) make_query 0)) ≡ true
unfolding tokens_within make_query automaton_of parsed read_assign read_assigns read_assigns_if read_group read_new_label read_new_labels read_celement read_cnode read_clink read_cchain read_sub read_chain_item read_item read_literal read_prim read_suffix read_post read_neg read_prod read_sum read_cmp read_not read_and read_expr read_formula read_labels read_label_groups read_property_uses read_name_if read_element read_node read_angled read_count read_reach read_cost_if read_found read_pathbody read_in_slashes read_path read_link read_linked read_chain read_on_if read_located read_condition_if read_where read_block read_optional_block read_basic read_term read_head read_next_term read_query nested read_statement read_unless_end read_later read_file read_label read_atom read_star read_cat read_alt read_regex blocks expression_breaches occurrences behind breaches
read_well = refl

what_is_read : (r : Result PlacedFile Stop) → is_ok r ≡ true → (file : PlacedFile) × (r ≡ Ok file)
what_is_read (Ok file) h = (file, refl)
what_is_read (Err stop) h = absurd (cc)

pub make_query_is_read : (file : PlacedFile) × (query_file_of (made_name ∷ []) make_query ≡ Ok file)
make_query_is_read =
    let read = what_is_read (query_file_in (made_name ∷ []) (tokens_within (length make_query) make_query 0)) read_well in
    (read.0, ap (query_file_in (made_name ∷ [])) lexed_whole ∙ read.1)

-- where a query is due, want of memory alone stops its reading
memory_alone : (due : Result PlacedFile Stop) (file : PlacedFile) → due ≡ Ok file → (stop : Stop) → IsFileOf due (Err stop) → stop ≡ OutOfMemory
memory_alone (Err refusal) file is stop h = absurd (cc)
memory_alone (Ok due) file is (Text refusal) h = absurd (cc)
memory_alone (Ok due) file is (Sorts rule place) h = absurd (cc)
memory_alone (Ok due) file is OutOfMemory h = refl
memory_alone (Ok due) file is Usage h = absurd h
memory_alone (Ok due) file is (Unread name) h = absurd h
memory_alone (Ok due) file is (TooLarge name) h = absurd h
memory_alone (Ok due) file is (Refused refusal name) h = absurd h
memory_alone (Ok due) file is (Certificate refusal) h = absurd h
memory_alone (Ok due) file is (Rejected search rule) h = absurd h
memory_alone (Ok due) file is (Faulted fault) h = absurd h
memory_alone (Ok due) file is Unwritten h = absurd h

pub only_memory : (stop : Stop) → IsFileOf (query_file_of (made_name ∷ []) make_query) (Err stop) → stop ≡ OutOfMemory
only_memory stop h = memory_alone (query_file_of (made_name ∷ []) make_query) make_query_is_read.0 make_query_is_read.1 stop h

-- what was read of this text over one name, that of the made graph
pub read_over : (names start : List (List ℕ)) (name text : List ℕ) (r : Result Checked Stop) → names ≡ start ++ name ∷ [] → start ≡ [] → name ≡ made_name → text ≡ make_query
    → IsFileOf (query_file_of names text) r → IsFileOf (query_file_of (made_name ∷ []) make_query) r
read_over names start name text r all none named same h =
    subst (λ t. IsFileOf (query_file_of (made_name ∷ []) t) r) same
    (subst (λ ns. IsFileOf (query_file_of ns text) r) (all ∙ (ap (λ xs. xs ++ name ∷ []) none ∙ ap (λ n. n ∷ []) named)) h)
