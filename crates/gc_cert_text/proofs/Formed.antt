-- What a certificate tells is formed.
use Rattle.std.proofs.Common.{◌≡◌, ℕ, ◌+◌, ◌<◌, ◌≤◌, Bool, true, false, nat_lt, nat_le, List, [], ◌∷◌, length, Option, Some, None, Result, Ok, Err, refl, ap, ◌∙◌, subst, arith, codes, if◌then◌else◌}
use Rattle.std.proofs.lemmas.Bool.{and_parts}
use Rattle.std.proofs.lemmas.Bool.Decides.{nat_tests}
use Rattle.std.specs.List.{AllByRecursion}
use Rattle.gc_automata.specs.Automata.{automaton_of}
use Rattle.gc_automata.specs.Moves.{Segment}
use Rattle.gc_json.specs.JsonValues.{value_of}
use Rattle.gc_json.specs.Reading as reading
use Rattle.gc_json.specs.Reading.{or_refused}
use Rattle.gc_lex.specs.Lexis.{lexed}
use Rattle.gc_prod.specs.Segments.{AreSegments}
use Rattle.gc_regx.specs.Expressions.{IsExpression}
use Rattle.gc_regx.specs.Trees.{RegexTree, ARegex}
use Rattle.gc_spec.specs.PropertyGraph.{PropertyGraph, is_walk}
use Rattle.serde_json.specs.Data.{Data, Items, no_items, item}
use Rattle.serde_json.specs.Find.{get, as_str}
use Rattle.gc_cert_text.specs.Certificates.{SearchTold, certificate_of, certificate_of_data, search_of, searches_from, searches_in, tree_in}
use Rattle.gc_cert_text.specs.Expressions.{expression_in, is_small, small_tree_of_tokens, tree_of_text, tree_of_tokens}
use Rattle.gc_cert_text.specs.FormedSearches.{IsFormedSearch}
use Rattle.gc_cert_text.specs.Graphs.{graph_in}
use Rattle.gc_cert_text.specs.Nesting.{nesting_of}
use Rattle.gc_cert_text.specs.Options.{◌>>=◌, found, if_so, each_of, list_at, array_at}
use Rattle.gc_cert_text.specs.SearchNumberTexts.{numbers_in}
use Rattle.gc_cert_text.specs.SegmentsOfGraphs.{are_segments_of, is_segment_cost, is_segment_of, segment_cost_in, segment_in, segments_in, view_in}
use Rattle.gc_cert_text.specs.Numbers.{cost_in, walk_at}
use Rattle.gc_cert_text.specs.Shapes.{has_document_shape}
use Rattle.gc_cert_text.specs.declared.refusal.CertRefusal.TheVariants.{NotJson, WrongShape, BadGraph, BadExpression, BadSegment, BadNumber}
use Rattle.gc_cert_text.proofs.ExpressionTexts.{tree_spelled}
use Rattle.gc_cert_text.proofs.FoundLaws.{was_found}
use Rattle.gc_cert_text.proofs.SpelledNesting.{spelled_nests}
use Rattle.gc_print.proofs.GrammarGives.{regex_gives}
use Rattle.gc_print.proofs.LexedWords.{lexed_written}

-- ---- what was found or given by steps was so by each

pub went : {A B F : Type 0} (r : Result A F) (f : A → Result B F) (y : B) → reading.◌>>=◌ r f ≡ Ok y → (x : A) × (r ≡ Ok x) × (f x ≡ Ok y)
went (Ok x) f y h = (x, refl, h)
went (Err e) f y h = absurd (cc)

pub was_there : {A F : Type 0} (e : F) (o : Option A) (x : A) → or_refused e o ≡ Ok x → o ≡ Some x
was_there e None x h = absurd (cc)
was_there e (Some y) x h = ap Some same
  where
    same : y ≡ x
    same = cc

pub went_on : {A B : Type 0} (o : Option A) (f : A → Option B) (y : B) → (o >>= f) ≡ Some y → (x : A) × (o ≡ Some x) × (f x ≡ Some y)
went_on None f y h = absurd (cc)
went_on (Some x) f y h = (x, refl, h)

pub passed : {A : Type 0} (test : A → Bool) (x y : A) → if_so test x ≡ Some y → (test x ≡ true) × (x ≡ y)
passed test x y h = by (test x) refl h
  where
    by : (b : Bool) → test x ≡ b → (if b then Some x else None) ≡ Some y → (test x ≡ true) × (x ≡ y)
    by true is e = (is, cc)
    by false is e = absurd (cc)

-- ---- an expression

small : (tree : RegexTree ARegex) → is_small tree ≡ true → (automaton_of {k = ARegex} tree).states ≤ 1024
small tree h = grind (arith, nat_tests)

record IsFormedTree (tree : RegexTree ARegex) : Type 0 where
  pub expression : IsExpression tree
  pub few : (automaton_of {k = ARegex} tree).states ≤ 1024
  pub shallow : nesting_of {k = ARegex} tree ≤ 64

text_formed : (text : List ℕ) (tree : RegexTree ARegex) → tree_of_text text ≡ Some tree → IsFormedTree tree
text_formed text tree h =
    let list = went_on (found (lexed text)) (λ l. small_tree_of_tokens l.tokens) tree h in
    let whole = went_on (tree_of_tokens list.0.tokens) (if_so is_small) tree list.2 in
    let is = passed is_small whole.0 tree whole.2 in
    let spelled = tree_spelled list.0.tokens whole.0 whole.1 in
    let given : IsExpression whole.0 = regex_gives list.0.tokens whole.0 (lexed_written text list.0 (was_found (lexed text) list.0 list.1)) spelled.1 in
    subst IsFormedTree is.1 (record { expression = given; few = small whole.0 is.0; shallow = spelled_nests list.0.tokens whole.0 spelled.0 spelled.1 })

tree_formed : (d : Data) (tree : RegexTree ARegex) → tree_in d ≡ Some tree → IsFormedTree tree
tree_formed d tree h =
    let value = went_on (get (codes "expression") d) expression_in tree h in
    let text = went_on (as_str value.0) tree_of_text tree value.2 in
    text_formed text.0 tree text.2

-- ---- segments

positive : (c : ℕ) → is_segment_cost c ≡ true → 0 < c
positive c h = let one = (and_parts (nat_le 1 c) (nat_le c 9223372036854775807) h).0 in grind (arith, nat_tests)

segment_costs : (d : Data) (s : Segment) → segment_in d ≡ Some s → 0 < s.cost
segment_costs d s h =
    let view = went_on (view_in d) _ s h in
    let walk = went_on (walk_at (codes "walk") d) _ s view.2 in
    let cost = went_on (get (codes "cost") d >>= segment_cost_in) _ s walk.2 in
    let value = went_on (get (codes "cost") d) segment_cost_in cost.0 cost.1 in
    let number = went_on (cost_in value.0) (if_so is_segment_cost) cost.0 value.2 in
    let is = passed is_segment_cost number.0 cost.0 number.2 in
    let same : cost.0 ≡ s.cost = cc in
    subst (λ c. 0 < c) (is.1 ∙ same) (positive number.0 is.0)

each_costs : (ds : Items) (segments : List Segment) → each_of segment_in ds ≡ Some segments → AllByRecursion (λ s. 0 < s.cost) segments
each_costs no_items [] h = tt
each_costs no_items (s ∷ ss) h = absurd (cc)
each_costs (item d ds) segments h =
    let first = went_on (segment_in d) _ segments h in
    let rest = went_on (each_of segment_in ds) _ segments first.2 in
    let same : first.0 ∷ rest.0 ≡ segments = cc in
    subst (AllByRecursion (λ s. 0 < s.cost)) same (segment_costs d first.0 first.1, each_costs ds rest.0 rest.1)

each_formed : (g : PropertyGraph) (segments : List Segment) → AllByRecursion (λ s. 0 < s.cost) segments → are_segments_of g segments ≡ true → AreSegments g segments
each_formed g [] costs h = tt
each_formed g (s ∷ ss) costs h =
    let parts = and_parts (is_segment_of g s) (are_segments_of g ss) h in
    let one = and_parts (nat_lt 0 (length s.walk.steps)) (is_walk g.nodes g.edges s.walk) parts.0 in
    let long : 0 < length s.walk.steps = grind (arith, nat_tests) in
    (record { walk = one.1; moves = long; costs = costs.0 }, each_formed g ss costs.1 parts.1)

segments_formed : (g : PropertyGraph) (d : Data) (segments : List Segment) → segments_in g d ≡ Some segments → AreSegments g segments
segments_formed g d segments h =
    let list = went_on (list_at segment_in (codes "segments") d) (if_so (are_segments_of g)) segments h in
    let is = passed (are_segments_of g) list.0 segments list.2 in
    let items = went_on (array_at (codes "segments") d) (each_of segment_in) list.0 list.1 in
    subst (AreSegments g) is.1 (each_formed g list.0 (each_costs items.0 list.0 items.2) is.0)

-- ---- searches

search_formed : (i : ℕ) (d : Data) (s : SearchTold) → search_of i d ≡ Ok s → IsFormedSearch s
search_formed i d s h =
    let graph = went (or_refused (BadGraph i) (graph_in d)) _ s h in
    let tree = went (or_refused (BadExpression i) (tree_in d)) _ s graph.2 in
    let numbers = went (or_refused (BadNumber i) (numbers_in d)) _ s tree.2 in
    let segments = went (or_refused (BadSegment i) (segments_in graph.0 d)) _ s numbers.2 in
    let formed = tree_formed d tree.0 (was_there (BadExpression i) (tree_in d) tree.0 tree.1) in
    let are = segments_formed graph.0 d segments.0 (was_there (BadSegment i) (segments_in graph.0 d) segments.0 segments.1) in
    let same : record { expression = tree.0; graph = graph.0; potentials = numbers.0.potentials; segments = segments.0; start = numbers.0.start; walks = numbers.0.walks } ≡ s = cc in
    subst IsFormedSearch same (record { expression = formed.expression; few = formed.few; shallow = formed.shallow; segments = are })

searches_formed : (i : ℕ) (ds : Items) (ss : List SearchTold) → searches_from i ds ≡ Ok ss → AllByRecursion IsFormedSearch ss
searches_formed i no_items [] h = tt
searches_formed i no_items (s ∷ ss) h = absurd (cc)
searches_formed i (item d ds) ss h =
    let first = went (search_of i d) _ ss h in
    let rest = went (searches_from (i + 1) ds) _ ss first.2 in
    let same : first.0 ∷ rest.0 ≡ ss = cc in
    subst (AllByRecursion IsFormedSearch) same (search_formed i d first.0 first.1, searches_formed (i + 1) ds rest.0 rest.1)

data_formed : (d : Data) (ss : List SearchTold) → certificate_of_data d ≡ Ok ss → AllByRecursion IsFormedSearch ss
data_formed d ss h = by (has_document_shape d) h
  where
    by : (b : Bool) → (if b then searches_in d else Err WrongShape) ≡ Ok ss → AllByRecursion IsFormedSearch ss
    by true e = let items = went (or_refused WrongShape (array_at (codes "searches") d)) (searches_from 0) ss e in searches_formed 0 items.0 ss items.2
    by false e = absurd (cc)

pub certificate_formed : (bytes : List ℕ) (ss : List SearchTold) → certificate_of bytes ≡ Ok ss → AllByRecursion IsFormedSearch ss
certificate_formed bytes ss h = let value = went (or_refused NotJson (value_of bytes)) certificate_of_data ss h in data_formed value.0 ss value.2
