-- The canonical text of a graph is UTF-8.
use Rattle.std.proofs.Common.{◌≡◌, ℕ, suc, pos, negsuc, Bool, true, false, List, [], ◌∷◌, map, refl, arith}
use Rattle.std.proofs.lemmas.Fmt.{IsAscii-decimal}
use Rattle.std.proofs.lemmas.Str.{IsUtf8-append, IsUtf8-nil, IsUtf8-from_ascii}
use Rattle.std.specs.List.{AllByRecursion}
use Rattle.std.specs.Prelude.{⊤, decimal}
use Rattle.std.specs.Str.{IsUtf8}
use Rattle.gc_base.specs.Literals.{IsLiteral}
use Rattle.gc_base.specs.PropertyLists.{IsProperty}
use Rattle.gc_base.specs.Words.{is_word}
use Rattle.gc_base.specs.declared.literal.Literal.{Literal}
use Rattle.gc_base.specs.declared.literal.Literal.TheVariants.{Truth, Number, Text}
use Rattle.gc_base.specs.declared.properties.Property.{Property}
use Rattle.gc_base.specs.declared.walk.Step.{Step}
use Rattle.gc_spec.specs.PropertyGraph.{Node, Edge, Path, PropertyGraph, IsNode, IsEdge, IsPath, IsGraph}
use Rattle.json.specs.Print.{quoted}
use Rattle.json.proofs.Printed.Utf8.{IsUtf8-are_ascii, IsUtf8-boolean, IsUtf8-quoted}
use Rattle.serde_json.specs.Data.{Num, unsigned, negative, float, Data, null, boolean, number, string, array, object, Items, no_items, item, Members, no_members, member}
use Rattle.serde_json.specs.View.{items_of}
use Rattle.serde_json.specs.Written.{number_text, comma_if, compact_text, items_text, members_text}
use Rattle.gc_json.specs.CanonicalText.{literal_data, property_members, step_items, node_data, edge_data, path_data, graph_data, canonical_text}
use Rattle.gc_json.proofs.GraphsReadBack.{graph_exact}
use Rattle.gc_json.proofs.ReadsBack.{IsWhole, IsExact, ItemsAreExact, MembersAreExact}
use Rattle.gc_json.proofs.WordTexts.{IsUtf8-word}

-- texts and keys are UTF-8
abbrev mutual
  pub IsPlain : Data → Type 0
  IsPlain null = ⊤
  IsPlain (boolean b) = ⊤
  IsPlain (number n) = ⊤
  IsPlain (string s) = IsUtf8 s
  IsPlain (array ds) = ItemsArePlain ds
  IsPlain (object ms) = MembersArePlain ms

  pub ItemsArePlain : Items → Type 0
  ItemsArePlain no_items = ⊤
  ItemsArePlain (item d ds) = IsPlain d × ItemsArePlain ds

  pub MembersArePlain : Members → Type 0
  MembersArePlain no_members = ⊤
  MembersArePlain (member k d ms) = IsUtf8 k × IsPlain d × MembersArePlain ms

utf8_number : (n : Num) → IsWhole n → IsUtf8 (number_text n)
utf8_number (unsigned n) h = IsUtf8-from_ascii (decimal n) (IsAscii-decimal n h)
utf8_number (negative (pos n)) h = absurd h
utf8_number (negative (negsuc n)) h = IsUtf8-append (45 ∷ []) (decimal (suc n)) (IsUtf8-are_ascii (45 ∷ []) refl) (IsUtf8-from_ascii (decimal (suc n)) (IsAscii-decimal (suc n) (omega arith)))
utf8_number (float x) h = absurd h

utf8_comma : (later : Bool) → IsUtf8 (comma_if later)
utf8_comma true = IsUtf8-are_ascii (44 ∷ []) refl
utf8_comma false = IsUtf8-nil

mutual
  pub utf8_text : (d : Data) → IsExact d → IsPlain d → IsUtf8 (compact_text d)
  utf8_text null e h = IsUtf8-are_ascii _ refl
  utf8_text (boolean b) e h = IsUtf8-boolean b
  utf8_text (number n) e h = utf8_number n e
  utf8_text (string s) e h = IsUtf8-quoted s h
  utf8_text (array ds) e h = IsUtf8-append (91 ∷ []) (items_text false ds) (IsUtf8-are_ascii (91 ∷ []) refl) (utf8_items false ds e h)
  utf8_text (object ms) e h = IsUtf8-append (123 ∷ []) (members_text false ms) (IsUtf8-are_ascii (123 ∷ []) refl) (utf8_members false ms e h)

  utf8_items : (later : Bool) (ds : Items) → ItemsAreExact ds → ItemsArePlain ds → IsUtf8 (items_text later ds)
  utf8_items later no_items e h = IsUtf8-are_ascii (93 ∷ []) refl
  utf8_items later (item d ds) e h =
      IsUtf8-append (comma_if later) _ (utf8_comma later) (IsUtf8-append (compact_text d) (items_text true ds) (utf8_text d e.0 h.0) (utf8_items true ds e.1 h.1))

  utf8_members : (later : Bool) (ms : Members) → MembersAreExact ms → MembersArePlain ms → IsUtf8 (members_text later ms)
  utf8_members later no_members e h = IsUtf8-are_ascii (125 ∷ []) refl
  utf8_members later (member k d ms) e h =
      let rest = IsUtf8-append (compact_text d) (members_text true ms) (utf8_text d e.0 h.1) (utf8_members true ms e.2 h.2) in
      IsUtf8-append (comma_if later) _ (utf8_comma later) (IsUtf8-append (quoted k) _ (IsUtf8-quoted k h.0) (IsUtf8-append (58 ∷ []) _ (IsUtf8-are_ascii (58 ∷ []) refl) rest))

-- ---- the data of a graph are plain

pub key_utf8 : (k : List ℕ) → is_word k ≡ true → IsUtf8 k
key_utf8 k h = IsUtf8-word k h

pub items_plain : {X : Type 0} (f : X → Data) (P : X → Type 0) → ((x : X) → P x → IsPlain (f x)) → (xs : List X) → AllByRecursion P xs → ItemsArePlain (items_of (map f xs))
items_plain f P each [] h = tt
items_plain f P each (x ∷ xs) h = (each x h.0, items_plain f P each xs h.1)

literal_plain : (l : Literal) → IsLiteral l → IsPlain (literal_data l)
literal_plain (Truth t) h = tt
literal_plain (Number n) h = tt
literal_plain (Text t) h = h

labels_plain : (labels : List (List ℕ)) → AllByRecursion (λ label. is_word label ≡ true) labels → ItemsArePlain (items_of (map string labels))
labels_plain labels h = items_plain string (λ label. is_word label ≡ true) (λ label w. IsUtf8-word label w) labels h

properties_plain : (ps : List Property) → AllByRecursion IsProperty ps → MembersArePlain (property_members ps)
properties_plain [] h = tt
properties_plain (p ∷ ps) h = (IsUtf8-word p.name h.0.name, items_plain literal_data IsLiteral literal_plain p.values h.0.values.literals, properties_plain ps h.1)

pub steps_plain : (steps : List Step) → ItemsArePlain (step_items steps)
steps_plain [] = tt
steps_plain (step ∷ steps) = (tt, (tt, steps_plain steps))

node_plain : (n : Node) → IsNode n → IsPlain (node_data n)
node_plain n h = (key_utf8 _ refl, tt, (key_utf8 _ refl, labels_plain n.labels h.labels.words, (key_utf8 _ refl, properties_plain n.properties h.properties.each, tt)))

edge_plain : (g : PropertyGraph) (e : Edge) → IsEdge g.nodes e → IsPlain (edge_data e)
edge_plain g e h = (
  key_utf8 _ refl,
  tt,
  (
    key_utf8 _ refl,
    tt,
    (key_utf8 _ refl, labels_plain e.labels h.labels.words, (key_utf8 _ refl, properties_plain e.properties h.properties.each, (key_utf8 _ refl, tt, tt))),
  ),
)

path_plain : (g : PropertyGraph) (p : Path) → IsPath g.nodes g.edges p → IsPlain (path_data p)
path_plain g p h = (
  key_utf8 _ refl,
  tt,
  (
    key_utf8 _ refl,
    labels_plain p.labels h.labels.words,
    (key_utf8 _ refl, properties_plain p.properties h.properties.each, (key_utf8 _ refl, (tt, steps_plain p.walk.steps), tt)),
  ),
)

pub graph_plain : (g : PropertyGraph) → IsGraph g → IsPlain (graph_data g)
graph_plain g h = (
  key_utf8 _ refl,
  items_plain edge_data (IsEdge g.nodes) (edge_plain g) g.edges h.edges,
  (
    key_utf8 _ refl,
    tt,
    (
      key_utf8 _ refl,
      items_plain node_data IsNode node_plain g.nodes h.nodes,
      (key_utf8 _ refl, items_plain path_data (IsPath g.nodes g.edges) (path_plain g) g.paths h.paths, tt),
    ),
  ),
)

pub IsUtf8-canonical_text : (g : PropertyGraph) → IsGraph g → IsUtf8 (canonical_text g)
IsUtf8-canonical_text g h = utf8_text (graph_data g) (graph_exact g h) (graph_plain g h)
