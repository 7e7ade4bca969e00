-- The text of a certificate is read as its data.
use Rattle.std.proofs.Common.{◌≡◌, pos, negsuc, List, [], ◌∷◌, ◌++◌, Some, option_and_then, refl, sym, ap, ◌∙◌, arith}
use Rattle.std.proofs.lemmas.Str.{IsUtf8-append, is_utf8-from_IsUtf8}
use Rattle.std.specs.List.{AllByRecursion}
use Rattle.json.specs.Json as json
use Rattle.json.specs.Lex.{tokens}
use Rattle.json.specs.Print.{IsNumber}
use Rattle.json.specs.Tree as tree
use Rattle.json.proofs.Printed.Decimals.{IsNumber-decimal, IsNumber-signed_decimal}
use Rattle.json.proofs.Printed.Tokens.{tokens-print}
use Rattle.json.proofs.Printed.Trees.{ArePrintable-json_tokens}
use Rattle.json.proofs.Printed.Utf8.{IsUtf8-are_ascii}
use Rattle.gc_json.specs.JsonValues.{value_of}
use Rattle.gc_json.proofs.ReadsBack.{IsExact, IsWhole, ItemsAreExact, MembersAreExact, read-compact_text}
use Rattle.gc_json.proofs.Utf8Texts.{utf8_text}
use Rattle.serde_json.specs.Data.{Num, unsigned, negative, float, Data, null, boolean, number, string, array, object, Items, no_items, item, Members, no_members, member}
use Rattle.serde_json.specs.Read.{max_depth, of_json, read}
use Rattle.serde_json.specs.Written.{compact_text, items_outline, members_outline, number_text, outline}
use Rattle.serde_json.proofs.Texts.{print-outline}
use Rattle.gc_cert_text.specs.Certificates.{SearchTold}
use Rattle.gc_cert_text.specs.CertificateTexts.{certificate_data, certificate_text}
use Rattle.gc_cert_text.specs.WritableSearches.{IsWritable}
use Rattle.gc_cert_text.proofs.LineFeeds.{tokens_line}
use Rattle.gc_cert_text.proofs.WrittenExact.{certificate_exact, certificate_flat, certificate_plain}

-- ---- the numbers of exact data are numbers

a_number : (n : Num) → IsWhole n → IsNumber (number_text n)
a_number (unsigned n) h = IsNumber-decimal n h
a_number (negative (pos n)) h = absurd h
a_number (negative (negsuc n)) h = IsNumber-signed_decimal (negsuc n) h
a_number (float x) h = absurd h

mutual
  numbers : (d : Data) → IsExact d → tree.HasNumbers (outline d)
  numbers null h = tt
  numbers (boolean b) h = tt
  numbers (number n) h = a_number n h
  numbers (string s) h = tt
  numbers (array ds) h = items_numbers ds h
  numbers (object ms) h = members_numbers ms h

  items_numbers : (ds : Items) → ItemsAreExact ds → tree.ItemsHaveNumbers (items_outline ds)
  items_numbers no_items h = tt
  items_numbers (item d ds) h = (numbers d h.0, items_numbers ds h.1)

  members_numbers : (ms : Members) → MembersAreExact ms → tree.MembersHaveNumbers (members_outline ms)
  members_numbers no_members h = tt
  members_numbers (member k d ms) h = (numbers d h.0, members_numbers ms h.2)

-- ---- a line feed changes nothing

read_line : (d : Data) → IsExact d → read (compact_text d ++ 10 ∷ []) ≡ read (compact_text d)
read_line d exact =
    let ts = tree.json_tokens (outline d) in
    let printable = ArePrintable-json_tokens (outline d) (numbers d exact) in
    let same : tokens (compact_text d ++ 10 ∷ []) ≡ tokens (compact_text d) =
    ap (λ text. tokens (text ++ 10 ∷ [])) (sym (print-outline d)) ∙ (tokens_line ts printable ∙ (sym (tokens-print ts printable) ∙ ap tokens (print-outline d))) in
    ap (λ l. option_and_then of_json (option_and_then (λ p. json.if_last p.0 p.1) (json.value max_depth l))) same

pub value_back : (searches : List SearchTold) → AllByRecursion IsWritable searches → value_of (certificate_text searches) ≡ Some (certificate_data searches)
value_back searches h =
    let d = certificate_data searches in
    let exact = certificate_exact searches h in
    let line = IsUtf8-append (compact_text d) (10 ∷ []) (utf8_text d exact (certificate_plain searches h)) (IsUtf8-are_ascii (10 ∷ []) refl) in
    rw (is_utf8-from_IsUtf8 (certificate_text searches) line) (read_line d exact ∙ read-compact_text d exact (omega (arith, certificate_flat searches)))
