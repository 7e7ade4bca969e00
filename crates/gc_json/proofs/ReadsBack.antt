-- What is printed reads back: the text of a value without floats, whose keys ascend, is read as that value.
use Rattle.std.proofs.Common.{◌≡◌, ℕ, suc, ◌^◌, ◌<◌, ◌≤◌, max, pos, negsuc, List, [], Option, Some, option_map, option_and_then, Less, Greater, nat_cmp, refl, sym, ap, ap₂, ◌∙◌, subst, append-nil}
use Rattle.std.specs.Prelude.{⊤}
use Rattle.std.specs.Ordering.{ordering_reverse}
use Rattle.std.specs.Cmp.Lexicographic.{slice_cmp, nat_list_cmp_total}
use Rattle.json.specs.Token.{Token}
use Rattle.json.specs.Lex.{tokens}
use Rattle.json.specs.Print.{IsNumber}
use Rattle.json.specs.Json as json
use Rattle.json.specs.Tree as tree
use Rattle.json.proofs.Printed.Decimals.{IsNumber-decimal, IsNumber-signed_decimal}
use Rattle.json.proofs.Printed.Tokens.{tokens-print}
use Rattle.json.proofs.Printed.Trees.{value-json_tokens, ArePrintable-json_tokens}
use Rattle.serde_json.specs.Data.{Num, unsigned, negative, float, Data, null, boolean, number, string, array, object, Items, no_items, item, Members, no_members, member, put, depth, items_depth, members_depth}
use Rattle.serde_json.specs.Read.{number_of, of_json, of_items, of_members, read, max_depth}
use Rattle.serde_json.specs.Written.{number_text, outline, items_outline, members_outline, compact_text}
use Rattle.serde_json.proofs.Numbers.{number_of-decimal, number_of-negative}
use Rattle.serde_json.proofs.Texts.{print-outline}

-- a whole number of at most 64 bits
abbrev pub IsWhole : Num → Type 0
IsWhole (unsigned n) = n < 2 ^ 64
IsWhole (negative (pos n)) = ⊥
IsWhole (negative (negsuc n)) = n < 2 ^ 63
IsWhole (float x) = ⊥

-- a key is below each of these keys
abbrev pub IsBelow : List ℕ → Members → Type 0
IsBelow k no_members = ⊤
IsBelow k (member l d ms) = (slice_cmp nat_cmp k l ≡ Less) × IsBelow k ms

-- all numbers are whole, and the keys of each object ascend
abbrev mutual
  pub IsExact : Data → Type 0
  IsExact null = ⊤
  IsExact (boolean b) = ⊤
  IsExact (number n) = IsWhole n
  IsExact (string s) = ⊤
  IsExact (array ds) = ItemsAreExact ds
  IsExact (object ms) = MembersAreExact ms

  pub ItemsAreExact : Items → Type 0
  ItemsAreExact no_items = ⊤
  ItemsAreExact (item d ds) = IsExact d × ItemsAreExact ds

  pub MembersAreExact : Members → Type 0
  MembersAreExact no_members = ⊤
  MembersAreExact (member k d ms) = IsExact d × IsBelow k ms × MembersAreExact ms

-- ---- the outline nests as the value does, and its numbers are numbers

mutual
  depth-outline : (d : Data) → tree.depth (outline d) ≡ depth d
  depth-outline null = refl
  depth-outline (boolean b) = refl
  depth-outline (number n) = refl
  depth-outline (string s) = refl
  depth-outline (array ds) = ap suc (items_depth-outline ds)
  depth-outline (object ms) = ap suc (members_depth-outline ms)

  items_depth-outline : (ds : Items) → tree.items_depth (items_outline ds) ≡ items_depth ds
  items_depth-outline no_items = refl
  items_depth-outline (item d ds) = ap₂ max (depth-outline d) (items_depth-outline ds)

  members_depth-outline : (ms : Members) → tree.members_depth (members_outline ms) ≡ members_depth ms
  members_depth-outline no_members = refl
  members_depth-outline (member k d ms) = ap₂ max (depth-outline d) (members_depth-outline ms)

IsNumber-whole : (n : Num) → IsWhole n → IsNumber (number_text n)
IsNumber-whole (unsigned n) h = IsNumber-decimal n h
IsNumber-whole (negative (pos n)) h = absurd h
IsNumber-whole (negative (negsuc n)) h = IsNumber-signed_decimal (negsuc n) h
IsNumber-whole (float x) h = absurd h

mutual
  HasNumbers-outline : (d : Data) → IsExact d → tree.HasNumbers (outline d)
  HasNumbers-outline null h = tt
  HasNumbers-outline (boolean b) h = tt
  HasNumbers-outline (number n) h = IsNumber-whole n h
  HasNumbers-outline (string s) h = tt
  HasNumbers-outline (array ds) h = ItemsHaveNumbers-outline ds h
  HasNumbers-outline (object ms) h = MembersHaveNumbers-outline ms h

  ItemsHaveNumbers-outline : (ds : Items) → ItemsAreExact ds → tree.ItemsHaveNumbers (items_outline ds)
  ItemsHaveNumbers-outline no_items h = tt
  ItemsHaveNumbers-outline (item d ds) h = (HasNumbers-outline d h.0, ItemsHaveNumbers-outline ds h.1)

  MembersHaveNumbers-outline : (ms : Members) → MembersAreExact ms → tree.MembersHaveNumbers (members_outline ms)
  MembersHaveNumbers-outline no_members h = tt
  MembersHaveNumbers-outline (member k d ms) h = (HasNumbers-outline d h.0, MembersHaveNumbers-outline ms h.2)

-- ---- members that ascend go in one after another, each at the end

abbrev joined : Members → Members → Members
joined no_members more = more
joined (member k d ms) more = member k d (joined ms more)

-- each key of the first is below each key of the second
abbrev AreBelow : Members → Members → Type 0
AreBelow no_members ms = ⊤
AreBelow (member l e found) ms = IsBelow l ms × AreBelow found ms

joined-no_members : (found : Members) → joined found no_members ≡ found
joined-no_members no_members = refl
joined-no_members (member l e found) = ap (member l e) (joined-no_members found)

joined-joined : (found : Members) (k : List ℕ) (d : Data) (ms : Members) → joined (joined found (member k d no_members)) ms ≡ joined found (member k d ms)
joined-joined no_members k d ms = refl
joined-joined (member l e found) k d ms = ap (member l e) (joined-joined found k d ms)

below_more : (found : Members) (k : List ℕ) (d : Data) (ms : Members) → AreBelow found (member k d ms) → IsBelow k ms → AreBelow (joined found (member k d no_members)) ms
below_more no_members k d ms below h = (h, tt)
below_more (member l e found) k d ms below h = (below.0.1, below_more found k d ms below.1 h)

put_last : (found : Members) (k : List ℕ) (d : Data) (ms : Members) → AreBelow found (member k d ms) → put k d found ≡ joined found (member k d no_members)
put_last no_members k d ms below = refl
put_last (member l e found) k d ms below =
    let above : slice_cmp nat_cmp k l ≡ Greater = nat_list_cmp_total.antisymm k l ∙ ap ordering_reverse below.0.0 in
    rw above (ap (member l e) (put_last found k d ms below.1))

-- ---- the outline is read as the value

number_of-whole : (n : Num) → IsWhole n → number_of (number_text n) ≡ Some n
number_of-whole (unsigned n) h = number_of-decimal n h
number_of-whole (negative (pos n)) h = absurd h
number_of-whole (negative (negsuc n)) h = number_of-negative n h
number_of-whole (float x) h = absurd h

mutual
  of_json-outline : (d : Data) → IsExact d → of_json (outline d) ≡ Some d
  of_json-outline null h = refl
  of_json-outline (boolean b) h = refl
  of_json-outline (number n) h = ap (option_map number) (number_of-whole n h)
  of_json-outline (string s) h = refl
  of_json-outline (array ds) h = ap (option_map array) (of_items-outline ds h)
  of_json-outline (object ms) h = ap (option_map object) (of_members-outline ms no_members h tt)

  of_items-outline : (ds : Items) → ItemsAreExact ds → of_items (items_outline ds) ≡ Some ds
  of_items-outline no_items h = refl
  of_items-outline (item d ds) h =
      ap (option_and_then (λ e. option_map (item e) (of_items (items_outline ds)))) (of_json-outline d h.0) ∙ ap (option_map (item d)) (of_items-outline ds h.1)

  of_members-outline : (ms found : Members) → MembersAreExact ms → AreBelow found ms → of_members (members_outline ms) found ≡ Some (joined found ms)
  of_members-outline no_members found h below = ap Some (sym (joined-no_members found))
  of_members-outline (member k d ms) found h below =
      ap (option_and_then (λ e. of_members (members_outline ms) (put k e found))) (of_json-outline d h.0)
      ∙ (ap (of_members (members_outline ms)) (put_last found k d ms below)
      ∙ (of_members-outline ms (joined found (member k d no_members)) h.2 (below_more found k d ms below h.1)
      ∙ ap Some (joined-joined found k d ms)))

abbrev whole : Option (json.Json × List Token) → Option Data
whole o = option_and_then of_json (option_and_then (λ p. json.if_last p.0 p.1) o)

pub read-compact_text : (d : Data) → IsExact d → depth d ≤ max_depth → read (compact_text d) ≡ Some d
read-compact_text d exact shallow =
    let ts = tree.json_tokens (outline d) in
    let same : tokens (compact_text d) ≡ ts = ap tokens (sym (print-outline d)) ∙ tokens-print ts (ArePrintable-json_tokens (outline d) (HasNumbers-outline d exact)) in
    let within : tree.depth (outline d) ≤ max_depth = subst (λ n. n ≤ max_depth) (sym (depth-outline d)) shallow in
    ap whole (ap (json.value max_depth) (same ∙ sym (append-nil ts)) ∙ value-json_tokens (outline d) max_depth [] within) ∙ of_json-outline d exact
