use Rattle.std.proofs.Common.{◌≡◌, ◌-◌, ◌<◌, [], ◌∷◌, length, Some, None, string_bytes, String, Vec, BTreeMap, Global, ap, ◌∙◌, sym, arith, rules}
use Rattle.json.specs.Token.{Token}
use Rattle.json.specs.Json.{parse_map, after_end_array, read_key}
use Rattle.json.specs.Reads.{token_of}
use Rattle.json.proofs.Grammar.{read_key-shorter}
use Rattle.serde_json.specs.Data.{null, boolean, number, string, array, object, no_members, put}
use Rattle.serde_json.specs.View.{view, number_view, items_view, members_view}
use Rattle.serde_json.specs.declared.value.Value.{Value, Bool, Null, the_lemmas}
use Rattle.serde_json.specs.declared.value.Value as value
use Rattle.serde_json.proofs.Views.{view-Array, view-Object, members_view-insert_entry}
use Rattle.gc_json.specs.Tokens.{value_data, items_data, members_data}
use Rattle.gc_json.proofs.TokenTurns.{value_is, opens_array, opens_object, items_end, items_more, items_refused, members_end, members_more, members_no_key, members_refused, array_too_deep, object_too_deep}
use Rattle.gc_json.proofs.Growing.{items_before, items_before-no_items, one_more_item, none_before}
use Rattle.gc_json.proofs.Passing.{handed_on, not_json}
use Rattle.gc_json.proofs.token_values.+read.Goals as goal

pub read_items-items-init : goal.read_items-items-init
read_items-items-init t c =
    let all = items_data c.args.depth c.args.reader.now in
    (none_before all ∙ ap (λ vs. parse_map (items_before vs) all) (sym c.new-found.ensures.items), omega arith)

pub read_items-returns-in_err-item-clause-value : goal.read_items-returns-in_err-item-clause-value
read_items-returns-in_err-item-clause-value t c =
    let l = c.items in
    let going : (after_end_array l.reader ≡ None) × (c.take_end_array.new.self ≡ l.reader) = grind arith in
    handed_on _ (items_data c.args.depth c.args.reader.now) _ view (value_data c.args.depth c.take_end_array.new.self) _ _ _ c.from_residual.ensures.1 c.in_err-item.ensures.value
    (λ none. l.invariant.0 ∙ ap (parse_map (items_before l.found.items)) (items_refused c.args.depth l.reader going.0 (rw (← going.1) none)))

pub read_items-items-preserved : goal.read_items-items-preserved
read_items-items-preserved t c =
    let l = c.items in
    let going : (after_end_array l.reader ≡ None) × (c.take_end_array.new.self ≡ l.reader) = grind arith in
    let done = c.in_ok-item.ensures in
    let v = c.in_ok-item.item in
    let r = c.read_value.new.reader in
    let less : length r < length l.reader = rw (← going.1) done.shorter in
    let turn = items_more c.args.depth l.reader r (view v) going.0 (rw (← going.1) done.value) in (
      l.invariant.0 ∙ ap (parse_map (items_before l.found.items)) turn ∙ one_more_item l.found.items v _
          ∙ ap (λ vs. parse_map (items_before vs) (items_data c.args.depth r)) (sym c.in_ok-push.ensures.items),
      omega (arith, l.invariant.1),
    )

pub read_items-returns-clause-value : goal.read_items-returns-clause-value
read_items-returns-clause-value t c =
    let l = c.items in
    let r = c.take_end_array.new.self in
    l.invariant.0 ∙ ap (parse_map (items_before l.found.items)) (items_end c.args.depth l.reader r (grind arith)) ∙ ap (λ ds. Some (ds, r)) (items_before-no_items l.found.items)

pub read_members-members-init : goal.read_members-members-init
read_members-members-init t c = (ap (λ es. members_data c.args.depth (members_view es) c.args.reader.now) (sym c.new-found.ensures.empty), omega arith)

pub read_members-returns-in_err-name-clause-value : goal.read_members-returns-in_err-name-clause-value
read_members-returns-in_err-name-clause-value t c =
    let l = c.members in
    not_json _ (members_data c.args.depth no_members c.args.reader.now) _ _ c.from_residual.ensures.1 (l.invariant.0 ∙ members_no_key c.args.depth l.reader (members_view l.found.entries) c.in_err-name.ensures.value)

pub read_members-returns-in_err-member-clause-value : goal.read_members-returns-in_err-member-clause-value
read_members-returns-in_err-member-clause-value t c =
    let l = c.members in
    let k = c.in-Some.name.now in
    let s = c.next_key.new.self in
    let named : read_key l.reader ≡ Some (Some k, s) = grind arith in
    handed_on _ (members_data c.args.depth no_members c.args.reader.now) _ view (value_data c.args.depth s) _ _ _ c.from_residual-in_err-member.ensures.1 c.in_err-member.ensures.value
    (λ none. l.invariant.0 ∙ members_refused c.args.depth l.reader (members_view l.found.entries) k s named none)

pub read_members-members-preserved : goal.read_members-members-preserved
read_members-members-preserved t c =
    let l = c.members in
    let old = members_view l.found.entries in
    let k = c.in-Some.name.now in
    let s = c.next_key.new.self in
    let named : read_key l.reader ≡ Some (Some k, s) = grind arith in
    let done = c.in_ok-member.ensures in
    let v = c.in_ok-member.member in
    let r = c.read_value.new.reader in
    let less = read_key-shorter l.reader (Some k) s named in
    let lesser = done.shorter in
    let copied : string_bytes c.in_ok-key.key ≡ k = search rules in
    let inserted : members_view c.insert.new.self.entries ≡ put k (view v) old =
    ap members_view c.in_ok-insert.ensures.entries ∙ members_view-insert_entry l.found.entries c.in_ok-key.key v ∙ ap (λ name. put name (view v) old) copied in (
      l.invariant.0 ∙ members_more c.args.depth l.reader r old k s (view v) named done.value
          ∙ ap (λ found. members_data c.args.depth found r) (sym inserted),
      omega (arith, l.invariant.1),
    )

pub read_members-returns-clause-value : goal.read_members-returns-clause-value
read_members-returns-clause-value t c =
    let l = c.members in
    l.invariant.0 ∙ members_end c.args.depth l.reader c.next_key.new.self (members_view l.found.entries) (grind arith)

pub read_value-returns-then-depth-eq0-clause-value : goal.read_value-returns-then-depth-eq0-clause-value
read_value-returns-then-depth-eq0-clause-value t c =
    let first : c.args.reader.now ≡ token_of c.in-Some.token ∷ c.next.new.self = grind arith in
    let is : c.args.reader.now ≡ Token.begin_array ∷ c.next.new.self = first ∙ ap (λ k. token_of k ∷ c.next.new.self) c.in-BeginArray.is in
    ap (value_data c.args.depth) is ∙ array_too_deep c.args.depth c.next.new.self (omega arith)

pub read_value-returns-then-depth-eq0-2-clause-value : goal.read_value-returns-then-depth-eq0-2-clause-value
read_value-returns-then-depth-eq0-2-clause-value t c =
    let first : c.args.reader.now ≡ token_of c.in-Some.token ∷ c.next.new.self = grind arith in
    let is : c.args.reader.now ≡ Token.begin_object ∷ c.next.new.self = first ∙ ap (λ k. token_of k ∷ c.next.new.self) c.in-BeginObject.is in
    ap (value_data c.args.depth) is ∙ object_too_deep c.args.depth c.next.new.self (omega arith)

pub read_value-returns-in_err-read_items-in-BeginArray-clause-value : goal.read_value-returns-in_err-read_items-in-BeginArray-clause-value
read_value-returns-in_err-read_items-in-BeginArray-clause-value t c =
    let first : c.args.reader.now ≡ token_of c.in-Some.token ∷ c.next.new.self = grind arith in
    let is : c.args.reader.now ≡ Token.begin_array ∷ c.next.new.self = first ∙ ap (λ k. token_of k ∷ c.next.new.self) c.in-BeginArray.is in
    let opened = ap (value_data c.args.depth) is ∙ opens_array c.args.depth c.next.new.self (omega arith) in
    handed_on _ (value_data c.args.depth c.args.reader.now) _ (λ (v : Vec Value Global). items_view v.items) (items_data (c.args.depth - 1) c.next.new.self) _ _ _ c.from_residual-in_err-read_items-in-BeginArray.ensures.1 c.in_err-read_items-in-BeginArray.ensures.value
    (λ none. opened ∙ ap (parse_map array) none)

pub read_value-returns-in_err-read_members-in-BeginObject-clause-value : goal.read_value-returns-in_err-read_members-in-BeginObject-clause-value
read_value-returns-in_err-read_members-in-BeginObject-clause-value t c =
    let first : c.args.reader.now ≡ token_of c.in-Some.token ∷ c.next.new.self = grind arith in
    let is : c.args.reader.now ≡ Token.begin_object ∷ c.next.new.self = first ∙ ap (λ k. token_of k ∷ c.next.new.self) c.in-BeginObject.is in
    let opened = ap (value_data c.args.depth) is ∙ opens_object c.args.depth c.next.new.self (omega arith) in
    handed_on _ (value_data c.args.depth c.args.reader.now) _ (λ (m : BTreeMap (String Global) Value). members_view m.entries) (members_data (c.args.depth - 1) no_members c.next.new.self) _ _ _ c.from_residual-in_err-read_members-in-BeginObject.ensures.1 c.in_err-read_members-in-BeginObject.ensures.value
    (λ none. opened ∙ ap (parse_map object) none)

pub read_value-returns-in_ok-read_items-in-BeginArray-clause-value : goal.read_value-returns-in_ok-read_items-in-BeginArray-clause-value
read_value-returns-in_ok-read_items-in-BeginArray-clause-value t c =
    let first : c.args.reader.now ≡ token_of c.in-Some.token ∷ c.next.new.self = grind arith in
    let is : c.args.reader.now ≡ Token.begin_array ∷ c.next.new.self = first ∙ ap (λ k. token_of k ∷ c.next.new.self) c.in-BeginArray.is in
    let opened = ap (value_data c.args.depth) is ∙ opens_array c.args.depth c.next.new.self (omega arith) in
    let found = c.in_ok-read_items-in-BeginArray in
    opened ∙ ap (parse_map array) found.ensures.value ∙ ap (λ d. Some (d, c.read_items.new.reader)) (sym (view-Array found.field-0))

pub read_value-returns-in_ok-read_members-in-BeginObject-clause-value : goal.read_value-returns-in_ok-read_members-in-BeginObject-clause-value
read_value-returns-in_ok-read_members-in-BeginObject-clause-value t c =
    let first : c.args.reader.now ≡ token_of c.in-Some.token ∷ c.next.new.self = grind arith in
    let is : c.args.reader.now ≡ Token.begin_object ∷ c.next.new.self = first ∙ ap (λ k. token_of k ∷ c.next.new.self) c.in-BeginObject.is in
    let opened = ap (value_data c.args.depth) is ∙ opens_object c.args.depth c.next.new.self (omega arith) in
    let found = c.in_ok-read_members-in-BeginObject in
    opened ∙ ap (parse_map object) found.ensures.value ∙ ap (λ d. Some (d, c.read_members.new.reader)) (sym (view-Object found.field-0))

pub read_value-returns-in_ok-from_str-in-String-clause-value : goal.read_value-returns-in_ok-from_str-in-String-clause-value
read_value-returns-in_ok-from_str-in-String-clause-value t c =
    let first : c.args.reader.now ≡ token_of c.in-Some.token ∷ c.next.new.self = grind arith in
    let is : c.args.reader.now ≡ Token.string c.in-String.text.now ∷ c.next.new.self = grind (arith, first) in
    let seen : view (value.String c.in_ok-from_str-in-String.field-0) ≡ string c.in-String.text.now = search (rules, the_lemmas) in
    ap (value_data c.args.depth) is ∙ value_is c.args.depth _ ∙ ap (λ d. Some (d, c.next.new.self)) (sym seen)

pub read_value-returns-in-Bool-clause-value : goal.read_value-returns-in-Bool-clause-value
read_value-returns-in-Bool-clause-value t c =
    let first : c.args.reader.now ≡ token_of c.in-Some.token ∷ c.next.new.self = grind arith in
    let is : c.args.reader.now ≡ Token.boolean c.in-Bool.b ∷ c.next.new.self = grind (arith, first) in
    let seen : view (Bool c.in-Bool.b) ≡ boolean c.in-Bool.b = search (rules, the_lemmas) in
    ap (value_data c.args.depth) is ∙ value_is c.args.depth _ ∙ ap (λ d. Some (d, c.next.new.self)) (sym seen)

pub read_value-returns-in-Null-clause-value : goal.read_value-returns-in-Null-clause-value
read_value-returns-in-Null-clause-value t c =
    let first : c.args.reader.now ≡ token_of c.in-Some.token ∷ c.next.new.self = grind arith in
    let is : c.args.reader.now ≡ Token.null ∷ c.next.new.self = grind (arith, first) in
    let seen : view (Null) ≡ null = search (rules, the_lemmas) in
    ap (value_data c.args.depth) is ∙ value_is c.args.depth _ ∙ ap (λ d. Some (d, c.next.new.self)) (sym seen)

pub read_value-returns-in-EndObject-clause-value : goal.read_value-returns-in-EndObject-clause-value
read_value-returns-in-EndObject-clause-value t c =
    let first : c.args.reader.now ≡ token_of c.in-Some.token ∷ c.next.new.self = grind arith in
    rw (value_is c.args.depth c.args.reader.now, first) (grind arith)

pub read_value-returns-in-None-clause-value : goal.read_value-returns-in-None-clause-value
read_value-returns-in-None-clause-value t c =
    let first : c.args.reader.now ≡ token_of c.in-Some.token ∷ c.next.new.self = grind arith in
    let is : c.args.reader.now ≡ Token.number c.in-Number.text.now ∷ c.next.new.self = grind (arith, first) in
    ap (value_data c.args.depth) is ∙ value_is c.args.depth _ ∙ rw (← c.in-None.ensures)

pub read_value-returns-in_default-clause-value : goal.read_value-returns-in_default-clause-value
read_value-returns-in_default-clause-value t c =
    let empty : c.args.reader.now ≡ [] = grind arith in
    ap (value_data c.args.depth) empty ∙ value_is c.args.depth []

pub read_value-returns-in-Some-parse_number-clause-value : goal.read_value-returns-in-Some-parse_number-clause-value
read_value-returns-in-Some-parse_number-clause-value t c =
    let first : c.args.reader.now ≡ token_of c.in-Some.token ∷ c.next.new.self = grind arith in
    let is : c.args.reader.now ≡ Token.number c.in-Number.text.now ∷ c.next.new.self = grind (arith, first) in
    let n = c.in-Some-parse_number.number in
    let seen : view (value.Number n) ≡ number (number_view n) = search (rules, the_lemmas) in
    ap (value_data c.args.depth) is ∙ value_is c.args.depth _ ∙ rw (← c.in-Some-parse_number.ensures, seen)
