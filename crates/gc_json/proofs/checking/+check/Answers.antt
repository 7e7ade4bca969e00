use Rattle.std.proofs.Common.{◌≡◌, ◌-◌, ◌<◌, [], ◌∷◌, length, Some, None, refl, ap, ◌∙◌, sym, arith}
use Rattle.json.specs.Json.{after_end_array, read_key}
use Rattle.json.specs.Reads.{token_of}
use Rattle.json.proofs.Grammar.{read_key-shorter}
use Rattle.serde_json.specs.Data.{array, object, no_members, put}
use Rattle.gc_json.specs.Tokens.{value_data, items_data, members_data, rest_of}
use Rattle.gc_json.proofs.TokenTurns.{value_is, opens_array, opens_object, items_end, items_more, items_refused, members_end, members_more, members_no_key, members_refused, some_of, rest_of-parse_map, none_left, in_range, out_of_range, array_too_deep, object_too_deep, passes_as}
use Rattle.gc_json.proofs.checking.+check.Goals as goal

pub check_items-items-preserved : goal.check_items-items-preserved
check_items-items-preserved t c =
    let l = c.items in
    let r = c.check_value.new.reader in
    let going : (after_end_array l.reader ≡ None) × (c.take_end_array.new.self ≡ l.reader) = grind arith in
    let done = c.in_ok-check_value.ensures in
    let read = some_of (value_data c.args.depth l.reader) r (rw (← going.1) done.value) in
    let less : length r < length l.reader = rw (← going.1) done.shorter in
    (l.invariant.0 ∙ ap rest_of (items_more c.args.depth l.reader r read.0 going.0 read.1) ∙ rest_of-parse_map _ _, omega (arith, l.invariant.1))

pub check_items-returns-in_err-check_value-clause-value : goal.check_items-returns-in_err-check_value-clause-value
check_items-returns-in_err-check_value-clause-value t c =
    let l = c.items in
    let going : (after_end_array l.reader ≡ None) × (c.take_end_array.new.self ≡ l.reader) = grind arith in
    let none = none_left (items_data c.args.depth c.args.reader.now) (l.invariant.0 ∙ ap rest_of (items_refused c.args.depth l.reader going.0 (rw (← going.1) c.in_err-check_value.ensures.value))) in
    grind (arith, none)

pub check_items-returns-clause-value : goal.check_items-returns-clause-value
check_items-returns-clause-value t c =
    let l = c.items in
    l.invariant.0 ∙ ap rest_of (items_end c.args.depth l.reader c.take_end_array.new.self (grind arith))

pub check_members-members-init : goal.check_members-members-init
check_members-members-init t c = (no_members, refl, omega arith)

pub check_members-returns-in_err-next_key-clause-value : goal.check_members-returns-in_err-next_key-clause-value
check_members-returns-in_err-next_key-clause-value t c =
    let l = c.members in
    let none = none_left (members_data c.args.depth no_members c.args.reader.now) (l.invariant.1 ∙ ap rest_of (members_no_key c.args.depth l.reader l.invariant.0 c.in_err-next_key.ensures.value)) in
    grind (arith, none)

pub check_members-members-preserved : goal.check_members-members-preserved
check_members-members-preserved t c =
    let l = c.members in
    let k = c.in-Some.field-0.now in
    let s = c.next_key.new.self in
    let r = c.check_value.new.reader in
    let key : read_key l.reader ≡ Some (Some k, s) = grind arith in
    let less = read_key-shorter l.reader (Some k) s key in
    let done = c.in_ok-check_value.ensures in
    let lesser = done.shorter in
    let read = some_of (value_data c.args.depth s) r done.value in
    (put k read.0 l.invariant.0, l.invariant.1 ∙ ap rest_of (members_more c.args.depth l.reader r l.invariant.0 k s read.0 key read.1), omega (arith, l.invariant.2))

pub check_members-returns-in_err-check_value-clause-value : goal.check_members-returns-in_err-check_value-clause-value
check_members-returns-in_err-check_value-clause-value t c =
    let l = c.members in
    let k = c.in-Some.field-0.now in
    let s = c.next_key.new.self in
    let key : read_key l.reader ≡ Some (Some k, s) = grind arith in
    let none = none_left (members_data c.args.depth no_members c.args.reader.now) (l.invariant.1 ∙ ap rest_of (members_refused c.args.depth l.reader l.invariant.0 k s key c.in_err-check_value.ensures.value)) in
    grind (arith, none)

pub check_members-returns-clause-value : goal.check_members-returns-clause-value
check_members-returns-clause-value t c =
    let l = c.members in
    l.invariant.1 ∙ ap rest_of (members_end c.args.depth l.reader c.next_key.new.self l.invariant.0 (grind arith))

pub check_value-returns-in_default-clause-value : goal.check_value-returns-in_default-clause-value
check_value-returns-in_default-clause-value t c =
    let empty : c.args.reader.now ≡ [] = grind arith in
    ap (value_data c.args.depth) empty ∙ value_is c.args.depth []

pub check_token-returns-in-EndObject-clause-value : goal.check_token-returns-in-EndObject-clause-value
check_token-returns-in-EndObject-clause-value t c = rw (value_is c.args.depth (token_of c.args.token ∷ c.args.reader.now)) (grind arith)

pub check_token-returns-in-String-clause-value : goal.check_token-returns-in-String-clause-value
check_token-returns-in-String-clause-value t c = rw (value_is c.args.depth (token_of c.args.token ∷ c.args.reader.now)) (grind arith)

pub check_token-returns-then-is_number-clause-value : goal.check_token-returns-then-is_number-clause-value
check_token-returns-then-is_number-clause-value t c =
    ap (λ k. rest_of (value_data c.args.depth (token_of k ∷ c.args.reader.now))) c.in-Number.is ∙ in_range c.args.depth _ c.args.reader.now (sym c.is_number.ensures ∙ c.if-is_number.true)

pub check_token-returns-else-is_number-clause-value : goal.check_token-returns-else-is_number-clause-value
check_token-returns-else-is_number-clause-value t c =
    ap (λ k. value_data c.args.depth (token_of k ∷ c.args.reader.now)) c.in-Number.is ∙ out_of_range c.args.depth _ c.args.reader.now (sym c.is_number.ensures ∙ c.if-is_number.false)

pub check_token-returns-then-depth-eq0-clause-value : goal.check_token-returns-then-depth-eq0-clause-value
check_token-returns-then-depth-eq0-clause-value t c =
    ap (λ k. value_data c.args.depth (token_of k ∷ c.args.reader.now)) c.in-BeginArray.is ∙ array_too_deep c.args.depth c.args.reader.now (omega arith)

pub check_token-returns-then-depth-eq0-2-clause-value : goal.check_token-returns-then-depth-eq0-2-clause-value
check_token-returns-then-depth-eq0-2-clause-value t c =
    ap (λ k. value_data c.args.depth (token_of k ∷ c.args.reader.now)) c.in-BeginObject.is ∙ object_too_deep c.args.depth c.args.reader.now (omega arith)

pub check_token-returns-else-depth-eq0-clause-value : goal.check_token-returns-else-depth-eq0-clause-value
check_token-returns-else-depth-eq0-clause-value t c =
    let ts = c.args.reader.now in
    let same = ap (λ k. value_data c.args.depth (token_of k ∷ ts)) c.in-BeginArray.is ∙ opens_array c.args.depth ts (omega arith) in
    passes_as array (value_data c.args.depth (token_of c.args.token ∷ ts)) (items_data (c.args.depth - 1) ts) same c.check_items.result c.check_items.new.reader c.check_items.ensures.value

pub check_token-returns-else-depth-eq0-2-clause-value : goal.check_token-returns-else-depth-eq0-2-clause-value
check_token-returns-else-depth-eq0-2-clause-value t c =
    let ts = c.args.reader.now in
    let same = ap (λ k. value_data c.args.depth (token_of k ∷ ts)) c.in-BeginObject.is ∙ opens_object c.args.depth ts (omega arith) in
    passes_as object (value_data c.args.depth (token_of c.args.token ∷ ts)) (members_data (c.args.depth - 1) no_members ts) same c.check_members.result c.check_members.new.reader c.check_members.ensures.value
