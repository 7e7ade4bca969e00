use Rattle.std.proofs.Common.{◌≡◌, ◌<◌, Some, Ok, true, false, option_map, refl, sym, ap, ◌∙◌, subst, arith}
use Rattle.json.specs.Json.{read_key}
use Rattle.gc_json.specs.Tokens.{value_data}
use Rattle.gc_json.specs.Entries.{entries_data, nth_at}
use Rattle.gc_json.specs.Finds.{Finds}
use Rattle.gc_json.proofs.TokenTurns.{some_of}
use Rattle.gc_json.proofs.EntryTurns.{entries_end, entries_more, entries_no_key, entries_refused}
use Rattle.gc_json.proofs.Search.{passed, found, nothing_due}
use Rattle.gc_json.proofs.finding.find.Goals.{else-is-via-then-is+else-left-le1, else-is-via-else-is}
use Rattle.gc_json.proofs.finding.find.Goals as goal

pub returns-in_err-name : goal.returns-in_err-name
returns-in_err-name c =
    let l = c.members in
    nothing_due _ _ _ (l.invariant ∙ ap (option_map (λ p. nth_at c.args.key.now l.left p.0)) (entries_no_key c.args.depth l.reader c.in_err-name.ensures.value))

pub returns-then-left-le1 : goal.returns-then-left-le1
returns-then-left-le1 c =
    let l = c.members in
    let k = c.in-Some.name.now in
    let s = c.next_key.new.self in
    let named : read_key l.reader ≡ Some (Some k, s) = grind arith in
    subst (λ o. Finds o (Ok true) (option_map (λ p. p.0) (value_data c.args.depth s))) (sym l.invariant)
    (found c.args.key.now c.args.depth l.reader s k l.left named (sym c.is_key-is.ensures ∙ c.if-is.true) (omega arith))

pub members-preserved : goal.members-preserved
members-preserved c =
    let l = c.members in
    let k = c.in-Some.name.now in
    let s = c.next_key.new.self in
    let r = c.check_value.new.reader in
    let named : read_key l.reader ≡ Some (Some k, s) = grind arith in
    let read = some_of (value_data c.args.depth s) r c.in_ok-check_value.ensures.value in
    let more : c.is_key-is.result ≡ true → 1 < l.left = elim c.else-is.branch [ else-is-via-then-is+else-left-le1 w ↦ λ e. omega (arith, w.if-left-le1) | else-is-via-else-is w ↦ λ e. grind arith ] in
    l.invariant ∙ ap (option_map (λ p. nth_at c.args.key.now l.left p.0)) (entries_more c.args.depth l.reader k s r read.0 named read.1)
    ∙ passed c.args.key.now k read.0 l.left c.left_after-left.result c.is_key-is.result (entries_data c.args.depth r) (sym c.is_key-is.ensures) c.left_after-left.ensures more

pub returns-in_err-check_value : goal.returns-in_err-check_value
returns-in_err-check_value c =
    let l = c.members in
    let k = c.in-Some.name.now in
    let s = c.next_key.new.self in
    let named : read_key l.reader ≡ Some (Some k, s) = grind arith in
    nothing_due _ _ _ (l.invariant ∙ ap (option_map (λ p. nth_at c.args.key.now l.left p.0)) (entries_refused c.args.depth l.reader k s named c.in_err-check_value.ensures.value))

pub returns : goal.returns
returns c =
    let l = c.members in
    let end = l.invariant ∙ ap (option_map (λ p. nth_at c.args.key.now l.left p.0)) (entries_end c.args.depth l.reader c.next_key.new.self (grind arith)) in
    subst (λ o. Finds o (Ok false) (option_map (λ p. p.0) (value_data c.args.depth c.next_key.new.self))) (sym end) (refl)
