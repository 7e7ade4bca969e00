use Rattle.std.proofs.Common.{◌≡◌, Some, refl, ap, sym, ◌∙◌, arith}
use Rattle.json.proofs.Grammar.{read_key-shorter}
use Rattle.json.specs.Json.{parse_map, read_key}
use Rattle.serde_json.specs.Data.{no_members, put}
use Rattle.gc_json.specs.ElementSeen.{element_seen}
use Rattle.gc_json.specs.ElementValues.{values_at, values_after}
use Rattle.gc_json.specs.Tokens.{value_data, members_data}
use Rattle.gc_json.proofs.ElementTurns.{values_put}
use Rattle.gc_json.proofs.Passing.{handed_on, not_json, picked, unpicked}
use Rattle.gc_json.proofs.TokenTurns.{members_end, members_more, members_no_key, members_refused}
use Rattle.gc_json.proofs.element.element_of_members.Goals as goal

pub returns-in_err-key-clause-value : goal.returns-in_err-key-clause-value
returns-in_err-key-clause-value c =
    let l = c.members in
    not_json _ (parse_map (values_at c.args.kind) (members_data c.args.depth no_members c.args.reader.now)) _ _ c.from_residual.ensures.1
    (ap (parse_map (values_at c.args.kind)) (l.invariant.1 ∙ members_no_key c.args.depth l.reader l.invariant.0 c.in_err-key.ensures.value))

pub members-init : goal.members-init
members-init c = (no_members, refl, sym c.empty-element.ensures, omega arith)

pub members-preserved : goal.members-preserved
members-preserved c =
    let l = c.members in
    let k = c.in-Some.key.now in
    let s = c.next_key.new.self in
    let r = c.take.new.reader in
    let named : read_key l.reader ≡ Some (Some k, s) = grind arith in
    let less = read_key-shorter l.reader (Some k) s named in
    let lesser = c.in_ok-take.ensures.shorter in
    let read = picked (values_after c.args.kind (element_seen l.element) k) (value_data c.args.depth s) _ r c.in_ok-take.ensures.value in
    let found = l.invariant.0 in (
      put k read.0 found,
      l.invariant.1 ∙ members_more c.args.depth l.reader r found k s read.0 named read.1,
      values_put c.args.kind k read.0 found ∙ ap (λ e. values_after c.args.kind e k read.0) l.invariant.2 ∙ read.2,
      omega (arith, l.invariant.3),
    )

pub returns-in_err-take-clause-value : goal.returns-in_err-take-clause-value
returns-in_err-take-clause-value c =
    let l = c.members in
    let k = c.in-Some.key.now in
    let s = c.next_key.new.self in
    let named : read_key l.reader ≡ Some (Some k, s) = grind arith in
    let f = values_after c.args.kind (element_seen l.element) k in
    handed_on _ (parse_map (values_at c.args.kind) (members_data c.args.depth no_members c.args.reader.now)) _ (λ (u : Unit {0}). element_seen c.take.new.self) (parse_map f (value_data c.args.depth s)) _ _ _
    c.from_residual-in_err-take.ensures.1 c.in_err-take.ensures.value
    (λ none. ap (parse_map (values_at c.args.kind)) (l.invariant.1 ∙ members_refused c.args.depth l.reader l.invariant.0 k s named (unpicked f (value_data c.args.depth s) none)))

pub returns-clause-value : goal.returns-clause-value
returns-clause-value c =
    let l = c.members in
    let r = c.next_key.new.self in
    ap (parse_map (values_at c.args.kind)) (l.invariant.1 ∙ members_end c.args.depth l.reader r l.invariant.0 (grind arith)) ∙ ap (λ e. Some (e, r)) l.invariant.2
