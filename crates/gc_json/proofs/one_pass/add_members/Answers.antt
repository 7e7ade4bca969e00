use Rattle.std.proofs.Common.{◌≡◌, ◌++◌, Some, None, ap, ◌∙◌, append-nil, arith}
use Rattle.json.specs.Json.{parse_map, read_key}
use Rattle.gc_json.specs.Entries.{entries_data}
use Rattle.gc_json.proofs.EntryTurns.{entries_end, entries_more}
use Rattle.gc_json.proofs.Framing.{one, added}
use Rattle.gc_json.proofs.one_pass.add_members.Goals as goal

pub members-preserved : goal.members-preserved
members-preserved c =
    let l = c.members in
    let k = c.in-Some.key.now in
    let s = c.next_key.new.self in
    let r = c.add_member.new.reader in
    let named : read_key l.reader ≡ Some (Some k, s) = grind arith in
    let before = l.invariant.0 in
    let read = c.in_ok-frame.ensures.value before l.invariant.2 in
    (before ++ one k read.0, l.invariant.1 ∙ ap (parse_map (λ es. before ++ es)) (entries_more 126 l.reader k s r read.0 named read.1) ∙ added before k read.0 (entries_data 126 r), read.2)

pub returns : goal.returns
returns c =
    let l = c.members in
    let r = c.next_key.new.self in
    let ended : read_key l.reader ≡ Some (None, r) = grind arith in
    let before = l.invariant.0 in
    (before, l.invariant.1 ∙ ap (parse_map (λ es. before ++ es)) (entries_end 126 l.reader r ended) ∙ ap (λ es. Some (es, r)) (append-nil before), l.invariant.2)
