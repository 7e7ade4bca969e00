use Rattle.std.proofs.Common.{◌≡◌, ◌++◌, Some, ap, ◌∙◌, arith}
use Rattle.json.specs.Json.{parse_map, read_key}
use Rattle.gc_json.specs.Entries.{entries_data}
use Rattle.gc_json.specs.Frames.{frame_of, frame_after}
use Rattle.gc_json.specs.Tokens.{value_data}
use Rattle.gc_json.specs.declared.frame.Frame.{Frame}
use Rattle.gc_json.proofs.EntryTurns.{entries_end, entries_more, entries_no_key, entries_refused}
use Rattle.gc_json.proofs.Framing.{next_member, last_member}
use Rattle.gc_json.proofs.Passing.{handed_on, not_json, picked, unpicked}
use Rattle.gc_json.proofs.frame.frame_of_tokens.Goals as goal

pub returns-in_err-key : goal.returns-in_err-key
returns-in_err-key c =
    let l = c.members in
    not_json _ (parse_map frame_of (entries_data c.args.depth c.args.reader.now)) _ _ c.from_residual.ensures.1
    (ap (parse_map frame_of) (l.invariant.1 ∙ ap (parse_map (λ es. l.invariant.0 ++ es)) (entries_no_key c.args.depth l.reader c.in_err-key.ensures.value)))

pub returns-in_err-frame : goal.returns-in_err-frame
returns-in_err-frame c =
    let l = c.members in
    let k = c.in-Some.key.now in
    let s = c.next_key.new.self in
    let named : read_key l.reader ≡ Some (Some k, s) = grind arith in
    handed_on _ (parse_map frame_of (entries_data c.args.depth c.args.reader.now)) _ (λ (f : Frame). f) (parse_map (frame_after l.frame k) (value_data c.args.depth s)) _ _ _ c.from_residual-in_err-frame.ensures.1
    c.in_err-frame.ensures.value
    (λ none. ap (parse_map frame_of)
    (l.invariant.1 ∙ ap (parse_map (λ es. l.invariant.0 ++ es)) (entries_refused c.args.depth l.reader k s named (unpicked (frame_after l.frame k) (value_data c.args.depth s) none))))

pub members-preserved : goal.members-preserved
members-preserved c =
    let l = c.members in
    let k = c.in-Some.key.now in
    let s = c.next_key.new.self in
    let r = c.after.new.reader in
    let named : read_key l.reader ≡ Some (Some k, s) = grind arith in
    let read = picked (frame_after l.frame k) (value_data c.args.depth s) c.in_ok-frame.frame r c.in_ok-frame.ensures.value in
    next_member _ _ (entries_data c.args.depth r) l.invariant.0 k read.0 l.frame _ l.invariant.1 (entries_more c.args.depth l.reader k s r read.0 named read.1) l.invariant.2 read.2

pub returns : goal.returns
returns c =
    let l = c.members in
    let r = c.next_key.new.self in
    last_member _ _ l.invariant.0 r l.frame l.invariant.1 (entries_end c.args.depth l.reader r (grind arith)) l.invariant.2
