use Rattle.std.proofs.Common.{◌≡◌, map, drop}
use Rattle.gc_json.specs.JsonValues.{is_key_among}
use Rattle.gc_cert_text.proofs.shapes.is_key_among.Given as goal

-- the key is among the rest just where it is among all
abbrev pub invariant-loop-other : goal.invariant-loop-other
invariant-loop-other l =
    is_key_among (map (λ k. k.now) (drop l.other-index l.keys)) l.key ≡ is_key_among (map (λ k. k.now) l.keys) l.key
