use Rattle.std.proofs.Common.{◌≡◌, take}
use Rattle.gc_group.proofs.key_parts.KeyParts.copied.Given as goal

-- the parts so far
abbrev pub invariant-loop-part : goal.invariant-loop-part
invariant-loop-part l = l.copied ≡ take l.part-index l.parts
