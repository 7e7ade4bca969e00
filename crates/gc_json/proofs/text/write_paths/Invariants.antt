use Rattle.std.proofs.Common.{◌≡◌, ◌++◌, ◌+◌, drop}
use Rattle.gc_json.specs.CanonicalText.{path_data}
use Rattle.gc_json.proofs.Rest.{rest_of_array}
use Rattle.gc_json.proofs.text.write_paths.Given as goal

-- the tokens so far with the rest are the tokens of all, and each path took a step
abbrev pub invariant-loop-i : goal.invariant-loop-i
invariant-loop-i g l =
    (l.writer.before ≡ l.initial.writer.before)
    × (l.writer.tokens ++ rest_of_array path_data (drop l.i l.g.paths) ≡ l.initial.writer.tokens ++ rest_of_array path_data l.g.paths)
    × (l.steps ≡ l.initial.steps + l.i)
