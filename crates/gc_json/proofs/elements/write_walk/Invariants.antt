use Rattle.std.proofs.Common.{◌≡◌, ◌++◌, drop}
use Rattle.gc_json.proofs.Rest.{rest_of_walk}
use Rattle.gc_json.proofs.elements.write_walk.Given as goal

-- the tokens so far with the rest are the tokens of all
abbrev pub invariant-loop-step : goal.invariant-loop-step
invariant-loop-step l =
    (l.writer.before ≡ l.initial.writer.before)
    × (l.writer.tokens ++ rest_of_walk (drop l.step-index l.step-items) ≡ l.initial.writer.tokens ++ rest_of_walk l.step-items)
