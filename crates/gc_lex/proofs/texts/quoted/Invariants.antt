use Rattle.std.proofs.Common.{◌≡◌, ◌+◌, ◌-◌, ◌<◌, ◌≤◌, length, drop}
use Rattle.std.specs.Str.{IsCharBoundary}
use Rattle.std.specs.String.{string_bytes}
use Rattle.gc_lex.specs.Contents.{body_of}
use Rattle.gc_lex.specs.Stops.{run_before}
use Rattle.gc_lex.proofs.texts.quoted.Given as goal

-- the contents so far, and what the rest says, are what the whole says
abbrev pub invariant-pieces : goal.invariant-pieces
invariant-pieces l = record {
  started : l.opening < l.at;
  within : l.at ≤ length l.text;
  cut : IsCharBoundary l.text l.at;
  said : run_before (string_bytes l.contents) (l.at - (l.opening + 1)) (body_of l.quote (drop l.at l.text))
      ≡ body_of l.quote (drop (l.opening + 1) l.text);
}

abbrev pub decreases-pieces : goal.decreases-pieces
decreases-pieces l = length l.text - l.at
