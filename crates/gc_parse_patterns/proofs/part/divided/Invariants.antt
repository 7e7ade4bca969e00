use Rattle.std.proofs.Common.{◌≡◌, map}
use Rattle.std.specs.List.{flat_map}
use Rattle.gc_regx.specs.Views.{regex_tree}
use Rattle.gc_parse_patterns.proofs.part.divided.Given as goal

-- what was taken from the parts so far
abbrev pub invariant-loop-part : goal.invariant-loop-part
invariant-loop-part l =
    (map regex_tree l.regexes.items ≡ map (λ part. regex_tree part.regex) l.yielded)
    × (l.views.items ≡ flat_map (λ part. part.views.items) l.yielded)
