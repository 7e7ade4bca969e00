use Rattle.std.proofs.Common.{◌≡◌, ◌++◌, drop}
use Rattle.gcore.specs.Explanations.{all_lines}
use Rattle.gcore.proofs.explain.all_lines.Given as goal

-- what is there so far and the lines that are left make all lines
abbrev pub invariant-loop-line : goal.invariant-loop-line
invariant-loop-line l = l.text.items ++ all_lines (drop l.line-index l.lines) ≡ all_lines l.lines
