-- What holds of each search that a certificate tells.
use Rattle.std.specs.Prelude.{◌≤◌}
use Rattle.gc_automata.specs.Automata.{automaton_of}
use Rattle.gc_prod.specs.Segments.{AreSegments}
use Rattle.gc_regx.specs.Expressions.{IsExpression}
use Rattle.gc_regx.specs.Trees.{ARegex}
use Rattle.gc_cert_text.specs.Certificates.{SearchTold}
use Rattle.gc_cert_text.specs.Nesting.{nesting_of}

-- its expression is one that the grammar gives, of at most 1,024 states and with parentheses at most 64 deep, and its
-- segments are segments of its graph
pub record IsFormedSearch (s : SearchTold) : Type 0 where
  pub expression : IsExpression s.expression
  pub few : (automaton_of {k = ARegex} s.expression).states ≤ 1024
  pub shallow : nesting_of {k = ARegex} s.expression ≤ 64
  pub segments : AreSegments s.graph s.segments
