use Rattle.std.proofs.Common.{ap, ◌∙◌}
use Rattle.gc_expr.specs.Views.{name_of}
use Rattle.gc_regx.specs.Trees.{Cat, row}
use Rattle.gc_ast.specs.PatternViews.{all_named_by}
use Rattle.gc_parse_patterns.proofs.RegexLemmas.{chained_apart}
use Rattle.gc_parse_patterns.proofs.part.sequence.Goals as goal
use Rattle.std.proofs.lemmas.Bool.Decides.{nat_tests}
use native.Mathlib.Omega.{arith}

pub returns : goal.returns
returns c = λ names.
    (λ j. record {
      tree = (c.cat.ensures ∙ ap (λ trees. Cat (row trees)) c.in_ok-regexes.ensures.trees) j;
      views = ap (all_named_by (name_of names)) c.in_ok-regexes.ensures.views j;
    })
    ∙ chained_apart Cat names c.args.parts.items (λ one. grind (arith, nat_tests, c.if-len-eq1.false, c.len.ensures, c.args.parts.ok, one))
